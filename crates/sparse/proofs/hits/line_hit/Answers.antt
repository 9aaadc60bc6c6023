use Rattle.std.proofs.Common.{sym, ◌∙◌, arith}
use Rattle.finite.proofs.Search.{any_here, none_any}
use Rattle.sparse.specs.Sets.{line_hit}
use Rattle.sparse.proofs.hits.line_hit.Goals as goal

pub returns-then-hit_at : goal.returns-then-hit_at
unfolding line_hit
returns-then-hit_at c = sym (any_here _ _ c.loop-d.d c.loop-d-test.true (sym c.hit_at.ensures ∙ c.if-hit_at.true))

pub returns : goal.returns
unfolding line_hit
returns c = sym (none_any _ _ (λ j l. c.loop-d.invariant j (omega arith)))
