use Rattle.std.proofs.Common.{sym, ◌∙◌, arith}
use Rattle.finite.proofs.Search.{search-finds, least-none}
use Rattle.plan.proofs.form.first_bad_pair.Goals as goal

pub returns-then-bad_pair : goal.returns-then-bad_pair
returns-then-bad_pair c = search-finds _ _ _ c.loop-k-test.true c.loop-k.invariant (sym c.bad_pair.ensures ∙ c.if-bad_pair.true)

pub returns : goal.returns
returns c = sym (least-none _ _ (λ j l. c.loop-k.invariant j (omega arith)))
