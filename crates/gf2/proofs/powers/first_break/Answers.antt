use mathlib.Core.Path.{sym, ap, ◌∙◌}
use mathlib.Core.Bool.{not}
use native.Mathlib.Omega.{arith}
use borrow.Author.Count.{below_more}
use borrow.Author.Tests.{eq-eqb, ne_eqb}
use Rattle.finite.proofs.Search.{search-finds, search-ends}
use Rattle.gf2.specs.Powers.{breaks_at, first_break}
use Rattle.gf2.proofs.powers.first_break.Goals as goal

pub returns-then-times_z-words : goal.returns-then-times_z-words
unfolding first_break
returns-then-times_z-words c =
    let l = c.loop-k in
    search-finds _ _ l.k (omega arith) l.invariant (unfold breaks_at in ap not (ne_eqb _ _ (λ e. c.if-times_z-words.true (c.times_z.ensures ∙ e))))

pub loop-k-preserved : goal.loop-k-preserved
loop-k-preserved c =
    below_more _ _ c.loop-k.invariant (unfold breaks_at in ap not (eq-eqb _ _ (sym c.times_z.ensures ∙ c.if-times_z-words.false)))

pub returns : goal.returns
unfolding first_break
returns c = search-ends _ _ c.saturating_sub-steps.result (omega arith) (omega arith) (λ j l. c.loop-k.invariant j (omega arith))
