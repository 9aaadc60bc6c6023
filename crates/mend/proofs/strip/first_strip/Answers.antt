use mathlib.Core.Path.{sym, ◌∙◌}
use native.Mathlib.Omega.{arith}
use borrow.Author.Count.{below_more}
use borrow.Author.Tests.{eq-eqb, ne_eqb}
use Rattle.finite.proofs.Search.{search-finds, search-ends}
use Rattle.mend.specs.Strip.{fits_on}
use Rattle.mend.proofs.strip.first_strip.Goals as goal

pub returns-then-laid_sum-s : goal.returns-then-laid_sum-s
unfolding fits_on
returns-then-laid_sum-s c =
    search-finds _ _ _ (omega arith) c.loop-a.invariant (eq-eqb _ _ (sym c.laid_sum.ensures ∙ c.if-laid_sum-s.true))

pub loop-a-preserved : goal.loop-a-preserved
unfolding fits_on
loop-a-preserved c = below_more _ _ c.loop-a.invariant (ne_eqb _ _ (λ e. c.if-laid_sum-s.false (c.laid_sum.ensures ∙ e)))

pub returns : goal.returns
unfolding fits_on
returns c = search-ends _ _ _ (omega arith) (omega arith) (λ j l. c.loop-a.invariant j (omega arith))
