-- `trial::pattern::has_sums` meets its contract: where the V sum is another, the H sum is not asked for. Assumes nothing.
use mathlib.Core.Path.{sym, ◌∙◌}
use borrow.Author.Tests.{eq-eqb, ne_eqb}
use Rattle.trial.specs.Trial.{has_sums}
use Rattle.trial.proofs.pattern.has_sums.Goals as goal

pub returns-then-from-v : goal.returns-then-from-v
unfolding has_sums
returns-then-from-v c = rw (ne_eqb _ _ (λ e. c.if-from-v.true (c.from.ensures ∙ c.sum_of.ensures ∙ e)))

pub returns : goal.returns
unfolding has_sums
returns c =
    let v = sym (c.from.ensures ∙ c.sum_of.ensures) ∙ c.if-from-v.false in
    rw (eq-eqb _ _ v, c.from-2.ensures ∙ c.sum_of-2.ensures)
