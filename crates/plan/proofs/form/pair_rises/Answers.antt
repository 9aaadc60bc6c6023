-- `plan::form::pair_rises` meets its contract: the two cells are those of the list. Assumes nothing.
use borrow.Author.Tests.{eq-eqb, ne_eqb}
use Rattle.plan.specs.Form.{rises}
use Rattle.plan.proofs.form.pair_rises.Goals as goal

pub returns-then-k-eq0 : goal.returns-then-k-eq0
unfolding rises
returns-then-k-eq0 c = rw (eq-eqb _ _ c.if-k-eq0.true)

pub returns : goal.returns
unfolding rises
returns c = rw (ne_eqb _ _ c.if-k-eq0.false, c.check_cell-before.ensures.value, c.check_cell-here.ensures.value)
