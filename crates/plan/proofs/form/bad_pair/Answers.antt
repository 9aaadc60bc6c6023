-- `plan::form::bad_pair` meets its contract: the cell is that of the list. Assumes nothing.
use Rattle.plan.specs.Form.{bad_pair}
use Rattle.plan.proofs.form.bad_pair.Goals as goal

pub returns : goal.returns
unfolding bad_pair
returns c = rw (c.check_cell-here.ensures.value, c.pair_rises.ensures)
