-- `plan::view::View::row_weight` meets its contract: the position lies in the table. Assumes nothing.
use Rattle.boxcode.specs.Code.{row_weight}
use Rattle.plan.proofs.view.View.row_weight.Goals as goal

pub returns : goal.returns
unfolding row_weight
returns c = record { value = c.row_entry.ensures.value; below = c.row_entry.ensures.below }
