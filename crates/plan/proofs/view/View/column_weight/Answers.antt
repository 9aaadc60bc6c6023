-- `plan::view::View::column_weight` meets its contract: the position lies in the table. Assumes nothing.
use Rattle.boxcode.specs.Code.{column_weight}
use Rattle.plan.proofs.view.View.column_weight.Goals as goal

pub returns : goal.returns
unfolding column_weight
returns c = record { value = c.column_entry.ensures.value; below = c.column_entry.ensures.below }
