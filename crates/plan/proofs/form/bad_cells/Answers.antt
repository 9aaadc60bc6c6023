-- `plan::form::bad_cells` meets its contract, by computing. Assumes nothing.
use mathlib.Core.Path.{refl}
use Rattle.plan.specs.Form.{bad_cells}
use Rattle.plan.proofs.form.bad_cells.Goals as goal

pub returns : goal.returns
unfolding bad_cells
returns c = refl
