-- `plan::form::bad_sheet` meets its contract, by computing. Assumes nothing.
use mathlib.Core.Path.{refl}
use Rattle.plan.specs.Form.{bad_sheet}
use Rattle.plan.proofs.form.bad_sheet.Goals as goal

pub returns : goal.returns
unfolding bad_sheet
returns c = refl
