-- `plan::form::bad_widths` meets its contract, by computing. Assumes nothing.
use mathlib.Core.Path.{refl}
use Rattle.plan.specs.Form.{bad_widths}
use Rattle.plan.proofs.form.bad_widths.Goals as goal

pub returns : goal.returns
unfolding bad_widths
returns c = refl
