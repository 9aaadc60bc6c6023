-- `plan::form::bad_burst` meets its contract, by computing. Assumes nothing.
use mathlib.Core.Path.{refl}
use Rattle.plan.specs.Form.{bad_burst}
use Rattle.plan.proofs.form.bad_burst.Goals as goal

pub returns : goal.returns
unfolding bad_burst
returns c = refl
