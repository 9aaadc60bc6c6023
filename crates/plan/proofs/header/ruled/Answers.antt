-- `plan::header::ruled` meets its contract: the numbers are small, so no sum wraps. Assumes nothing.
use mathlib.Core.Path.{refl}
use Rattle.plan.specs.Header.{ruled}
use Rattle.plan.proofs.header.ruled.Goals as goal

pub returns : goal.returns
unfolding ruled
returns c = refl
