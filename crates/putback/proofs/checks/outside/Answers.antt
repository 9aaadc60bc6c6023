-- `putback::checks::outside` meets its contract. Assumes nothing.
use mathlib.Core.Path.{refl}
use Rattle.putback.proofs.checks.outside.Goals as goal

pub returns : goal.returns
returns c = refl
