-- `sparse::few::few` meets its contract. Assumes nothing.
use mathlib.Core.Path.{refl}
use Rattle.finite.specs.Search.{few}
use Rattle.sparse.proofs.few.few.Goals as goal

pub returns : goal.returns
unfolding few
returns c = refl
