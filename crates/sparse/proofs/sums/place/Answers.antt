-- `sparse::sums::place` meets its contract. Assumes nothing.
use mathlib.Core.Path.{refl}
use Rattle.sparse.specs.Sets.{mark_place}
use Rattle.sparse.proofs.sums.place.Goals as goal

pub returns : goal.returns
unfolding mark_place
returns c = refl
