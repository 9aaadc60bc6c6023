-- `sparse::sums::marked` meets its contract. Assumes nothing.
use Rattle.finite.specs.Search.{bit}
use Rattle.sparse.specs.Sets.{has_mark}
use Rattle.sparse.proofs.Marks.{mark-inside}
use Rattle.sparse.proofs.sums.marked.Goals as goal

pub bounds-marks-k : goal.bounds-marks-k
bounds-marks-k c = mark-inside _ _ _ c.requires c.place-k.ensures

pub returns : goal.returns
unfolding bit has_mark
returns c = rw c.place-k.ensures
