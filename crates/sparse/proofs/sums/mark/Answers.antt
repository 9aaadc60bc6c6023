-- `sparse::sums::mark` meets its contract. Assumes nothing.
use Rattle.sparse.specs.Sets.{mark_set}
use Rattle.sparse.proofs.Marks.{mark-inside, mark-digit}
use Rattle.sparse.proofs.sums.mark.Goals as goal

pub bounds-marks-k : goal.bounds-marks-k
bounds-marks-k c = mark-inside _ _ _ c.requires c.place-k.ensures

pub bounds-marks-k-2 : goal.bounds-marks-k-2
bounds-marks-k-2 c = mark-inside _ _ _ c.requires c.place-k.ensures

pub returns : goal.returns
unfolding mark_set
returns c = rw (c.place-k.ensures, mark-digit c.args.x)
