-- `sparse::collect::only_zero` meets its contract. Assumes nothing.
use Rattle.sparse.proofs.Growth.{zero-only}
use Rattle.sparse.proofs.collect.only_zero.Goals as goal

pub returns : goal.returns
returns c = rw (c.add.ensures.sums_after, c.add.ensures.marks_after) (zero-only c.args.sums.now c.args.marks.now c.requires.0 c.requires.1)
