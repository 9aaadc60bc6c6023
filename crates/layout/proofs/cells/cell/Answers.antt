-- `layout::cells::cell` meets its contract: it is the digit by the definition. Assumes nothing.
use Rattle.finite.specs.Search.{bit}
use Rattle.layout.specs.Cells.{cell_of}
use Rattle.layout.proofs.cells.cell.Goals as goal

pub returns : goal.returns
unfolding bit cell_of
returns c = rw c.byte_of-k.ensures
