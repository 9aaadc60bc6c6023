-- `layout::cells::row_bytes` meets its contract. Assumes nothing.
use Rattle.layout.specs.Cells.{row_bytes}
use borrow.Author.Rules.{rules}
use Rattle.layout.proofs.cells.row_bytes.Goals as goal

pub returns : goal.returns
unfolding row_bytes
returns c = search rules
