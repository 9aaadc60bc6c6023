-- `layout::cells::byte_of` meets its contract. Assumes nothing.
use native.Mathlib.Omega.{arith}
use Rattle.layout.specs.Cells.{byte_of}
use Rattle.layout.proofs.cells.byte_of.Goals as goal

pub overflow_mul-result : goal.overflow_mul-result
unfolding byte_of
overflow_mul-result c = let e = c.row_bytes.ensures in rw e (omega arith)

pub overflow_add-result : goal.overflow_add-result
unfolding byte_of
overflow_add-result c = let e = c.row_bytes.ensures in rw e (omega arith)

pub returns : goal.returns
unfolding byte_of
returns c = rw c.row_bytes.ensures
