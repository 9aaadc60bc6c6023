-- `layout::stored::cell_in` meets its contract: each arm is told which layout it has. Assumes nothing.
use native.Mathlib.Omega.{arith}
use Rattle.layout.proofs.Form.{byte_inside}
use Rattle.layout.proofs.stored.cell_in.Goals as goal

pub returns-in-ByRow : goal.returns-in-ByRow
returns-in-ByRow c = rw c.in-ByRow.is c.cell.ensures

pub returns-in-ByColumn : goal.returns-in-ByColumn
returns-in-ByColumn c = rw c.in-ByColumn.is c.cell-in-ByColumn.ensures

pub cell-requires : goal.cell-requires
cell-requires c =
    let p = c.requires in
    let e = rw c.in-ByRow.is at p.s_len in
    let b = byte_inside _ _ p.i_lt_n1.1 _ _ p.i_lt_n1.0 in
    (omega (arith, p.sizes.n2_most), omega arith)

pub cell-requires-in-ByColumn : goal.cell-requires-in-ByColumn
cell-requires-in-ByColumn c =
    let p = c.requires in
    let e = rw c.in-ByColumn.is at p.s_len in
    let b = byte_inside _ _ p.i_lt_n1.0 _ _ p.i_lt_n1.1 in
    (omega (arith, p.sizes.n1_most), omega arith)
