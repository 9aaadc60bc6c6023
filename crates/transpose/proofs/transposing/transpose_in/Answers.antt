-- `transpose::transposing::transpose_in` meets its contract: each arm is told which layout it has. Assumes nothing.
use native.Mathlib.Omega.{arith}
use Rattle.layout.specs.Stored.{transposed}
use Rattle.transpose.specs.Exchanged.{exchanged}
use Rattle.transpose.proofs.transposing.transpose_in.Goals as goal

pub transpose-requires : goal.transpose-requires
transpose-requires c =
    let p = c.requires in
    let e = c.in-ByRow.is in
    record { n1_bound = (omega (arith, p.sizes.n1_most), omega (arith, p.sizes.n2_most)); source_len = rw e at p.source_len; target_len = rw e at p.target_len }

pub transpose-requires-in-ByColumn : goal.transpose-requires-in-ByColumn
transpose-requires-in-ByColumn c =
    let p = c.requires in
    let e = c.in-ByColumn.is in
    record { n1_bound = (omega (arith, p.sizes.n2_most), omega (arith, p.sizes.n1_most)); source_len = rw e at p.source_len; target_len = rw e at p.target_len }

pub returns-in-ByRow : goal.returns-in-ByRow
unfolding exchanged transposed
returns-in-ByRow c = rw c.in-ByRow.is c.transpose.ensures

pub returns-in-ByColumn : goal.returns-in-ByColumn
unfolding exchanged transposed
returns-in-ByColumn c = rw c.in-ByColumn.is c.transpose-in-ByColumn.ensures
