-- `layout::stored::first_unused_in` meets its contract: each arm is told which layout it has. Assumes nothing.
use Rattle.layout.proofs.stored.first_unused_in.Goals as goal

pub returns-in-ByRow : goal.returns-in-ByRow
returns-in-ByRow c = rw c.in-ByRow.is c.first_unused.ensures

pub returns-in-ByColumn : goal.returns-in-ByColumn
returns-in-ByColumn c = rw c.in-ByColumn.is c.first_unused-in-ByColumn.ensures

pub first_unused-requires : goal.first_unused-requires
first_unused-requires c =
    let p = c.requires in
    (p.n1_bound.1, rw c.in-ByRow.is at p.s_len)

pub first_unused-requires-in-ByColumn : goal.first_unused-requires-in-ByColumn
first_unused-requires-in-ByColumn c =
    let p = c.requires in
    (p.n1_bound.0, rw c.in-ByColumn.is at p.s_len)
