-- `syndrome::whole::sheet_sums` meets its contract: each arm is told which layout it has. Assumes nothing.
use Rattle.syndrome.proofs.Fed.{sheet-sums}
use Rattle.syndrome.proofs.whole.sheet_sums.Goals as goal

pub sums-requires : goal.sums-requires
sums-requires c =
    let p = c.requires in
    record { unpacked = p.unpacked; sheet_len = rw c.in-ByRow.is at p.sheet_len }

pub column_sums-requires : goal.column_sums-requires
column_sums-requires c =
    let p = c.requires in
    record { unpacked = p.unpacked; sheet_len = rw c.in-ByColumn.is at p.sheet_len }

pub returns-in-ByRow : goal.returns-in-ByRow
returns-in-ByRow c = rw c.in-ByRow.is (sheet-sums _ _ _ c.sums.ensures)

pub returns-in-ByColumn : goal.returns-in-ByColumn
returns-in-ByColumn c = rw c.in-ByColumn.is (sheet-sums _ _ _ c.column_sums.ensures)
