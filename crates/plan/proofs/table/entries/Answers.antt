-- `plan::table::entries` meets its contract: each arm is told which table it has. Assumes nothing.
use Rattle.plan.proofs.table.entries.Goals as goal

pub returns-in-Rows : goal.returns-in-Rows
returns-in-Rows c = rw c.in-Rows.is

pub returns-in-Columns : goal.returns-in-Columns
returns-in-Columns c = rw c.in-Columns.is
