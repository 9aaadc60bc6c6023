-- `accept::rest::prepare` meets its contract: the arm of the column table is told which table it has. Assumes nothing.
use Rattle.accept.proofs.Remains.{prepared-columns}
use Rattle.accept.proofs.rest.prepare.Goals as goal

pub returns-in-Columns : goal.returns-in-Columns
returns-in-Columns c = rw c.in-Columns.is (prepared-columns c.differ_rest.ensures)
