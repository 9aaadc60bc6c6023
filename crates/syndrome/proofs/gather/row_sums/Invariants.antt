-- `syndrome::gather::row_sums` meets its contract. The invariant: the sums are those of the cells of the first b bytes. Assumes nothing.
use Rattle.layout.specs.Cells.{cell_of}
use Rattle.syndrome.specs.Gather.{rows_at, columns_at}
use Rattle.syndrome.proofs.Line.{Line}
use Rattle.syndrome.proofs.gather.row_sums.Given as goal

abbrev pub invariant-loop-b : goal.invariant-loop-b
invariant-loop-b l = Line l.view.header.n2 (cell_of l.view.header.n2 l.sheet l.i) (rows_at l.view.header.b2 l.words) (columns_at l.view.header.b1 l.q l.columns) l.held.row l.held.column l.b
