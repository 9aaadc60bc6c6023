-- `transpose::transposing::transpose_row` meets its contract. The invariant: the rows before j and b bytes of row j are there. That it holds and
-- is kept stands first, so that a wrong program is refused there. Assumes nothing.
use Prim.Native.Nat.{◌+◌, ◌*◌}
use Rattle.layout.specs.Cells.{row_bytes}
use Rattle.transpose.specs.Exchanged.{Begun}
use Rattle.transpose.proofs.transposing.transpose_row.Given as goal

abbrev pub invariant-loop-b : goal.invariant-loop-b
invariant-loop-b l = Begun l.n1 l.n2 l.source (l.j * row_bytes l.n1 + l.b) l.target
