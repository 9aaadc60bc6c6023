-- `transpose::transposing::transpose` meets its contract. The invariant: the first j rows of the target are there. Assumes nothing.
use Prim.Native.Nat.{◌*◌}
use Rattle.layout.specs.Cells.{row_bytes}
use Rattle.transpose.specs.Exchanged.{Begun}
use Rattle.transpose.proofs.transposing.transpose.Given as goal

abbrev pub invariant-loop-j : goal.invariant-loop-j
invariant-loop-j l = Begun l.n1 l.n2 l.source (l.j * row_bytes l.n1) l.target
