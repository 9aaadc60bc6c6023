-- `transpose::transposing::gathered` meets its contract. The invariant: the number has the cells of the first t rows, and k is the byte of the
-- cell that comes next. That it is kept stands first, so that a wrong program is refused there. Assumes nothing.
use mathlib.Core.Path.{◌≡◌}
use Prim.Native.Nat.{◌+◌}
use Rattle.finite.specs.Search.{number_of}
use Rattle.layout.specs.Cells.{byte_of, cell_of}
use Rattle.transpose.proofs.transposing.gathered.Given as goal

abbrev pub invariant-loop-t : goal.invariant-loop-t
invariant-loop-t l = (l.number ≡ number_of l.t (λ u. cell_of l.n2 l.source (l.i + u) l.j)) × (l.k ≡ byte_of l.n2 (l.i + l.t) l.j)
