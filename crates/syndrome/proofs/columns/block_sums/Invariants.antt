-- `syndrome::columns::block_sums` meets its contract. The invariant: the sums are those of the first j columns of the block. Assumes nothing.
use mathlib.Core.Path.{◌≡◌}
use Prim.Native.Nat.{◌%◌}
use Rattle.syndrome.specs.Columns.{by_column, tabled}
use Rattle.syndrome.proofs.Block.{Passed}
use Rattle.syndrome.proofs.columns.block_sums.Given as goal

abbrev pub invariant-loop-j : goal.invariant-loop-j
invariant-loop-j l = (l.q ≡ l.j % l.h.b2) × Passed (tabled l.h l.rows l.columns) (by_column l.h.n1 l.h.n2 l.sheet) l.b l.j l.held
