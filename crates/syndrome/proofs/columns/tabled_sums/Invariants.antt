-- `syndrome::columns::tabled_sums` meets its contract. The invariant is 02 b)'s sentence: what is held is the two sums of the rows fed so far, those
-- from row 8 × b on. Assumes nothing.
use Prim.Native.Nat.{◌*◌}
use Rattle.syndrome.specs.Gather.{RunSums}
use Rattle.syndrome.specs.Columns.{by_column, tabled}
use Rattle.syndrome.proofs.columns.tabled_sums.Given as goal

abbrev pub invariant-loop-b : goal.invariant-loop-b
invariant-loop-b l = RunSums (tabled l.h l.rows l.columns) (by_column l.h.n1 l.h.n2 l.sheet) (8 * l.b) l.h.n1 l.held
