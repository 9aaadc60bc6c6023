-- Runs of rows, and their two sums (document 02, b and e). The run from a to b has the rows from a up to but not including b.
--
--   row_sum           the exclusive-or of the weights of the cells of a set that stand in one row
--   row_syndrome_in, column_syndrome_in   the V sum and the H sum of the cells of a set that stand in a run
use Rattle.std.specs.Prelude.{ℕ}
use Rattle.gf2.specs.Sum.{chosen_sum, run_sum}
use Rattle.boxcode.specs.Code.{Code, row_weight, column_weight}
use Rattle.boxcode.specs.Syndrome.{Cells}

unfoldable pub row_sum : ℕ → (ℕ → ℕ → ℕ) → Cells → ℕ → ℕ
row_sum n2 w s i = chosen_sum n2 (s i) (w i)

-- rows past the sheet add nothing, and where b is at or below a there is no row
unfoldable pub row_syndrome_in : Code → ℕ → ℕ → Cells → ℕ
row_syndrome_in c a b s = run_sum c.n1 (row_sum c.n2 (row_weight c) s) a b

unfoldable pub column_syndrome_in : Code → ℕ → ℕ → Cells → ℕ
column_syndrome_in c a b s = run_sum c.n1 (row_sum c.n2 (column_weight c) s) a b
