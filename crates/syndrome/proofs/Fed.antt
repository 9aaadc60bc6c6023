-- The sums of the rows of a run fed so far, its last row first:
--
--   fed-none    where no row is fed, the sums are 0
--   fed-row     row number k is fed after those from k + 1 on
--   fed-all     when row number 0 is fed, the sums are those of the run
--   sheet-sums  the run from 0 to n1 has the two sums of the sheet
--
-- Assumes nothing.
use mathlib.Core.Path.{◌≡◌, sym, ap, ◌∙◌}
use Prim.Native.Nat.{ℕ, ◌+◌, ◌≤◌, ◌<◌}
use native.Mathlib.Omega.{arith}
use lib.Bits.{bit_xor}
use Rattle.gf2.specs.Xor.{◌⊕◌}
use Rattle.gf2.specs.Sum.{run_sum}
use Rattle.gf2.proofs.Xor.{xor_comm}
use Rattle.gf2.proofs.RunSum.{run-sum-empty, run-sum-before}
use Rattle.boxcode.specs.Code.{Code, row_weight, column_weight}
use Rattle.boxcode.specs.Syndrome.{Cells}
use Rattle.boxcode.specs.Run.{row_sum, row_syndrome_in, column_syndrome_in}
use Rattle.boxcode.proofs.Run.{row-whole, column-whole}
use Rattle.syndrome.specs.declared.run.Run.{Run}
use Rattle.syndrome.specs.declared.sums.Sums.{Sums}
use Rattle.syndrome.specs.Gather.{RowSums, run_rows, Fed, SheetSums, RunSums}
use Rattle.syndrome.proofs.Two.{two_none, two-same, two-added}

module _ (c : Code) (s : Cells) where
  abbrev rows : ℕ → ℕ
  rows = row_sum c.n2 (row_weight c) s

  abbrev columns : ℕ → ℕ
  columns = row_sum c.n2 (column_weight c) s

  pub fed-none : (run : Run) (k : ℕ) → run_rows c.n1 run ≤ k → Fed c s run k (record { row = 0; column = 0 })
  unfolding row_syndrome_in column_syndrome_in
  fed-none run k l =
      two_none _ _ (run-sum-empty c.n1 rows (run.first + k) run.past (omega arith))
      (run-sum-empty c.n1 columns (run.first + k) run.past (omega arith))

  pub fed-row : (run : Run) (k : ℕ) (held r : Sums) → k < run_rows c.n1 run → Fed c s run (k + 1) held → RowSums c s (run.first + k) r
      → Fed c s run k (record { row = bit_xor held.row r.row; column = bit_xor held.column r.column })
  unfolding row_syndrome_in column_syndrome_in
  fed-row run k held r l F t = two-same _ _ _ _ _ (more rows) (more columns) (two-added _ _ _ _ held r F t)
    where
      -- row i is added to what is held, those behind it up to row b
      more : (f : ℕ → ℕ) → run_sum c.n1 f (run.first + (k + 1)) run.past ⊕ f (run.first + k) ≡ run_sum c.n1 f (run.first + k) run.past
      more f =
          let n = c.n1 in
          let i = run.first + k in
          let b = run.past in
          let e : run.first + (k + 1) ≡ i + 1 = omega arith in
          ap (λ (a : ℕ). run_sum n f a b ⊕ f i) e ∙ xor_comm (run_sum n f (i + 1) b) (f i) ∙ sym (run-sum-before n f i b (omega arith) (omega arith))

  pub fed-all : (run : Run) (r : Sums) → Fed c s run 0 r → RunSums c s run.first run.past r
  fed-all run r F = let e : run.first + 0 ≡ run.first = omega arith in rw e at F

  pub sheet-sums : (r : Sums) → RunSums c s 0 c.n1 r → SheetSums c s r
  sheet-sums r R = two-same _ _ _ _ r (row-whole c s) (column-whole c s) R
