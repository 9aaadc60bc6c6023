-- Laws of the two sums of a run of rows. They hold of any code, accepted or not:
--
--   row-empty, column-empty        a run whose end is at or below its start has sums 0
--   row-past, column-past          rows past the sheet add nothing
--   row-joined, column-joined      the run a to b and then the run b to c are the run a to c
--   row-whole, column-whole        the run from row 0 to the last is the whole sheet
--   row-in-below, column-in-below  of a code that meets the rules of form, the sums have rv and rh bits
--
-- Assumes nothing.
use mathlib.Core.Path.{◌≡◌}
use Prim.Native.Nat.{ℕ, ◌^◌, ◌≤◌, ◌<◌, min}
use native.Mathlib.Omega.{arith}
use Rattle.gf2.specs.Xor.{◌⊕◌, pick}
use Rattle.gf2.specs.Sum.{run_sum}
use Rattle.gf2.proofs.Xor.{pick-below}
use Rattle.gf2.proofs.Sum.{sum_below}
use Rattle.gf2.proofs.RunSum.{run-sum-empty, run-sum-past, run-sum-joined, run-sum-whole, run-sum-below}
use Rattle.boxcode.specs.Code.{Code, Formed, row_weight, column_weight}
use Rattle.boxcode.specs.Syndrome.{Cells, weight_sum, row_syndrome, column_syndrome}
use Rattle.boxcode.specs.Run.{row_sum, row_syndrome_in, column_syndrome_in}
use Rattle.boxcode.proofs.Syndrome.{row_below, column-below}

-- of any weight of a cell
weight-in-below : (n m k : ℕ) (w : ℕ → ℕ → ℕ) (s : Cells) (a b : ℕ) → ((i j : ℕ) → i < n → j < m → w i j < 2 ^ k)
    → run_sum n (row_sum m w s) a b < 2 ^ k
unfolding row_sum
weight-in-below n m k w s a b h =
    run-sum-below n (row_sum m w s) k a b
    (λ i l. sum_below k m (λ j. pick (s i j) (w i j)) (λ j lj. pick-below k (s i j) (w i j) (h i j l lj)))

module _ (c : Code) (s : Cells) where
  -- of each row
  abbrev rows : ℕ → ℕ
  rows = row_sum c.n2 (row_weight c) s

  abbrev columns : ℕ → ℕ
  columns = row_sum c.n2 (column_weight c) s

  pub row-empty : (a b : ℕ) → b ≤ a → row_syndrome_in c a b s ≡ 0
  unfolding row_syndrome_in
  row-empty a b l = run-sum-empty c.n1 rows a b (omega arith)

  pub column-empty : (a b : ℕ) → b ≤ a → column_syndrome_in c a b s ≡ 0
  unfolding column_syndrome_in
  column-empty a b l = run-sum-empty c.n1 columns a b (omega arith)

  pub row-past : (a b : ℕ) → row_syndrome_in c a b s ≡ row_syndrome_in c a (min b c.n1) s
  unfolding row_syndrome_in
  row-past = run-sum-past c.n1 rows

  pub column-past : (a b : ℕ) → column_syndrome_in c a b s ≡ column_syndrome_in c a (min b c.n1) s
  unfolding column_syndrome_in
  column-past = run-sum-past c.n1 columns

  pub row-joined : (a m b : ℕ) → a ≤ m → m ≤ b → row_syndrome_in c a b s ≡ row_syndrome_in c a m s ⊕ row_syndrome_in c m b s
  unfolding row_syndrome_in
  row-joined = run-sum-joined c.n1 rows

  pub column-joined : (a m b : ℕ) → a ≤ m → m ≤ b → column_syndrome_in c a b s ≡ column_syndrome_in c a m s ⊕ column_syndrome_in c m b s
  unfolding column_syndrome_in
  column-joined = run-sum-joined c.n1 columns

  pub row-whole : row_syndrome_in c 0 c.n1 s ≡ row_syndrome c s
  unfolding row_syndrome_in row_syndrome weight_sum row_sum
  row-whole = run-sum-whole c.n1 rows

  pub column-whole : column_syndrome_in c 0 c.n1 s ≡ column_syndrome c s
  unfolding column_syndrome_in column_syndrome weight_sum row_sum
  column-whole = run-sum-whole c.n1 columns

  module _ (F : Formed c) where
    pub row-in-below : (a b : ℕ) → row_syndrome_in c a b s < 2 ^ c.rv
    unfolding row_syndrome_in
    row-in-below a b = weight-in-below c.n1 c.n2 c.rv (row_weight c) s a b (λ i j l _. row_below c F i j l)

    pub column-in-below : (a b : ℕ) → column_syndrome_in c a b s < 2 ^ c.rh
    unfolding column_syndrome_in
    column-in-below a b = weight-in-below c.n1 c.n2 c.rh (column_weight c) s a b (λ i j _ l. column-below c F i j l)
