-- Sheets by their check cells and their data, for any code of the right form:
--
--   check_cell, SameData  what a sheet has in check cell k; two sheets hold the same data
--   data-cells, cell-data, cell-check   what a sheet holds in its data cells and in its check cells
--   same-cells           a sheet is known by its check cells and its data
--   fill-check, data-fill   what a filled sheet has in check cell k, and as its data
--
-- Assumes nothing.
use mathlib.Core.Path.{◌≡◌, sym, ap, ap₂, ◌∙◌}
use mathlib.Core.Bool.{Bool, true, false, cond}
use Prim.Native.Nat.{ℕ, ◌+◌, ◌/◌, ◌%◌, ◌<◌}
use Rattle.finite.specs.Search.{bit}
use Rattle.boxcode.specs.Code.{Code, Formed, cell_number}
use Rattle.boxcode.specs.Syndrome.{Cells, SameCells}
use Rattle.boxcode.specs.Check.{Bits, check_number, check_at, check_index, data_order, data_size, rank, data_cell, fill, data_of}
use Rattle.finite.proofs.Truth.{Truth, is_true, is_false, true-or-false}
use Rattle.boxcode.proofs.Check.{number-row, number-column, number-on, number-cell, row_inside, column-inside}
use Rattle.boxcode.proofs.Check.{check-row, check-column, check-here, check-found}
use Rattle.boxcode.proofs.Check.{check-index, data-below, data-free, data-rank, rank_below, rank-data}

-- what a set of cells has in check cell k
abbrev pub check_cell : Code → Cells → ℕ → Bool
check_cell c s k = s (c.check_row k) (c.check_column k)

-- two sheets hold the same data
abbrev pub SameData : Code → Cells → Cells → Type 0
SameData c s t = (d : ℕ) → d < data_size c → data_of c s d ≡ data_of c t d

module _ (c : Code) (F : Formed c) where
  pub data-cells : (s t : Cells) → SameCells c s t → SameData c s t
  unfolding data_of
  data-cells s t h d l =
      h (data_cell c d / c.n2) (data_cell c d % c.n2) (row_inside c (data_cell c d) (data-below c F d l)) (column-inside c (data_cell c d) (data-below c F d l))

  -- a cell that is no check cell holds a data bit
  pub cell-data : (s : Cells) (i j : ℕ) → i < c.n1 → j < c.n2 → check_at c (cell_number c i j) ≡ false
      → s i j ≡ data_of c s (rank c (data_order c (cell_number c i j)))
  unfolding data_of
  cell-data s i j li lj f =
      sym (ap (λ (t : ℕ). s (t / c.n2) (t % c.n2)) (rank-data c F (cell_number c i j) (number-on c i j lj li) f)
      ∙ ap₂ s (number-row c i j lj) (number-column c i j lj))

  -- a check cell is in the list
  pub cell-check : (i j : ℕ) → i < c.n1 → j < c.n2 → check_at c (cell_number c i j) ≡ true
      → (k : ℕ) × (k < c.rv + c.rh) × (c.check_row k ≡ i) × (c.check_column k ≡ j)
  cell-check i j li lj t =
      let w = check-found c F (cell_number c i j) t in (
        w.0,
        w.1,
        sym (check-row c F w.0 w.1) ∙ ap (λ (t : ℕ). t / c.n2) w.2 ∙ number-row c i j lj,
        sym (check-column c F w.0 w.1) ∙ ap (λ (t : ℕ). t % c.n2) w.2 ∙ number-column c i j lj,
      )

  -- a sheet is known by its check cells and its data
  pub same-cells : (s t : Cells) → ((k : ℕ) → k < c.rv + c.rh → check_cell c s k ≡ check_cell c t k) → SameData c s t → SameCells c s t
  same-cells s t checks bits i j li lj = go (true-or-false (check_at c (cell_number c i j)))
    where
      go : Truth (check_at c (cell_number c i j)) → s i j ≡ t i j
      go (is_true e) =
          let w = cell-check i j li lj e in
          sym (ap₂ s w.2 w.3) ∙ checks w.0 w.1 ∙ ap₂ t w.2 w.3
      go (is_false e) =
          cell-data s i j li lj e
          ∙ bits (rank c (data_order c (cell_number c i j))) (rank_below c F (cell_number c i j) (number-on c i j lj li) e)
          ∙ sym (cell-data t i j li lj e)

  pub fill-check : (x : Bits) (y k : ℕ) → k < c.rv + c.rh → check_cell c (fill c x y) k ≡ bit y k
  unfolding fill check_number
  fill-check x y k l =
      ap (λ (b : Bool). cond b (bit y (check_index c (check_number c k))) (x (rank c (data_order c (check_number c k))))) (check-here c F k l)
      ∙ ap (bit y) (check-index c F k l)

  pub data-fill : (x : Bits) (y d : ℕ) → d < data_size c → data_of c (fill c x y) d ≡ x d
  unfolding data_of fill
  data-fill x y d l =
      ap (λ (t : ℕ). cond (check_at c t) (bit y (check_index c t)) (x (rank c (data_order c t)))) (number-cell c (data_cell c d))
      ∙ ap (λ (b : Bool). cond b (bit y (check_index c (data_cell c d))) (x (rank c (data_order c (data_cell c d))))) (data-free c F d l)
      ∙ ap x (data-rank c F d l)
