-- The data bit of a cell, from the data cells before it in sheet order: the one file of this crate that knows how the data's order runs.
--
--   bit-down, bit_up  data_bit in an odd row, where the data runs down, and in an even row
--   before-row        the data cells before a cell: those before its row, and those of its row
--   row-rank          the same in the data's order
--   rows-rank         the data cells before a row are the same in both orders
--   rank_up           where the data of a row runs up, the data bit of a cell is the number of data cells before it
--   rank_down         where it runs down, the bit is as far from the end of the row's bits as that number is from their beginning
--
-- Assumes nothing.
use mathlib.Core.Path.{◌≡◌, refl, sym, ap, ap₂, ◌∙◌}
use mathlib.Core.Bool.{Bool, true, false, cond, not}
use Prim.Native.Nat.{ℕ, zero, suc, ◌+◌, ◌-◌, ◌*◌, ◌%◌, ◌≤◌, ◌<◌}
use native.Mathlib.Nat.{suc-mul, zero-mul}
use native.Mathlib.Omega.{arith}
use borrow.Author.Tests.{eq-eqb, ne_eqb}
use Rattle.finite.specs.Search.{count_below}
use Rattle.finite.proofs.Truth.{clash}
use Rattle.finite.proofs.Count.{count-equal, count-split, count-turned}
use Rattle.boxcode.specs.Code.{Code, cell_number}
use Rattle.boxcode.specs.Check.{check_at, runs_down, data_column, data_order, rank}
use Rattle.boxcode.proofs.Check.{column-below, order-cell}
use Rattle.position.specs.Walk.{data_before, row_ends, data_bit}
use Rattle.position.proofs.Size.{rows_next}

module _ (i place ends : ℕ) where
  pub bit-down : (b : ℕ) → i % 2 ≡ 1 → b + place + 1 ≡ ends → b ≡ data_bit i place ends
  unfolding data_bit runs_down
  bit-down b e s = rw (eq-eqb (i % 2) 1 e) (omega arith)

  pub bit_up : i % 2 < 1 → place ≡ data_bit i place ends
  unfolding data_bit runs_down
  bit_up l = rw (ne_eqb (i % 2) 1 (λ e. omega arith))

module _ (c : Code) where
  -- cell (i, j) holds data
  free : ℕ → ℕ → Bool
  free i j = not (check_at c (i * c.n2 + j))

  before-row : (i j : ℕ) → data_before c (i * c.n2 + j) ≡ data_before c (i * c.n2) + count_below j (free i)
  unfolding data_before free
  before-row i j = count-split (i * c.n2) j (λ u. not (check_at c u))

  row-rank : (i j : ℕ) → j ≤ c.n2 → rank c (i * c.n2 + j) ≡ rank c (i * c.n2) + count_below j (λ k. free i (data_column c i k))
  unfolding rank free cell_number
  row-rank i j l =
      count-split (i * c.n2) j (λ u. not (check_at c (data_order c u)))
      ∙ ap (λ (x : ℕ). count_below (i * c.n2) (λ u. not (check_at c (data_order c u))) + x)
      (count-equal j (λ k. not (check_at c (data_order c (i * c.n2 + k)))) (λ k. free i (data_column c i k))
      (λ k lk. ap (λ (t : ℕ). not (check_at c t)) (order-cell c i k (omega arith))))

  -- counted up or down, a whole row holds the same
  whole_row : (i : ℕ) → count_below c.n2 (λ k. free i (data_column c i k)) ≡ count_below c.n2 (free i)
  unfolding data_column count_below
  whole_row i = go (runs_down i)
    where
      go : (b : Bool) → count_below c.n2 (λ k. free i (cond b (c.n2 - 1 - k) k)) ≡ count_below c.n2 (free i)
      go true =
          let none : c.n2 - c.n2 ≡ 0 = omega arith in
          let z : count_below (c.n2 - c.n2) (free i) ≡ 0 = ap (λ (x : ℕ). count_below x (free i)) none in
          let t = count-turned c.n2 c.n2 (free i) (omega arith) in
          omega arith
      go false = refl

  rows-rank : (i : ℕ) → rank c (i * c.n2) ≡ data_before c (i * c.n2)
  unfolding rank data_before count_below
  rows-rank zero = rw (zero-mul c.n2)
  rows-rank (suc i) =
      ap (rank c) (suc-mul i c.n2) ∙ row-rank i c.n2 (omega arith)
      ∙ ap₂ (λ (x y : ℕ). x + y) (rows-rank i) (whole_row i)
      ∙ sym (ap (data_before c) (suc-mul i c.n2) ∙ before-row i c.n2)

  module _ (i j : ℕ) (l : j < c.n2) where
    bit_is : rank c (data_order c (i * c.n2 + j)) ≡ data_before c (i * c.n2) + count_below (data_column c i j) (λ k. free i (data_column c i k))
    unfolding cell_number
    bit_is =
        let b : data_column c i j < c.n2 = column-below c i j l in
        ap (rank c) (order-cell c i j l) ∙ row-rank i (data_column c i j) (omega arith)
        ∙ ap (λ (x : ℕ). x + count_below (data_column c i j) (λ k. free i (data_column c i k))) (rows-rank i)

    pub rank_up : runs_down i ≡ false → rank c (data_order c (i * c.n2 + j)) ≡ data_before c (i * c.n2 + j)
    unfolding data_column
    rank_up e = bit_is ∙ go (runs_down i) e
      where
        go : (b : Bool) → b ≡ false
            → data_before c (i * c.n2) + count_below (cond b (c.n2 - 1 - j) j) (λ k. free i (cond b (c.n2 - 1 - k) k)) ≡ data_before c (i * c.n2 + j)
        go true q = clash refl q
        go false q = sym (before-row i j)

    pub rank_down : runs_down i ≡ true → check_at c (i * c.n2 + j) ≡ false
        → data_before c (i * c.n2 + j) + 1 + rank c (data_order c (i * c.n2 + j)) ≡ row_ends c i
    unfolding data_column count_below free row_ends
    rank_down e f = ap (λ (x : ℕ). data_before c (i * c.n2 + j) + 1 + x) bit_is ∙ go (runs_down i) e
      where
        go : (b : Bool) → b ≡ true
            → data_before c (i * c.n2 + j) + 1 + (data_before c (i * c.n2) + count_below (cond b (c.n2 - 1 - j) j) (λ k. free i (cond b (c.n2 - 1 - k) k)))
            ≡ data_before c (i * c.n2) + data_before c ((i + 1) * c.n2)
        go true q =
            let t = count-turned c.n2 (c.n2 - 1 - j) (free i) (omega arith) in
            let m : c.n2 - (c.n2 - 1 - j) ≡ suc j = omega arith in
            let u : count_below (c.n2 - (c.n2 - 1 - j)) (free i) ≡ count_below j (free i) + 1 =
            ap (λ (x : ℕ). count_below x (free i)) m ∙ ap (λ (b : Bool). count_below j (free i) + cond (not b) 1 0) f in
            let here = before-row i j in
            let next : data_before c ((i + 1) * c.n2) ≡ data_before c (i * c.n2) + count_below c.n2 (free i) =
            ap (data_before c) (rows_next i c.n2) ∙ before-row i c.n2 in
            omega arith
        go false q = clash q refl
