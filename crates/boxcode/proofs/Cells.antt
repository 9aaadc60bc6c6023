-- The number of cells of a set:
--
--   cells-equal, cells-flat, cells-some, cells-none   of equal sets; by cell numbers; where it is 0
--   box-count     a set in a rectangle has at most height × width cells
--
-- Assumes nothing.
use mathlib.Core.Path.{◌≡◌, refl, sym, ap, ap₂, ◌∙◌}
use mathlib.Core.Bool.{Bool, true, false}
use Prim.Native.Nat.{ℕ, zero, suc, ◌+◌, ◌-◌, ◌*◌, ◌/◌, ◌%◌, ◌≤◌, ◌<◌}
use native.Mathlib.Nat.{lt-suc_self, suc-mul, zero-mul, mul-le-mul_right}
use native.Mathlib.Omega.{arith}
use lib.Arith.{digits_lt, digits_div, digits_mod}
use Rattle.finite.specs.Search.{any_below, count_below}
use Rattle.boxcode.specs.Syndrome.{Cells}
use Rattle.boxcode.specs.Burst.{Inside, cell_count}
use Rattle.finite.proofs.Truth.{Truth, is_true, is_false, true-or-false}
use Rattle.finite.proofs.Search.{any_found, any_none}
use Rattle.finite.proofs.Count.{count-equal, count_none, count-rise, count-split, count-run}

pub cells-equal : (n m : ℕ) (e e' : Cells) → ((i j : ℕ) → i < n → j < m → e i j ≡ e' i j) → cell_count n m e ≡ cell_count n m e'
unfolding cell_count
cells-equal zero m e e' h = refl
cells-equal (suc n) m e e' h =
    ap₂ ◌+◌ (cells-equal n m e e' (λ i j li. h i j (omega arith))) (count-equal m (e n) (e' n) (λ j lj. h n j (lt-suc_self n) lj))

pub cells-flat : (n m : ℕ) (e : Cells) → cell_count n m e ≡ count_below (n * m) (λ t. e (t / m) (t % m))
unfolding cell_count
cells-flat zero m e =
    sym (ap (λ (x : ℕ). count_below x (λ t. e (t / m) (t % m))) (zero-mul m) ∙ count_none 0 (λ t. e (t / m) (t % m)) (λ k l. absurd (omega arith)))
cells-flat (suc n) m e =
    ap₂ ◌+◌ (cells-flat n m e) (count-equal m (e n) (λ j. e ((n * m + j) / m) ((n * m + j) % m)) (λ j l. sym (ap₂ e (digits_div n l) (digits_mod n l))))
    ∙ sym (ap (λ (x : ℕ). count_below x (λ t. e (t / m) (t % m))) (suc-mul n m) ∙ count-split (n * m) m (λ t. e (t / m) (t % m)))

-- a set in a rectangle has at most so many cells: also by the rows counted so far
box-rows : (top left height width : ℕ) (e : Cells) → Inside top left height width e → (n m : ℕ)
    → (cell_count n m e ≤ (n - top) * width) × (cell_count n m e ≤ height * width)
unfolding cell_count
box-rows top left height width e on zero m = omega arith
box-rows top left height width e on (suc n) m = go (true-or-false (any_below m (e n))) (box-rows top left height width e on n m)
  where
    row : count_below m (e n) ≤ width
    row = (count-run left width (e n) (λ j t. on.column_from n j t) (λ j t. on.column_to n j t) m).1

    go : Truth (any_below m (e n)) → (cell_count n m e ≤ (n - top) * width) × (cell_count n m e ≤ height * width)
        → (cell_count n m e + count_below m (e n) ≤ (suc n - top) * width) × (cell_count n m e + count_below m (e n) ≤ height * width)
    go (is_true t) ih =
        let w = any_found m (e n) t in
        let f : top ≤ n = on.row_from n w.0 w.2 in
        let g : n < top + height = on.row_to n w.0 w.2 in
        let r : count_below m (e n) ≤ width = row in
        let k : suc (n - top) ≤ height = omega arith in
        let p : suc (n - top) * width ≤ height * width = mul-le-mul_right width k in
        let q : suc (n - top) * width ≡ (n - top) * width + width = suc-mul (n - top) width in
        let s : (suc n - top) * width ≡ suc (n - top) * width = ap (λ (x : ℕ). x * width) (let z : suc n - top ≡ suc (n - top) = omega arith in z) in
        omega arith
    go (is_false t) ih =
        let z : count_below m (e n) ≡ 0 = count_none m (e n) (any_none m (e n) t) in
        let k : n - top ≤ suc n - top = omega arith in
        let p : (n - top) * width ≤ (suc n - top) * width = mul-le-mul_right width k in
        omega arith

pub box-count : (top left height width : ℕ) (e : Cells) → Inside top left height width e → (n m : ℕ) → cell_count n m e ≤ height * width
box-count top left height width e on n m = (box-rows top left height width e on n m).1

pub cells-some : (n m : ℕ) (e : Cells) (i j : ℕ) → i < n → j < m → e i j ≡ true → 0 < cell_count n m e
cells-some n m e i j li lj t =
    let p : ℕ → Bool = λ t. e (t / m) (t % m) in
    let r : count_below (i * m + j) p < count_below (n * m) p =
    count-rise (i * m + j) (n * m) p (ap₂ e (digits_div i lj) (digits_mod i lj) ∙ t) (digits_lt li lj) in
    let f : cell_count n m e ≡ count_below (n * m) p = cells-flat n m e in
    omega arith

pub cells-none : (n m : ℕ) (e : Cells) → ((i j : ℕ) → i < n → j < m → e i j ≡ false) → cell_count n m e ≡ 0
unfolding cell_count
cells-none zero m e h = refl
cells-none (suc n) m e h = ap₂ ◌+◌ (cells-none n m e (λ i j li. h i j (omega arith))) (count_none m (e n) (λ j lj. h n j (lt-suc_self n) lj))
