-- A pattern of a window, laid on a strip: its cells, its H sum, and its number by columns.
--
--   laid_cells            the cells of pattern x of the window at row i on the strip at column a
--   laid_cell-bit         such a cell is the digit of its row and of the remainder of its column
--   box-sum               the sum of a set of cells in a rectangle, over any weight, row by row
--   laid-sum              the H sum of these cells is `laid_sum`
--   laid-entries          and needs only the entries of the table
--   laid-number           the cells are those of `box_pattern`
--
-- Assumes nothing.
use mathlib.Core.Path.{◌≡◌, sym, ap, ap₂, ◌∙◌}
use mathlib.Core.Bool.{Bool, true, ◌&&◌}
use Prim.Native.Nat.{ℕ, ◌+◌, ◌*◌, ◌/◌, ◌%◌, ◌≤◌, ◌<◌}
use native.Mathlib.Nat.{add-mul, mod-lt, div-lt_iff_lt-mul}
use native.Mathlib.Omega.{arith}
use lib.Arith.{digits_lt}
use Rattle.gf2.specs.Xor.{pick}
use Rattle.gf2.specs.Sum.{xor_sum}
use Rattle.gf2.proofs.Sum.{sum-equal, sum-zero}
use Rattle.finite.specs.Search.{bit}
use Rattle.finite.proofs.Truth.{not-true, in_within}
use Rattle.finite.proofs.Digits.{number-equal}
use Rattle.boxcode.specs.Code.{Code, Formed, column_weight}
use Rattle.boxcode.specs.Syndrome.{Cells, weight_sum, column_syndrome}
use Rattle.boxcode.specs.Burst.{Inside, box_cells, box_number}
use Rattle.boxcode.proofs.Image.{unpicked}
use Rattle.boxcode.proofs.Pattern.{weighed}
use Rattle.boxcode.proofs.Laid.{laid, laid-inside}
use Rattle.boxcode.proofs.Trial.{box-number}
use Rattle.mend.specs.Strip.{laid_cell, laid_row, laid_line, laid_sum, laid_digit, box_pattern}
use Rattle.mend.proofs.Runs.{run-sum}
use Rattle.mend.proofs.Window.{in_window, in_window-holds, window-place}

unfoldable pub laid_cells : Code → ℕ → ℕ → ℕ → Cells
laid_cells c i x a = laid c (in_window c i (bit x)) a

pub box-sum : (n m top left height width : ℕ) → top + height ≤ n → left + width ≤ m → (w : ℕ → ℕ → ℕ) (e : Cells) → Inside top left height width e
    → weight_sum n m w e ≡ xor_sum height (λ r. xor_sum width (λ d. weighed w e (top + r) (left + d)))
unfolding weight_sum
box-sum n m top left height width rows columns w e on =
    run-sum n top height (λ i. xor_sum m (weighed w e i)) rows
    (λ i miss. sum-zero m (weighed w e i) (λ j l. off i j (λ t. miss (on.row_from i j t) (on.row_to i j t))))
    ∙ sum-equal height (λ r. xor_sum m (weighed w e (top + r))) (λ r. xor_sum width (λ d. weighed w e (top + r) (left + d)))
    (λ r l. run-sum m left width (weighed w e (top + r)) columns (λ j miss.
    off (top + r) j (λ t. miss (on.column_from (top + r) j t) (on.column_to (top + r) j t))))
  where
    off : (i j : ℕ) → (e i j ≡ true → ⊥) → weighed w e i j ≡ 0
    off i j h = unpicked (e i j) (w i j) (not-true (e i j) h)

pub laid-entries : (b1 b2 n i a x : ℕ) (f g : ℕ → ℕ) → 0 < b1 → a + b2 ≤ n → ((k : ℕ) → k < n * b1 → f k ≡ g k) → laid_sum b1 b2 f i a x ≡ laid_sum b1 b2 g i a x
unfolding laid_sum laid_line laid_row laid_cell
laid-entries b1 b2 n i a x f g pos on same =
    sum-equal b1 (laid_line b1 b2 f i a x) (laid_line b1 b2 g i a x)
    (λ r lr. sum-equal b2 (laid_cell b1 b2 f ((i + r) % b1) (r * b2) a x) (laid_cell b1 b2 g ((i + r) % b1) (r * b2) a x)
    (λ d ld. ap (pick (bit x (r * b2 + (a + d) % b2))) (same ((a + d) * b1 + (i + r) % b1)
    (digits_lt (let l : a + d < n = omega arith in l) (mod-lt (i + r) pos)))))

module _ (c : Code) (F : Formed c) (i x : ℕ) (rows : i + c.b1 ≤ c.n1) where
  pub laid_cell-bit : (a r d : ℕ) → r < c.b1 → d < c.b2 → laid_cells c i x a (i + r) (a + d) ≡ bit x (r * c.b2 + (a + d) % c.b2)
  unfolding laid_cells laid
  laid_cell-bit a r d lr ld =
      let t = (a + d) % c.b2 in
      let m : t < c.b2 = mod-lt (a + d) F.b2_pos in
      let e : (i + r) * c.b2 + t ≡ i * c.b2 + (r * c.b2 + t) = (let z : (i + r) * c.b2 ≡ i * c.b2 + r * c.b2 = add-mul i r c.b2 in omega arith) in
      ap₂ ◌&&◌ (in_within a c.b2 (a + d) (omega arith) (omega arith))
      (ap (in_window c i (bit x)) e ∙ window-place c F i rows (bit x) (r * c.b2 + t) (digits_lt lr m))

  module _ (a : ℕ) where
    pub cells-inside : Inside i a c.b1 c.b2 (laid_cells c i x a)
    unfolding laid_cells
    cells-inside = laid-inside c F i a (in_window c i (bit x)) (in_window-holds c F i rows (bit x))

    pub laid-sum : a + c.b2 ≤ c.n2 → column_syndrome c (laid_cells c i x a) ≡ laid_sum c.b1 c.b2 c.column_entry i a x
    unfolding column_syndrome column_weight laid_sum laid_line laid_row laid_cell
    laid-sum columns =
        box-sum c.n1 c.n2 i a c.b1 c.b2 rows columns (column_weight c) (laid_cells c i x a) cells-inside
        ∙ sum-equal c.b1 (λ r. xor_sum c.b2 (λ d. weighed (column_weight c) (laid_cells c i x a) (i + r) (a + d)))
        (laid_line c.b1 c.b2 c.column_entry i a x)
        (λ r lr. sum-equal c.b2 (λ d. weighed (column_weight c) (laid_cells c i x a) (i + r) (a + d))
        (laid_cell c.b1 c.b2 c.column_entry ((i + r) % c.b1) (r * c.b2) a x)
        (λ d ld. ap (λ (b : Bool). pick b (c.column_entry ((a + d) * c.b1 + (i + r) % c.b1))) (laid_cell-bit a r d lr ld)))

    number_is : box_pattern c.b1 c.b2 a x ≡ box_number i a c.b1 c.b2 (laid_cells c i x a)
    unfolding box_pattern box_number laid_digit
    number_is =
        number-equal (c.b1 * c.b2) (laid_digit c.b2 a x) (λ k. laid_cells c i x a (i + k / c.b2) (a + k % c.b2))
        (λ k l. sym (laid_cell-bit a (k / c.b2) (k % c.b2) ((div-lt_iff_lt-mul F.b2_pos).1 l) (mod-lt k F.b2_pos)))

    pub laid-number : (i' j : ℕ) → box_cells i a c.b1 c.b2 (box_pattern c.b1 c.b2 a x) i' j ≡ laid_cells c i x a i' j
    laid-number i' j =
        ap (λ (y : ℕ). box_cells i a c.b1 c.b2 y i' j) number_is
        ∙ box-number i a c.b1 c.b2 (laid_cells c i x a) cells-inside i' j
