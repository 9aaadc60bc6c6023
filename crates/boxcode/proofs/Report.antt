-- The report of a set of cells:
--
--   run_on                     the run from the first place at which something holds to the last ends below the bound
--   box-place                  digit k of a pattern number stands in a row and in a column of the rectangle
--   report-cells               equal cells on the sheet give equal reports
--   report-inside              a set on the sheet lies in the rectangle of its report
--   report-least               any rectangle that holds the set holds that one
--   report-none                the empty set has six zeros
--   report-bit, report-below   the bits of the report's pattern, and that there is none beyond its rectangle
--   report-pattern             the cells of that pattern in that rectangle are the set
--   burst-report, SmallReport  of a burst: at most 16 cells, on the sheet, no larger than b1 by b2, the pattern of at most 16 digits
--
-- Assumes nothing.
use mathlib.Core.Path.{◌≡◌, ap, ◌∙◌}
use mathlib.Core.Bool.{Bool, true, false}
use Prim.Native.Nat.{ℕ, zero, suc, ◌+◌, ◌-◌, ◌*◌, ◌/◌, ◌%◌, ◌^◌, ◌≤◌, ◌<◌}
use native.Mathlib.Nat.{zero-mul, mul-zero, mul-le-mul, le_trans, mod-lt, div-lt_iff_lt-mul}
use native.Mathlib.Omega.{arith}
use lib.Pow.{pow_mono}
use Rattle.finite.specs.Search.{bit, number_of, any_below, first_of, past_of}
use Rattle.boxcode.specs.Code.{Code, Formed}
use Rattle.boxcode.specs.Syndrome.{Cells, SameCells}
use Rattle.boxcode.specs.Burst.{Inside, Burst, cell_count, box_cells, box_number}
use Rattle.boxcode.specs.Reader.{Report, row_touched, column_touched, top_of, left_of, height_of, width_of, report_of, no_report, LiesIn}
use Rattle.finite.proofs.Truth.{Truth, is_true, is_false, true-or-false, clash, not-true}
use Rattle.finite.proofs.Search.{any_found, any_here, none_any, any-equal, first-is, first-none, first-equal, past-le, past-above}
use Rattle.finite.proofs.Search.{past-last, past-none, past_equal}
use Rattle.finite.proofs.Digits.{number-equal, number-below}
use Rattle.boxcode.proofs.Cells.{cells-equal, cells-none, box-count}
use Rattle.boxcode.proofs.Burst.{OnSheet}
use Rattle.boxcode.proofs.Trial.{box-bit, box-number}

-- ---- the run from the first place at which p holds to the last: rows and columns alike

abbrev size : ℕ → (ℕ → Bool) → ℕ
size n p = past_of n p - first_of n p

module _ (n : ℕ) (p : ℕ → Bool) where
  run_inside : (k : ℕ) → k < n → p k ≡ true → (first_of n p ≤ k) × (k < first_of n p + size n p)
  run_inside k l t =
      let f : first_of n p ≤ k = (first-is n p (any_here n p k l t)).least k t in
      let g : k < past_of n p = past-above n p k l t in
      omega arith

  -- the last place at which p holds
  run_end : (k : ℕ) → k < n → p k ≡ true → (z : ℕ) × (z < n) × (p z ≡ true) × (first_of n p + size n p ≡ suc z)
  run_end k l t =
      let g : k < past_of n p = past-above n p k l t in
      let w = past-last n p (omega arith) in
      let e : past_of n p ≡ suc w.0 = w.1 in
      let m : past_of n p ≤ n = past-le n p in
      let b : w.0 < n = omega arith in
      let i = run_inside w.0 b w.2 in
      (w.0, b, w.2, omega arith)

  run-least : (a m : ℕ) → ((k : ℕ) → p k ≡ true → a ≤ k) → ((k : ℕ) → p k ≡ true → k < a + m) → (k : ℕ) → k < n → p k ≡ true
      → (a ≤ first_of n p) × (first_of n p + size n p ≤ a + m)
  run-least a m from to k l t =
      let f = first-is n p (any_here n p k l t) in
      let x : a ≤ first_of n p = from (first_of n p) f.holds in
      let w = run_end k l t in
      let e : first_of n p + size n p ≡ suc w.0 = w.3 in
      let y : w.0 < a + m = to w.0 w.2 in
      omega arith

  -- also where p holds nowhere
  run-bounds : (a m : ℕ) → 0 < n → ((k : ℕ) → p k ≡ true → a ≤ k) → ((k : ℕ) → p k ≡ true → k < a + m)
      → (first_of n p < n) × (size n p ≤ m) × (first_of n p + size n p ≤ n)
  run-bounds a m pos from to = go (true-or-false (any_below n p))
    where
      go : Truth (any_below n p) → (first_of n p < n) × (size n p ≤ m) × (first_of n p + size n p ≤ n)
      go (is_true t) =
          let f = first-is n p t in
          let b : first_of n p < n = f.below in
          let r = run-least a m from to (first_of n p) b f.holds in
          let w = run_end (first_of n p) b f.holds in
          let e : first_of n p + size n p ≡ suc w.0 = w.3 in
          let l : w.0 < n = w.1 in
          omega arith
      go (is_false t) =
          let f : first_of n p ≡ 0 = first-none n p t in
          let q : past_of n p ≡ 0 = past-none n p t in
          omega arith

  -- it ends on the sheet, also where p holds nowhere
  pub run_on : first_of n p + size n p ≤ n
  run_on = go (true-or-false (any_below n p))
    where
      go : Truth (any_below n p) → first_of n p + size n p ≤ n
      go (is_true t) = let l : first_of n p < n = (first-is n p t).below in let m : past_of n p ≤ n = past-le n p in omega arith
      go (is_false t) = let e : first_of n p ≡ 0 = first-none n p t in let m : past_of n p ≤ n = past-le n p in omega arith

-- ---- the number of a pattern

-- digit k stands in a row and in a column of the rectangle
pub box-place : (height width k : ℕ) → k < height * width → (k / width < height) × (k % width < width)
box-place height zero k l = let e : height * 0 ≡ 0 = mul-zero height in absurd (omega arith)
box-place height (suc w) k l =
    let pos : 0 < suc w = omega arith in
    ((div-lt_iff_lt-mul pos).1 l, mod-lt k pos)

box-numbers : (n m top left height width : ℕ) (e e' : Cells) → top + height ≤ n → left + width ≤ m
    → ((i j : ℕ) → i < n → j < m → e i j ≡ e' i j) → box_number top left height width e ≡ box_number top left height width e'
unfolding box_number
box-numbers n m top left height width e e' rows columns h =
    number-equal (height * width) (λ k. e (top + k / width) (left + k % width)) (λ k. e' (top + k / width) (left + k % width))
    (λ k l. let p = box-place height width k l in h (top + k / width) (left + k % width) (omega arith) (omega arith))

number-none : (top left height width : ℕ) (e : Cells) → height ≡ 0 → box_number top left height width e ≡ 0
unfolding box_number number_of
number-none top left height width e z =
    ap (λ (n : ℕ). number_of n (λ k. e (top + k / width) (left + k % width))) (ap (λ (h : ℕ). h * width) z ∙ zero-mul width)

-- ---- the report

-- the numbers of a report of a burst, in their ranges
pub record SmallReport (c : Code) (r : Report) : Type 0 where
  pub cells_box : r.cells ≤ c.b1 * c.b2
  pub cells_most : r.cells ≤ 16
  pub top_on : r.top < c.n1
  pub left_on : r.left < c.n2
  pub height_most : r.height ≤ c.b1
  pub width_most : r.width ≤ c.b2
  pub rows_on : r.top + r.height ≤ c.n1
  pub columns_on : r.left + r.width ≤ c.n2
  pub pattern_most : r.pattern < 65536

module _ (c : Code) where
  row_has : (e : Cells) (i j : ℕ) → j < c.n2 → e i j ≡ true → row_touched c e i ≡ true
  unfolding row_touched
  row_has e i j l t = any_here c.n2 (e i) j l t

  column-has : (e : Cells) (i j : ℕ) → i < c.n1 → e i j ≡ true → column_touched c e j ≡ true
  unfolding column_touched
  column-has e i j l t = any_here c.n1 (λ i. e i j) i l t

  has-row : (e : Cells) (i : ℕ) → row_touched c e i ≡ true → (j : ℕ) × (j < c.n2) × (e i j ≡ true)
  unfolding row_touched
  has-row e i t = any_found c.n2 (e i) t

  has-column : (e : Cells) (j : ℕ) → column_touched c e j ≡ true → (i : ℕ) × (i < c.n1) × (e i j ≡ true)
  unfolding column_touched
  has-column e j t = any_found c.n1 (λ i. e i j) t

  rows-equal : (e e' : Cells) → SameCells c e e' → (i : ℕ) → i < c.n1 → row_touched c e i ≡ row_touched c e' i
  unfolding row_touched
  rows-equal e e' h i l = any-equal c.n2 (e i) (e' i) (λ j lj. h i j l lj)

  columns-equal : (e e' : Cells) → SameCells c e e' → (j : ℕ) → j < c.n2 → column_touched c e j ≡ column_touched c e' j
  unfolding column_touched
  columns-equal e e' h j l = any-equal c.n1 (λ i. e i j) (λ i. e' i j) (λ i li. h i j li l)

  pub report-cells : (e e' : Cells) → SameCells c e e' → report_of c e ≡ report_of c e'
  unfolding report_of
  report-cells e e' h =
      let fr = first-equal c.n1 (row_touched c e) (row_touched c e') (rows-equal e e' h) in
      let pr = past_equal c.n1 (row_touched c e) (row_touched c e') (rows-equal e e' h) in
      let fc = first-equal c.n2 (column_touched c e) (column_touched c e') (columns-equal e e' h) in
      let pc = past_equal c.n2 (column_touched c e) (column_touched c e') (columns-equal e e' h) in
      let same : box_number (top_of c e) (left_of c e) (height_of c e) (width_of c e) e ≡ box_number (top_of c e') (left_of c e') (height_of c e') (width_of c e') e' =
      (λ i. box_number (fr i) (fc i) (pr i - fr i) (pc i - fc i) e)
      ∙ box-numbers c.n1 c.n2 (top_of c e') (left_of c e') (height_of c e') (width_of c e') e e' (run_on c.n1 (row_touched c e'))
      (run_on c.n2 (column_touched c e')) h in
      λ i. record {
        cells = cells-equal c.n1 c.n2 e e' h i;
        top = fr i;
        left = fc i;
        height = pr i - fr i;
        width = pc i - fc i;
        pattern = same i;
      }

  pub report-inside : (e : Cells) → OnSheet c e → Inside (report_of c e).top (report_of c e).left (report_of c e).height (report_of c e).width e
  unfolding report_of
  report-inside e on = record {
    row_from = λ i j t. (run_inside c.n1 (row_touched c e) i (on.rows i j t) (row_has e i j (on.columns i j t) t)).0;
    row_to = λ i j t. (run_inside c.n1 (row_touched c e) i (on.rows i j t) (row_has e i j (on.columns i j t) t)).1;
    column_from = λ i j t. (run_inside c.n2 (column_touched c e) j (on.columns i j t) (column-has e i j (on.rows i j t) t)).0;
    column_to = λ i j t. (run_inside c.n2 (column_touched c e) j (on.columns i j t) (column-has e i j (on.rows i j t) t)).1;
  }

  module _ (top left height width : ℕ) (e : Cells) (in-box : Inside top left height width e) where
    from_row : (i : ℕ) → row_touched c e i ≡ true → top ≤ i
    from_row i t = let w = has-row e i t in in-box.row_from i w.0 w.2

    to_row : (i : ℕ) → row_touched c e i ≡ true → i < top + height
    to_row i t = let w = has-row e i t in in-box.row_to i w.0 w.2

    from-column : (j : ℕ) → column_touched c e j ≡ true → left ≤ j
    from-column j t = let w = has-column e j t in in-box.column_from w.0 j w.2

    to-column : (j : ℕ) → column_touched c e j ≡ true → j < left + width
    to-column j t = let w = has-column e j t in in-box.column_to w.0 j w.2

    pub report-least : (i j : ℕ) → i < c.n1 → j < c.n2 → e i j ≡ true → LiesIn (report_of c e) top left height width
    unfolding report_of
    report-least i j li lj t =
        let r = run-least c.n1 (row_touched c e) top height from_row to_row i li (row_has e i j lj t) in
        let k = run-least c.n2 (column_touched c e) left width from-column to-column j lj (column-has e i j li t) in
        record { above = r.0; under = r.1; before = k.0; past = k.1 }

  pub report-none : (e : Cells) → ((i j : ℕ) → i < c.n1 → j < c.n2 → e i j ≡ false) → report_of c e ≡ no_report
  unfolding report_of
  report-none e h =
      let r : any_below c.n1 (row_touched c e) ≡ false =
      none_any c.n1 (row_touched c e) (λ i l. not-true (row_touched c e i) (λ t. let w = has-row e i t in clash w.2 (h i w.0 l w.1))) in
      let k : any_below c.n2 (column_touched c e) ≡ false =
      none_any c.n2 (column_touched c e) (λ j l. not-true (column_touched c e j) (λ t. let w = has-column e j t in clash w.2 (h w.0 j w.1 l))) in
      let z : past_of c.n1 (row_touched c e) ≡ 0 = past-none c.n1 (row_touched c e) r in
      let empty = number-none (top_of c e) (left_of c e) (height_of c e) (width_of c e) e (let y : height_of c e ≡ 0 = omega arith in y) in
      λ i. record {
        cells = cells-none c.n1 c.n2 e h i;
        top = first-none c.n1 (row_touched c e) r i;
        left = first-none c.n2 (column_touched c e) k i;
        height = past-none c.n1 (row_touched c e) r i - first-none c.n1 (row_touched c e) r i;
        width = past-none c.n2 (column_touched c e) k i - first-none c.n2 (column_touched c e) k i;
        pattern = empty i;
      }

  pub report-bit : (e : Cells) → let r = report_of c e in (i j : ℕ) → i < r.height → j < r.width
      → bit r.pattern (i * r.width + j) ≡ e (r.top + i) (r.left + j)
  unfolding report_of
  report-bit e i j li lj = box-bit (top_of c e) (left_of c e) (height_of c e) (width_of c e) e i j li lj

  pub report-below : (e : Cells) → let r = report_of c e in r.pattern < 2 ^ (r.height * r.width)
  unfolding report_of box_number
  report-below e = number-below (height_of c e * width_of c e) (λ t. e (top_of c e + t / width_of c e) (left_of c e + t % width_of c e))

  pub report-pattern : (e : Cells) → OnSheet c e → let r = report_of c e in (i j : ℕ)
      → box_cells r.top r.left r.height r.width r.pattern i j ≡ e i j
  unfolding report_of
  report-pattern e on i j = box-number (top_of c e) (left_of c e) (height_of c e) (width_of c e) e (report-inside e on) i j

  pub burst-report : Formed c → (e : Cells) → Burst c e → SmallReport c (report_of c e)
  unfolding report_of
  burst-report F e B = record {
    cells_box = box;
    cells_most = le_trans box sixteen;
    top_on = r.0;
    left_on = k.0;
    height_most = r.1;
    width_most = k.1;
    rows_on = r.2;
    columns_on = k.2;
    pattern_most =
        let p : 2 ^ (height_of c e * width_of c e) ≤ 2 ^ 16 = pow_mono (le_trans (mul-le-mul r.1 k.1) sixteen) in
        omega (arith, report-below e);
  }
    where
      box : cell_count c.n1 c.n2 e ≤ c.b1 * c.b2
      box = box-count B.top B.left c.b1 c.b2 e B.inside c.n1 c.n2

      sixteen : c.b1 * c.b2 ≤ 16
      sixteen = mul-le-mul F.b1_most F.b2_most

      r : (first_of c.n1 (row_touched c e) < c.n1) × (size c.n1 (row_touched c e) ≤ c.b1)
          × (first_of c.n1 (row_touched c e) + size c.n1 (row_touched c e) ≤ c.n1)
      r =
          run-bounds c.n1 (row_touched c e) B.top c.b1 (le_trans F.b1_pos F.n1_least)
          (from_row B.top B.left c.b1 c.b2 e B.inside) (to_row B.top B.left c.b1 c.b2 e B.inside)

      k : (first_of c.n2 (column_touched c e) < c.n2) × (size c.n2 (column_touched c e) ≤ c.b2)
          × (first_of c.n2 (column_touched c e) + size c.n2 (column_touched c e) ≤ c.n2)
      k =
          run-bounds c.n2 (column_touched c e) B.left c.b2 (le_trans F.b2_pos F.n2_least)
          (from-column B.top B.left c.b1 c.b2 e B.inside) (to-column B.top B.left c.b1 c.b2 e B.inside)
