-- The report of a pattern number in a rectangle is that of its cells.
--
--   box-report                the report of the cells of a pattern number is `box_report`
--   found-report              so that is the report of a burst that was found
--   line_row, line-column     the lines of the rectangle, as the code tries them, are its rows and columns
--   first_past                the first line with a cell is not after the last, and neither is past the lines
--   lines_none, lines-report  `box_report` from its numbers
--
-- Assumes nothing.
use mathlib.Core.Path.{◌≡◌, refl, sym, ap, ap₂, ◌∙◌}
use mathlib.Core.Bool.{Bool, true}
use Prim.Native.Nat.{ℕ, zero, suc, ◌+◌, ◌-◌, ◌*◌, ◌/◌, ◌%◌, ◌≤◌, ◌<◌}
use native.Mathlib.Nat.{mul-one, mod-lt, div-lt_iff_lt-mul, div-add-mod', lt-suc_self, add-zero, add-suc}
use native.Mathlib.Omega.{arith}
use borrow.Author.Tests.{eq-eqb, ne_eqb}
use Rattle.finite.specs.Search.{bit, any_below, count_below, first_of, past_of}
use Rattle.finite.proofs.Truth.{Truth, is_true, is_false, true-or-false, not-true}
use Rattle.finite.proofs.Search.{any_found, any_here, any_none, any-equal, first-is, first-none, past-le, past-above}
use Rattle.finite.proofs.Count.{count-equal, count_none, count-rise}
use Rattle.finite.proofs.Digits.{number-equal}
use Rattle.boxcode.specs.Code.{Code, Formed}
use Rattle.boxcode.specs.Syndrome.{Cells}
use Rattle.boxcode.specs.Burst.{Inside, cell_count, box_cells, box_number, burst_for}
use Rattle.boxcode.specs.Reader.{row_touched, column_touched, report_of, no_report}
use Rattle.boxcode.proofs.Trial.{box-inside}
use Rattle.boxcode.proofs.Trial as boxed
use Rattle.boxcode.proofs.Cells.{cells-flat, cells-none, cells-some}
use Rattle.boxcode.proofs.Report.{run_on, box-place, report-cells, report-none}
use Rattle.mend.specs.Found.{IsBurst}
use Rattle.mend.specs.Report.{part_digit, part_number, box_report, report_as, any_of, line_has}
use Rattle.mend.proofs.Runs.{Run, run-any, run-count, run-first, run_past}

-- ---- the number of cells, by rows

cells-split : (a b m : ℕ) (e : Cells) → cell_count (a + b) m e ≡ cell_count a m e + cell_count b m (λ i. e (a + i))
unfolding cell_count
cells-split a zero m e = rw (add-zero a) (let z : cell_count a m e ≡ cell_count a m e + 0 = omega arith in z)
cells-split a (suc b) m e =
    rw (add-suc a b)
    (let h : cell_count (a + b) m e ≡ cell_count a m e + cell_count b m (λ i. e (a + i)) = cells-split a b m e in
    let z : cell_count (a + b) m e + count_below m (e (a + b)) ≡ cell_count a m e + (cell_count b m (λ i. e (a + i)) + count_below m (e (a + b))) = omega arith in z)

cells-rows : (n m m' : ℕ) (e e' : Cells) → ((i : ℕ) → i < n → count_below m (e i) ≡ count_below m' (e' i)) → cell_count n m e ≡ cell_count n m' e'
unfolding cell_count
cells-rows zero m m' e e' h = refl
cells-rows (suc n) m m' e e' h = ap₂ ◌+◌ (cells-rows n m m' e e' (λ i l. h i (omega arith))) (h n (lt-suc_self n))

-- ---- the cells of a pattern number in a rectangle of a sheet of n rows and m columns

module _ (n m top left b1 b2 x : ℕ) (rows : top + b1 ≤ n) (columns : left + b2 ≤ m) where
  e : Cells
  e = box_cells top left b1 b2 x

  inside : Inside top left b1 b2 e
  unfolding e
  inside = box-inside top left b1 b2 x

  box-cell : (r d : ℕ) → r < b1 → d < b2 → e (top + r) (left + d) ≡ bit x (r * b2 + d)
  unfolding e
  box-cell r d lr ld = boxed.box-cell top left b1 b2 x r d lr ld

  row-run : (r : ℕ) → r < b1 → Run m left b2 (e (top + r)) (λ d. bit x (r * b2 + d))
  row-run r lr = record {
    on = columns;
    same = λ d ld. box-cell r d lr ld;
    from = λ j t. inside.column_from (top + r) j t;
    to = λ j t. inside.column_to (top + r) j t;
  }

  column-run : (d : ℕ) → d < b2 → Run n top b1 (λ i. e i (left + d)) (λ r. bit x (r * b2 + d))
  column-run d ld = record {
    on = rows;
    same = λ r lr. box-cell r d lr ld;
    from = λ i t. inside.row_from i (left + d) t;
    to = λ i t. inside.row_to i (left + d) t;
  }

  box-cells : cell_count n m e ≡ count_below (b1 * b2) (bit x)
  box-cells =
      let s : n ≡ top + (b1 + (n - top - b1)) = omega arith in
      ap (λ (k : ℕ). cell_count k m e) s
      ∙ cells-split top (b1 + (n - top - b1)) m e
      ∙ ap₂ ◌+◌ (cells-none top m e (λ i j li lj. not-true (e i j) (λ t. let f = inside.row_from i j t in omega arith)))
      (cells-split b1 (n - top - b1) m (λ r. e (top + r))
      ∙ ap₂ ◌+◌
      (cells-rows b1 m b2 (λ r. e (top + r)) (λ r d. bit x (r * b2 + d)) (λ r lr. run-count m left b2 (e (top + r)) (λ d. bit x (r * b2 + d)) (row-run r lr))
      ∙ cells-flat b1 b2 (λ r d. bit x (r * b2 + d))
      ∙ count-equal (b1 * b2) (λ t. bit x (t / b2 * b2 + t % b2)) (bit x) (λ t l. ap (bit x) (div-add-mod' t b2)))
      (cells-none (n - top - b1) m (λ r. e (top + (b1 + r)))
      (λ i j li lj. not-true (e (top + (b1 + i)) j) (λ t. let u = inside.row_to (top + (b1 + i)) j t in omega arith))))
      ∙ (let z : 0 + (count_below (b1 * b2) (bit x) + 0) ≡ count_below (b1 * b2) (bit x) = omega arith in z)

  -- the number of a pattern's cells is that of its digits
  pub box-cell-count : cell_count n m (box_cells top left b1 b2 x) ≡ count_below (b1 * b2) (bit x)
  unfolding e
  box-cell-count = box-cells

-- ---- rows and columns of the rectangle

line_row : (x b2 r : ℕ) → line_has x b2 1 b2 r ≡ any_below b2 (λ d. bit x (r * b2 + d))
unfolding line_has any_of
line_row x b2 r = any-equal b2 (λ l. bit x (r * b2 + l * 1)) (λ d. bit x (r * b2 + d)) (λ l h. ap (λ (n : ℕ). bit x (r * b2 + n)) (mul-one l))

line-column : (x b1 b2 d : ℕ) → line_has x 1 b2 b1 d ≡ any_below b1 (λ r. bit x (r * b2 + d))
unfolding line_has any_of
line-column x b1 b2 d =
    any-equal b1 (λ l. bit x (d * 1 + l * b2)) (λ r. bit x (r * b2 + d))
    (λ l h. ap (bit x) (let e : d * 1 + l * b2 ≡ l * b2 + d = omega arith in e))

-- ---- the report

module _ (c : Code) (top left b1 b2 x : ℕ) (pos : 0 < b2) (rows : top + b1 ≤ c.n1) (columns : left + b2 ≤ c.n2) where
  cells : Cells
  cells = box_cells top left b1 b2 x

  in-box : Inside top left b1 b2 cells
  unfolding cells
  in-box = box-inside top left b1 b2 x

  abbrev row_has : ℕ → Bool
  row_has = line_has x b2 1 b2

  abbrev column_has : ℕ → Bool
  column_has = line_has x 1 b2 b1

  rows_run : Run c.n1 top b1 (row_touched c cells) row_has
  unfolding row_touched cells e
  rows_run = record {
    on = rows;
    same = λ r lr.
        run-any c.n2 left b2 (box_cells top left b1 b2 x (top + r)) (λ d. bit x (r * b2 + d))
        (row-run c.n1 c.n2 top left b1 b2 x rows columns r lr)
        ∙ sym (line_row x b2 r);
    from = λ i t. let w = any_found c.n2 (cells i) t in in-box.row_from i w.0 w.2;
    to = λ i t. let w = any_found c.n2 (cells i) t in in-box.row_to i w.0 w.2;
  }

  columns-run : Run c.n2 left b2 (column_touched c cells) column_has
  unfolding column_touched cells e
  columns-run = record {
    on = columns;
    same = λ d ld.
        run-any c.n1 top b1 (λ i. box_cells top left b1 b2 x i (left + d)) (λ r. bit x (r * b2 + d))
        (column-run c.n1 c.n2 top left b1 b2 x rows columns d ld)
        ∙ sym (line-column x b1 b2 d);
    from = λ j t. let w = any_found c.n1 (λ i. cells i j) t in in-box.column_from w.0 j w.2;
    to = λ j t. let w = any_found c.n1 (λ i. cells i j) t in in-box.column_to w.0 j w.2;
  }

  count : ℕ
  count = count_below (b1 * b2) (bit x)

  cells_count : cell_count c.n1 c.n2 cells ≡ count
  unfolding cells e count
  cells_count = box-cells c.n1 c.n2 top left b1 b2 x rows columns

  -- a digit that is 1 stands in a row and in a column
  module _ (k : ℕ) (l : k < b1 * b2) (t : bit x k ≡ true) where
    digit-home : bit x (k / b2 * b2 + k % b2) ≡ true
    digit-home = ap (bit x) (div-add-mod' k b2) ∙ t

    some-row : any_below b1 row_has ≡ true
    some-row =
        any_here b1 row_has (k / b2) ((div-lt_iff_lt-mul pos).1 l)
        (line_row x b2 (k / b2) ∙ any_here b2 (λ d. bit x (k / b2 * b2 + d)) (k % b2) (mod-lt k pos) digit-home)

    some-column : any_below b2 column_has ≡ true
    some-column =
        any_here b2 column_has (k % b2) (mod-lt k pos)
        (line-column x b1 b2 (k % b2)
        ∙ any_here b1 (λ r. bit x (r * b2 + k % b2)) (k / b2) ((div-lt_iff_lt-mul pos).1 l) digit-home)

    count-some : count ≡ 0 → ⊥
    unfolding count
    count-some e = let r : count_below k (bit x) < count_below (b1 * b2) (bit x) = count-rise k (b1 * b2) (bit x) t l in omega arith

  size-moved : (a f g f' g' : ℕ) → f ≡ a + f' → g ≡ a + g' → g - f ≡ g' - f'
  size-moved a f g f' g' p q = omega arith

  -- the cells in a smaller rectangle, that of the first and the last line with a cell
  box-part : (t l h w : ℕ) → t ≡ top + first_of b1 row_has → l ≡ left + first_of b2 column_has → h ≡ past_of b1 row_has - first_of b1 row_has
      → w ≡ past_of b2 column_has - first_of b2 column_has
      → box_number t l h w cells
      ≡ part_number b2 (first_of b1 row_has) (first_of b2 column_has) (past_of b1 row_has - first_of b1 row_has) (past_of b2 column_has - first_of b2 column_has) x
  unfolding box_number part_number part_digit cells e
  box-part t l h w et el eh ew =
      (λ i. box_number (et i) (el i) (eh i) (ew i) cells)
      ∙ number-equal (m * n) (λ k. cells (top + row + k / n) (left + column + k % n)) (part_digit b2 row column n x)
      (λ k lk.
      let p = box-place m n k lk in
      let a : top + row + k / n ≡ top + (row + k / n) = omega arith in
      let b : left + column + k % n ≡ left + (column + k % n) = omega arith in
      let u : row + m ≤ b1 = run_on b1 row_has in
      let v : column + n ≤ b2 = run_on b2 column_has in
      ap₂ cells a b
      ∙ box-cell c.n1 c.n2 top left b1 b2 x rows columns (row + k / n) (column + k % n) (omega arith) (omega arith))
    where
      row : ℕ
      row = first_of b1 row_has

      column : ℕ
      column = first_of b2 column_has

      m : ℕ
      m = past_of b1 row_has - row

      n : ℕ
      n = past_of b2 column_has - column

  pub box-report : report_of c (box_cells top left b1 b2 x) ≡ box_report top left b1 b2 x
  unfolding box_report cells count
  box-report = go (true-or-false (any_below (b1 * b2) (bit x)))
    where
      go : Truth (any_below (b1 * b2) (bit x)) → report_of c (box_cells top left b1 b2 x) ≡ box_report top left b1 b2 x
      go (is_false t) =
          let z : count ≡ 0 = count_none (b1 * b2) (bit x) (any_none (b1 * b2) (bit x) t) in
          let n : cell_count c.n1 c.n2 cells ≡ 0 = cells_count ∙ z in
          rw (eq-eqb count 0 z)
          (report-none c cells
          (λ i j li lj.
          not-true (cells i j) (λ u. let p : 0 < cell_count c.n1 c.n2 cells = cells-some c.n1 c.n2 cells i j li lj u in omega arith)))
      go (is_true t) =
          let w = any_found (b1 * b2) (bit x) t in
          let ar = some-row w.0 w.1 w.2 in
          let ac = some-column w.0 w.1 w.2 in
          let fr = run-first c.n1 top b1 (row_touched c cells) row_has rows_run ar in
          let pr = run_past c.n1 top b1 (row_touched c cells) row_has rows_run ar in
          let fc = run-first c.n2 left b2 (column_touched c cells) column_has columns-run ac in
          let pc = run_past c.n2 left b2 (column_touched c cells) column_has columns-run ac in
          let eh = size-moved top _ _ _ _ fr pr in
          let ew = size-moved left _ _ _ _ fc pc in
          rw (ne_eqb count 0 (count-some w.0 w.1 w.2))
          (unfold report_of in λ i. record {
            cells = cells_count i;
            top = fr i;
            left = fc i;
            height = eh i;
            width = ew i;
            pattern = box-part _ _ _ _ fr fc eh ew i;
          })

pub found-report : (c : Code) → Formed c → (v s top left x : ℕ) → IsBurst c v s top left x → report_of c (burst_for c v s) ≡ box_report top left c.b1 c.b2 x
found-report c F v s top left x b =
    sym (report-cells c (box_cells top left c.b1 c.b2 x) (burst_for c v s) (λ i j li lj. b.cells i j))
    ∙ box-report c top left c.b1 c.b2 x F.b2_pos b.rows_on b.columns_on

-- ---- as the code finds it

pub first_past : (n f g : ℕ) (p : ℕ → Bool) → f ≡ first_of n p → g ≡ past_of n p → (f ≤ g) × (f ≤ n) × (g ≤ n)
first_past n f g p ef eg = let l = go (true-or-false (any_below n p)) in let m = past-le n p in omega arith
  where
    go : Truth (any_below n p) → (first_of n p ≤ past_of n p) × (first_of n p ≤ n)
    go (is_true t) =
        let f = first-is n p t in
        let l : first_of n p < n = f.below in
        let u : first_of n p < past_of n p = past-above n p (first_of n p) l f.holds in
        omega arith
    go (is_false t) = let e : first_of n p ≡ 0 = first-none n p t in omega arith

module _ (top left b1 b2 x : ℕ) where
  pub lines_none : count_below (b1 * b2) (bit x) ≡ 0 → report_as no_report ≡ report_as (box_report top left b1 b2 x)
  unfolding box_report
  lines_none e = rw (eq-eqb (count_below (b1 * b2) (bit x)) 0 e)

  pub lines-report : (cells row column past_row past-column pattern : ℕ) → cells ≡ count_below (b1 * b2) (bit x) → (cells ≡ 0 → ⊥)
      → row ≡ first_of b1 (line_has x b2 1 b2) → column ≡ first_of b2 (line_has x 1 b2 b1)
      → past_row ≡ past_of b1 (line_has x b2 1 b2) → past-column ≡ past_of b2 (line_has x 1 b2 b1)
      → pattern ≡ part_number b2 row column (past_row - row) (past-column - column) x
      → record {
        cells = cells;
        top = top + row;
        left = left + column;
        height = past_row - row;
        width = past-column - column;
        pattern = pattern;
      }
      ≡ report_as (box_report top left b1 b2 x)
  unfolding box_report
  lines-report cells row column past_row past-column pattern e ne er ec pr pc en =
      rw (ne_eqb (count_below (b1 * b2) (bit x)) 0 (λ z. ne (e ∙ z)), en, e, er, ec, pr, pc)
