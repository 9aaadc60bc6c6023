-- The report of a pattern number in a rectangle (documents 01 and 02 k: the six numbers of the reader's answer).
--
--   any_of           one of some digits is 1, from a place on and a step apart
--   line_has, Lines  a line of the rectangle, a row or a column, has a cell; the sizes for which lines are asked
--   part_digit, part_number   the digits of the pattern in a smaller rectangle, at a row and a column of this one; the number with these digits
--   Part            the smaller rectangle lies in one of 4 rows and b2 columns, at most 4
--   box_report       how many cells, the smallest rectangle that holds them, and their pattern in it; six zeros where there are none
--   report_as        a report of the code's mathematics, as the code's struct
--
-- That box_report is the report of the rectangle's cells is `box-report`, in proofs/Rectangle.antt.
use Rattle.std.specs.Prelude.{ℕ, ◌+◌, ◌-◌, ◌*◌, ◌/◌, ◌%◌, ◌≤◌, Bool, cond, eqb}
use Rattle.finite.specs.Search.{bit, number_of, any_below, count_below, first_of, past_of}
use Rattle.boxcode.specs.Reader.{Report, no_report}
use Rattle.mend.specs.declared.report.Report as code

unfoldable pub any_of : ℕ → ℕ → ℕ → ℕ → Bool
any_of x from step count = any_below count (λ l. bit x (from + l * step))

unfoldable pub line_has : ℕ → ℕ → ℕ → ℕ → ℕ → Bool
line_has x jump step count k = any_of x (k * jump) step count

unfoldable pub part_digit : (b2 row column width x k : ℕ) → Bool
part_digit b2 row column width x k = bit x ((row + k / width) * b2 + (column + k % width))

unfoldable pub part_number : (b2 row column height width x : ℕ) → ℕ
part_number b2 row column height width x = number_of (height * width) (part_digit b2 row column width x)

-- row r is digits r × b2 on, one apart; column d is digits d on, b2 apart
abbrev pub some_report : ℕ → ℕ → ℕ → ℕ → ℕ → Report
some_report top left b1 b2 x =
    let row = first_of b1 (line_has x b2 1 b2) in
    let column = first_of b2 (line_has x 1 b2 b1) in
    let height = past_of b1 (line_has x b2 1 b2) - row in
    let width = past_of b2 (line_has x 1 b2 b1) - column in
    record {
      cells = count_below (b1 * b2) (bit x);
      top = top + row;
      left = left + column;
      height = height;
      width = width;
      pattern = part_number b2 row column height width x;
    }

unfoldable pub box_report : ℕ → ℕ → ℕ → ℕ → ℕ → Report
box_report top left b1 b2 x = cond (eqb (count_below (b1 * b2) (bit x)) 0) no_report (some_report top left b1 b2 x)

abbrev pub report_as : Report → code.Report
report_as r = record { cells = r.cells; top = r.top; left = r.left; height = r.height; width = r.width; pattern = r.pattern }

pub record Lines (jump step count lines : ℕ) : Type 0 where
  pub jump_most : jump ≤ 4
  pub step_most : step ≤ 4
  pub count_most : count ≤ 4
  pub lines_most : lines ≤ 4

pub record Part (b2 row column height width : ℕ) : Type 0 where
  pub columns_most : b2 ≤ 4
  pub rows_in : row + height ≤ 4
  pub columns_in : column + width ≤ b2
