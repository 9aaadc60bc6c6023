-- What the reader makes of a sheet (document 01, "Turned back" and demand 3), by trial and with no algorithm.
--
--   change       the cells that are turned over: the first burst, possibly empty, that brings both sums to 0
--   mended       the sheet after that
--   Report       how many cells were turned over, the smallest rectangle that holds them, and their pattern in it (02 k); six zeros where none were
--   row_touched, column_touched   a row, and a column, has a cell of the set
--   top_of, left_of, height_of, width_of   the smallest rectangle that holds a set of cells
--   report_of     the report of a set of cells
--   no_report     six zeros
--   LiesIn       the rectangle of a report lies in another
use Rattle.std.specs.Prelude.{ℕ, ◌+◌, ◌-◌, ◌≤◌, Bool}
use Rattle.finite.specs.Search.{any_below, first_of, past_of}
use Rattle.boxcode.specs.Code.{Code}
use Rattle.boxcode.specs.Syndrome.{Cells, flip, row_syndrome, column_syndrome}
use Rattle.boxcode.specs.Burst.{cell_count, box_number, burst_for}

unfoldable pub change : Code → Cells → Cells
change c s = burst_for c (row_syndrome c s) (column_syndrome c s)

unfoldable pub mended : Code → Cells → Cells
mended c s = flip s (change c s)

pub record Report : Type 0 where
  pub cells : ℕ
  pub top : ℕ
  pub left : ℕ
  pub height : ℕ
  pub width : ℕ
  pub pattern : ℕ

-- row i, and column j, has a cell of the set
unfoldable pub row_touched : Code → Cells → ℕ → Bool
row_touched c e i = any_below c.n2 (e i)

unfoldable pub column_touched : Code → Cells → ℕ → Bool
column_touched c e j = any_below c.n1 (λ i. e i j)

-- the smallest rectangle that holds the set
abbrev pub top_of : Code → Cells → ℕ
top_of c e = first_of c.n1 (row_touched c e)

abbrev pub left_of : Code → Cells → ℕ
left_of c e = first_of c.n2 (column_touched c e)

abbrev pub height_of : Code → Cells → ℕ
height_of c e = past_of c.n1 (row_touched c e) - top_of c e

abbrev pub width_of : Code → Cells → ℕ
width_of c e = past_of c.n2 (column_touched c e) - left_of c e

unfoldable pub report_of : Code → Cells → Report
report_of c e = record {
  cells = cell_count c.n1 c.n2 e;
  top = top_of c e;
  left = left_of c e;
  height = height_of c e;
  width = width_of c e;
  -- 02 k: the cell at row r and column s of that rectangle has bit r × width + s
  pattern = box_number (top_of c e) (left_of c e) (height_of c e) (width_of c e) e;
}

abbrev pub no_report : Report
no_report = record { cells = 0; top = 0; left = 0; height = 0; width = 0; pattern = 0 }

pub record LiesIn (r : Report) (top left height width : ℕ) : Type 0 where
  pub above : top ≤ r.top
  pub under : r.top + r.height ≤ top + height
  pub before : left ≤ r.left
  pub past : r.left + r.width ≤ left + width
