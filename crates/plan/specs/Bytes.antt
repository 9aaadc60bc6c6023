-- The code that a plan's bytes stand for (document 01, "Plan bytes").
--
--   row_entry_at, column_entry_at    the entry at a position of the row table V and of the column table H
--   check_row_at, check_column_at    row and column of a pair of the check list
--   check_cell_at                    the pair, as the code has it
--   Weight, CheckCell                what is promised of a cell's entry and of a pair
--   code_from                        the code with the numbers of a header, and these tables and this check list
--   code_with, code_of               all of a plan, as the code's mathematics has it
use Rattle.std.specs.Prelude.{ℕ, ◌+◌, ◌*◌, ◌<◌, ◌≡◌, List}
use Rattle.layout.specs.Number.{u16_at, u32_at}
use Rattle.boxcode.specs.Code.{Code}
use Rattle.plan.specs.declared.header.Header.{Header}
use Rattle.plan.specs.declared.view.Cell.{Cell}
use Rattle.plan.specs.Header.{header_length, header_of, columns_start, checks_start}

abbrev pub row_entry_at : List ℕ → ℕ → ℕ
row_entry_at s k = u32_at s (header_length + 4 * k)

abbrev pub column_entry_at : List ℕ → Header → ℕ → ℕ
column_entry_at s h k = u32_at s (columns_start h + 4 * k)

abbrev pub check_row_at : List ℕ → Header → ℕ → ℕ
check_row_at s h k = u16_at s (checks_start h + 4 * k)

abbrev pub check_column_at : List ℕ → Header → ℕ → ℕ
check_column_at s h k = u16_at s (checks_start h + 4 * k + 2)

abbrev pub check_cell_at : List ℕ → Header → ℕ → Cell
check_cell_at s h k = record { row = check_row_at s h k; column = check_column_at s h k }

abbrev pub code_from : Header → (v w row column : ℕ → ℕ) → Code
code_from h v w row column = record {
  n1 = h.n1;
  n2 = h.n2;
  b1 = h.b1;
  b2 = h.b2;
  t = h.t;
  rv = h.rv;
  rh = h.rh;
  row_entry = v;
  column_entry = w;
  check_row = row;
  check_column = column;
}

-- the code with the header h in the bytes s
abbrev pub code_with : List ℕ → Header → Code
code_with s h = code_from h (row_entry_at s) (column_entry_at s h) (check_row_at s h) (check_column_at s h)

unfoldable pub code_of : List ℕ → Code
code_of s = code_with s (header_of s)

-- what is promised of the weight of a cell: the value, and that it fits 32 bits
pub record Weight (w r : ℕ) : Type 0 where
  pub value : r ≡ w
  pub below : r < 4294967296

-- what is promised of pair k of the check list: its two numbers, and that they fit 16 bits
pub record CheckCell (s : List ℕ) (h : Header) (k : ℕ) (r : Cell) : Type 0 where
  pub value : r ≡ check_cell_at s h k
  pub row_below : r.row < 65536
  pub column_below : r.column < 65536
