-- A cursor over the sheet from run to run, and the data bit of each cell.
--
--   checks_before c t      how many check cells come before number t in sheet order
--   data_before c t        how many other cells do
--   next_check c q         the number of check cell q, or the number of cells where there is none left
--   row_ends c i           the data cells before row i and before row i + 1, added: the data bits of the row run from the
--                          one up to but not including the other
--   At c r                 where the cursor r stands: its cell, and what comes before it
--   run_length n2 r        the data cells from the cursor to the next check cell or the end of the row
--   data_bit i place ends  the number of the data bit of a cell in row i, from the data cells before it and the row's ends
--   bit_at r j             the number of the data bit j cells after the cursor
--   Begun c r              r stands at the first cell
--   Stepped c r r'         r' stands further on than r, past its run, and only check cells stand between
use Rattle.std.specs.Prelude.{ℕ, ◌+◌, ◌-◌, ◌*◌, ◌≤◌, ◌<◌, min, ◌≡◌, true, not, cond, ltb}
use Rattle.finite.specs.Search.{count_below}
use Rattle.boxcode.specs.Code.{Code}
use Rattle.boxcode.specs.Check.{check_number, check_at, runs_down}
use Rattle.position.specs.declared.cursor.Cursor.{Cursor}

unfoldable pub checks_before : Code → ℕ → ℕ
checks_before c t = count_below t (check_at c)

unfoldable pub data_before : Code → ℕ → ℕ
data_before c t = count_below t (λ u. not (check_at c u))

unfoldable pub next_check : Code → ℕ → ℕ
next_check c q = cond (ltb q (c.rv + c.rh)) (check_number c q) (c.n1 * c.n2)

unfoldable pub row_ends : Code → ℕ → ℕ
row_ends c i = data_before c (i * c.n2) + data_before c ((i + 1) * c.n2)

pub record At (c : Code) (r : Cursor) : Type 0 where
  pub row_most : r.row ≤ c.n1
  pub column_most : r.column ≤ c.n2
  pub number : r.row * c.n2 + r.column ≡ r.cell
  pub place_is : r.place ≡ data_before c r.cell
  pub check_is : r.check ≡ checks_before c r.cell
  pub next_is : r.next ≡ next_check c r.check
  pub ends_is : r.ends ≡ row_ends c r.row

unfoldable pub run_length : ℕ → Cursor → ℕ
run_length n2 r = min (r.next - r.cell) (n2 - r.column)

unfoldable pub data_bit : ℕ → ℕ → ℕ → ℕ
data_bit i place ends = cond (runs_down i) (ends - (place + 1)) place

abbrev pub bit_at : Cursor → ℕ → ℕ
bit_at r j = data_bit r.row (r.place + j) r.ends

pub record Begun (c : Code) (r : Cursor) : Type 0 where
  pub at : At c r
  pub first : r.cell ≡ 0

pub record Stepped (c : Code) (r r' : Cursor) : Type 0 where
  pub at : At c r'
  pub on : r.cell + r.row < r'.cell + r'.row
  pub past : r.cell + run_length c.n2 r ≤ r'.cell
  pub checks : (t : ℕ) → r.cell + run_length c.n2 r ≤ t → t < r'.cell → check_at c t ≡ true
