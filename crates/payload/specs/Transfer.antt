-- Data put into the cells of a run and taken out of them, cell by cell.
--
--   put_run, take_run  the sheet after the first cells of the run at a cursor have their data bits, and the data after
--                      they have given them; before, these cells are light, and these bits 0
--   Reaches            the cells and bits of a run stand in buffers of these lengths
use Rattle.std.specs.Prelude.{ℕ, zero, suc, ◌+◌, ◌≤◌, ◌<◌, ◌≡◌, List}
use Rattle.layout.specs.Cells.{byte_of, cell_of, turned_if}
use Rattle.layout.specs.Stored.{Sizes, size_in, cell_in, turned_in}
use Rattle.layout.specs.declared.stored.Layout.{Layout}
use Rattle.position.specs.declared.cursor.Cursor.{Cursor}
use Rattle.position.specs.Walk.{bit_at}

unfoldable pub put_run : ℕ → ℕ → List ℕ → Layout → ℕ → ℕ → List ℕ → Cursor → List ℕ
put_run zero k bits lay n1 n2 sheet r = sheet
put_run (suc j) k bits lay n1 n2 sheet r =
    turned_in (cell_of k bits 0 (bit_at r j)) lay n1 n2 (put_run j k bits lay n1 n2 sheet r) r.row (r.column + j)

unfoldable pub take_run : ℕ → Layout → ℕ → ℕ → List ℕ → ℕ → List ℕ → Cursor → List ℕ
take_run zero lay n1 n2 sheet k bits r = bits
take_run (suc j) lay n1 n2 sheet k bits r =
    turned_if (cell_in lay n1 n2 sheet r.row (r.column + j)) k (take_run j lay n1 n2 sheet k bits r) 0 (bit_at r j)

pub record Reaches (k bits : ℕ) (lay : Layout) (n1 n2 sheet len : ℕ) (r : Cursor) : Type 0 where
  pub k_most : k ≤ 1000000
  pub sizes : Sizes n1 n2
  pub sheet_len : sheet ≡ size_in lay n1 n2
  pub ends_most : r.ends ≤ 1000000
  pub row_below : r.row < n1
  pub column_most : r.column + len ≤ n2
  pub room : (j : ℕ) → j < len → r.place + j < r.ends
  pub bit_in : (j : ℕ) → j < len → byte_of k 0 (bit_at r j) < bits
