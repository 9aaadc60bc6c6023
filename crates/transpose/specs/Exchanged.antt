-- A sheet with its rows and columns exchanged.
--
--   exchanged p        the cells p with rows and columns exchanged: cell (j, i) of it is cell (i, j) of p
--   Begun n1 n2 s k t  t is as long as n2 rows of n1 cells, and its first k bytes are those of the sheet s of n1 rows and n2 columns, exchanged
use Rattle.std.specs.Prelude.{ℕ, ◌<◌, ◌≡◌, Bool, List, length, get_or}
use Rattle.layout.specs.Cells.{sheet_bytes, cell_of, byte_from}

unfoldable pub exchanged : (ℕ → ℕ → Bool) → ℕ → ℕ → Bool
exchanged p j i = p i j

pub record Begun (n1 n2 : ℕ) (s : List ℕ) (k : ℕ) (t : List ℕ) : Type 0 where
  pub size : length t ≡ sheet_bytes n2 n1
  pub bytes : (m : ℕ) → m < k → get_or t m 0 ≡ byte_from n1 (exchanged (cell_of n2 s)) m
