-- Cells in bytes (document 01, "Sheet and data"): the one place that knows how a sheet is stored.
--
--   row_bytes n2              the bytes of one row of n2 cells: n2 / 8, rounded up
--   sheet_bytes n1 n2         the bytes of n1 rows
--   byte_of n2 i j            the byte that holds cell (i, j)
--   cell_of n2 s i j          cell (i, j) of the bytes s: column 0 is the lowest bit of a row's first byte
--   used_bits n2 k            how many bits of byte k hold cells
--   unused_at n2 s k          byte k has an unused bit that is 1
--   first_unused              the first such byte, or the number of bytes
--   RightForm n1 n2 s         s has n1 rows of bytes, and its unused bits are 0 (01: "of the right form")
--   bytes_of n1 n2 p          the bytes of the right form with the cells p
--   turned n2 s i j           the bytes s with cell (i, j) turned over
--   turned_if b n2 s i j      the same if b holds, else s
--   byte_turned b n2 i j k x  what byte k, of the value x, becomes by that
--
-- A string of k bits of data is stored as one row of k cells.
use Rattle.std.specs.Prelude.{ℕ, zero, suc, ◌+◌, ◌-◌, ◌*◌, ◌/◌, ◌%◌, ◌^◌, ◌<◌, min, ◌≡◌, Bool, cond, ◌&&◌, List, [], ◌∷◌, ◌++◌, leb, eqb, length, get_or, set}
use Rattle.finite.specs.Search.{bit, number_of, least}
use Rattle.gf2.specs.Xor.{◌⊕◌}

unfoldable pub row_bytes : ℕ → ℕ
row_bytes n2 = (n2 + 7) / 8

unfoldable pub sheet_bytes : ℕ → ℕ → ℕ
sheet_bytes n1 n2 = n1 * row_bytes n2

unfoldable pub byte_of : ℕ → ℕ → ℕ → ℕ
byte_of n2 i j = i * row_bytes n2 + j / 8

unfoldable pub cell_of : ℕ → List ℕ → ℕ → ℕ → Bool
cell_of n2 s i j = bit (get_or s (byte_of n2 i j) 0) (j % 8)

unfoldable pub used_bits : ℕ → ℕ → ℕ
used_bits n2 k = min 8 (n2 - 8 * (k % row_bytes n2))

unfoldable pub unused_at : ℕ → List ℕ → ℕ → Bool
unused_at n2 s k = leb (2 ^ used_bits n2 k) (get_or s k 0)

unfoldable pub first_unused : ℕ → ℕ → List ℕ → ℕ
first_unused n1 n2 s = least (sheet_bytes n1 n2) (unused_at n2 s)

pub record RightForm (n1 n2 : ℕ) (s : List ℕ) : Type 0 where
  pub size : length s ≡ sheet_bytes n1 n2
  pub used : (k : ℕ) → k < sheet_bytes n1 n2 → get_or s k 0 < 2 ^ used_bits n2 k

-- the list of f 0, …, f (n - 1)
unfoldable pub tabulate : ℕ → (ℕ → ℕ) → List ℕ
tabulate zero f = []
tabulate (suc n) f = tabulate n f ++ (f n ∷ [])

-- digit t of byte k is the cell in row k / row_bytes and column 8 × (k % row_bytes) + t
unfoldable pub byte_from : ℕ → (ℕ → ℕ → Bool) → ℕ → ℕ
byte_from n2 p k = number_of (used_bits n2 k) (λ t. p (k / row_bytes n2) (8 * (k % row_bytes n2) + t))

unfoldable pub bytes_of : ℕ → ℕ → (ℕ → ℕ → Bool) → List ℕ
bytes_of n1 n2 p = tabulate (sheet_bytes n1 n2) (byte_from n2 p)

unfoldable pub turned : ℕ → List ℕ → ℕ → ℕ → List ℕ
turned n2 s i j = set s (byte_of n2 i j) (get_or s (byte_of n2 i j) 0 ⊕ 2 ^ (j % 8))

abbrev pub turned_if : Bool → ℕ → List ℕ → ℕ → ℕ → List ℕ
turned_if b n2 s i j = cond b (turned n2 s i j) s

abbrev pub byte_turned : Bool → ℕ → ℕ → ℕ → ℕ → ℕ → ℕ
byte_turned b n2 i j k x = cond (b && eqb (byte_of n2 i j) k) (x ⊕ 2 ^ (j % 8)) x
