-- How a sheet of n1 rows and n2 columns is stored: row after row (document 01), or column after column (document 02, i). By
-- columns it is, byte for byte, a sheet by rows with rows and columns exchanged: each column has n1 / 8 bytes, rounded up, row 0
-- lowest, unused bits 0. What Cells says of rows is said here of either layout.
--
--   Sizes n1 n2                  a sheet is at most this large
--   other_than lay               the layout that it is not
--   size_in lay n1 n2            the bytes of a sheet
--   cell_in lay n1 n2 s          the cells of the bytes s
--   FormIn lay n1 n2 s           the bytes s are of the right form
--   bytes_in lay n1 n2 p         the bytes of the right form with the cells p
--   first_unused_in lay n1 n2 s  the first byte with an unused bit that is 1, or the number of bytes
--   turned_in b lay n1 n2 s i j  the bytes s with cell (i, j) turned over if b holds
--   transposed lay n1 n2 s       the bytes s of this layout, in the other one
use Rattle.std.specs.Prelude.{ℕ, ◌≤◌, Bool, List}
use Rattle.layout.specs.Cells.{sheet_bytes, cell_of, first_unused, RightForm, bytes_of, turned_if}
use Rattle.layout.specs.declared.stored.Layout.{Layout}
use Rattle.layout.specs.declared.stored.Layout.TheVariants.{ByRow, ByColumn}

pub record Sizes (n1 n2 : ℕ) : Type 0 where
  pub n1_most : n1 ≤ 512
  pub n2_most : n2 ≤ 698

abbrev pub other_than : Layout → Layout
other_than ByRow = ByColumn
other_than ByColumn = ByRow

abbrev pub size_in : Layout → ℕ → ℕ → ℕ
size_in ByRow n1 n2 = sheet_bytes n1 n2
size_in ByColumn n1 n2 = sheet_bytes n2 n1

abbrev pub cell_in : Layout → ℕ → ℕ → List ℕ → ℕ → ℕ → Bool
cell_in ByRow n1 n2 s = λ i j. cell_of n2 s i j
cell_in ByColumn n1 n2 s = λ i j. cell_of n1 s j i

abbrev pub FormIn : Layout → ℕ → ℕ → List ℕ → Type 0
FormIn ByRow n1 n2 s = RightForm n1 n2 s
FormIn ByColumn n1 n2 s = RightForm n2 n1 s

abbrev pub bytes_in : Layout → ℕ → ℕ → (ℕ → ℕ → Bool) → List ℕ
bytes_in ByRow n1 n2 p = bytes_of n1 n2 p
bytes_in ByColumn n1 n2 p = bytes_of n2 n1 (λ j i. p i j)

abbrev pub first_unused_in : Layout → ℕ → ℕ → List ℕ → ℕ
first_unused_in ByRow n1 n2 s = first_unused n1 n2 s
first_unused_in ByColumn n1 n2 s = first_unused n2 n1 s

abbrev pub turned_in : Bool → Layout → ℕ → ℕ → List ℕ → ℕ → ℕ → List ℕ
turned_in b ByRow n1 n2 s i j = turned_if b n2 s i j
turned_in b ByColumn n1 n2 s i j = turned_if b n1 s j i

unfoldable pub transposed : Layout → ℕ → ℕ → List ℕ → List ℕ
transposed lay n1 n2 s = bytes_in (other_than lay) n1 n2 (cell_in lay n1 n2 s)
