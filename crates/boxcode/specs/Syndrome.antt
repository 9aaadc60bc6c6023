-- Sheets as sets of dark cells, and their two sums (document 01, "Plan bytes").
--
--   Cells            a set of cells: of a sheet the dark ones, of a burst those it turns over
--   weight_sum        the exclusive-or of the weights of the cells of a set
--   row_syndrome, column_syndrome   the V sum and the H sum of a set of cells
--   Belongs          both sums are 0 (01: "a sheet belongs to the plan")
--   flip             the cells of a sheet after those of a burst are turned over
--   SameCells        the same cells on the sheet
use Rattle.std.specs.Prelude.{ℕ, ◌<◌, ◌≡◌, Bool}
use Rattle.std.specs.Bool.{xor}
use Rattle.gf2.specs.Xor.{pick}
use Rattle.gf2.specs.Sum.{xor_sum}
use Rattle.boxcode.specs.Code.{Code, row_weight, column_weight}

abbrev pub Cells : Type 0
Cells = ℕ → ℕ → Bool

-- over n1 rows and n2 columns, for any weight of a cell
unfoldable pub weight_sum : ℕ → ℕ → (ℕ → ℕ → ℕ) → Cells → ℕ
weight_sum n1 n2 w s = xor_sum n1 (λ i. xor_sum n2 (λ j. pick (s i j) (w i j)))

unfoldable pub row_syndrome : Code → Cells → ℕ
row_syndrome c s = weight_sum c.n1 c.n2 (row_weight c) s

unfoldable pub column_syndrome : Code → Cells → ℕ
column_syndrome c s = weight_sum c.n1 c.n2 (column_weight c) s

pub record Belongs (c : Code) (s : Cells) : Type 0 where
  pub row_zero : row_syndrome c s ≡ 0
  pub column_zero : column_syndrome c s ≡ 0

abbrev pub flip : Cells → Cells → Cells
flip s e i j = xor (s i j) (e i j)

abbrev pub SameCells : Code → Cells → Cells → Type 0
SameCells c s t = (i j : ℕ) → i < c.n1 → j < c.n2 → s i j ≡ t i j
