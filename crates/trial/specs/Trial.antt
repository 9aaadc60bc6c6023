-- The trial of one rectangle (02 j: "each rectangle in sheet order, each pattern in it, until both sums are 0"). The trial of a
-- whole sheet is first_burst, in the specs of mend.
--
--   weight_by          the entry of a cell in one of the two tables
--   Gathered           sixteen words: the entries of a rectangle's cells, row by row, and zeros after them
--   pattern_sum        the exclusive-or of those of sixteen entries whose digit in the pattern's number is 1
--   has_sums           pattern number x, of cells with these V and H entries, has the V sum v and the H sum s
--   fits_few           the same, and it has few of n cells where t is not 0
--   tried_at           pattern number x, in the rectangle at a top row and a left column, is a burst with these two sums
use Rattle.std.specs.Prelude.{ℕ, ◌+◌, ◌*◌, ◌/◌, ◌%◌, ◌≤◌, ◌<◌, ◌≡◌, Bool, ◌&&◌, List, eqb, length}
use Rattle.gf2.specs.Sum.{chosen_sum}
use Rattle.finite.specs.Search.{bit, count_below, few}
use Rattle.boxcode.specs.Code.{Code, row_weight, column_weight}
use Rattle.boxcode.specs.Syndrome.{row_syndrome, column_syndrome}
use Rattle.boxcode.specs.Burst.{box_cells, cell_count}
use Rattle.plan.specs.declared.table.Table.{Table}
use Rattle.plan.specs.declared.table.Table.TheVariants.{Rows, Columns}
use Rattle.plan.specs.Table.{word_at}

abbrev pub weight_by : Table → Code → ℕ → ℕ → ℕ
weight_by Rows c = row_weight c
weight_by Columns c = column_weight c

pub record Gathered (table : Table) (c : Code) (top left : ℕ) (entries : List ℕ) : Type 0 where
  pub size : length entries ≡ 16
  pub entry : (k : ℕ) → k < c.b1 * c.b2 → word_at entries k ≡ weight_by table c (top + k / c.b2) (left + k % c.b2)
  pub rest : (k : ℕ) → c.b1 * c.b2 ≤ k → word_at entries k ≡ 0

unfoldable pub pattern_sum : (ℕ → ℕ) → ℕ → ℕ
pattern_sum entry x = chosen_sum 16 (bit x) entry

unfoldable pub has_sums : (row column : ℕ → ℕ) → ℕ → ℕ → ℕ → Bool
has_sums row column v s x = eqb (pattern_sum row x) v && eqb (pattern_sum column x) s

unfoldable pub fits_few : ℕ → ℕ → (row column : ℕ → ℕ) → ℕ → ℕ → ℕ → Bool
fits_few t n row column v s x = has_sums row column v s x && few t (count_below n (bit x))

unfoldable pub tried_at : Code → ℕ → ℕ → ℕ → ℕ → ℕ → Bool
tried_at c v s top left x =
    let e = box_cells top left c.b1 c.b2 x in
    (eqb (row_syndrome c e) v && eqb (column_syndrome c e) s) && few c.t (cell_count c.n1 c.n2 e)
