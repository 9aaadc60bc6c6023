-- The two sums of a sheet that is stored by columns, gathered by blocks of eight rows.
--
--   by_column n1 n2 s        the cells of a sheet that is stored by columns in the bytes s
--   column_sum n1 w s a b j  the exclusive-or of the weights of the cells of a set that stand in column j and in the rows from a up to
--                            but not including b
--   tabled h rows columns    the code with the numbers of a header and its two tables in words; the sums ask nothing of its check list
--   Tables h rows columns    what gathering asks of the two tables
--   PartSums c s b j r       r has the two sums of the cells that stand in column j and in block b, the eight rows from 8 × b on
use Rattle.std.specs.Prelude.{ℕ, ◌+◌, ◌*◌, ◌≤◌, ◌<◌, List, length}
use Rattle.gf2.specs.Xor.{pick}
use Rattle.gf2.specs.Sum.{run_sum}
use Rattle.layout.specs.Stored.{cell_in}
use Rattle.layout.specs.declared.stored.Layout.TheVariants.{ByColumn}
use Rattle.boxcode.specs.Code.{Code, row_weight, column_weight}
use Rattle.boxcode.specs.Syndrome.{Cells}
use Rattle.plan.specs.Header.{Small}
use Rattle.plan.specs.Bytes.{code_from}
use Rattle.plan.specs.Table.{word_at}
use Rattle.plan.specs.declared.header.Header.{Header}
use Rattle.syndrome.specs.declared.sums.Sums.{Sums}
use Rattle.syndrome.specs.Gather.{TwoSums}

abbrev pub by_column : ℕ → ℕ → List ℕ → Cells
by_column n1 n2 s = cell_in ByColumn n1 n2 s

unfoldable pub column_sum : ℕ → (ℕ → ℕ → ℕ) → Cells → ℕ → ℕ → ℕ → ℕ
column_sum n1 w s a b j = run_sum n1 (λ i. pick (s i j) (w i j)) a b

abbrev pub tabled : Header → List ℕ → List ℕ → Code
tabled h rows columns = code_from h (word_at rows) (word_at columns) (λ k. 0) (λ k. 0)

pub record Tables (h : Header) (rows columns : List ℕ) : Type 0 where
  pub small : Small h
  pub rows_long : h.n1 * h.b2 ≤ length rows
  pub rows_below : (k : ℕ) → k < h.n1 * h.b2 → word_at rows k < 4294967296
  pub columns_long : h.n2 * h.b1 ≤ length columns
  pub columns_below : (k : ℕ) → k < h.n2 * h.b1 → word_at columns k < 4294967296

abbrev pub PartSums : Code → Cells → ℕ → ℕ → Sums → Type 0
PartSums c s b j r =
    TwoSums (column_sum c.n1 (row_weight c) s (8 * b) (8 * b + 8) j) (column_sum c.n1 (column_weight c) s (8 * b) (8 * b + 8) j) r
