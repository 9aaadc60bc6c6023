-- The two sums of a run of rows, gathered row by row, from the last row to the first, and byte by byte.
--
--   byte_sum f x j n     the exclusive-or of the weights of the n cells from column j on that stand in the byte x, with weight f of a column
--   rows_at, columns_at  the weight of a column by the words of a row of V, and by the unpacked table H
--   RowWords f n words   words k is f k, for the n entries of V that a row has
--   Words                what gathering a row asks of its tables
--   TwoSums v h r        r has the sums v and h, which have at most 32 bits
--   ByteSums .. r        r has the two sums of the cells from column j on that stand in the byte x
--   RowSums c s i r      r has the two sums of row i of the sheet s
--   SheetSums c s r      r has the two sums of the sheet s
--   RunSums c s a b r    r has the two sums of the rows from a up to but not including b
--   run_rows n1 run      how many rows of a run are on a sheet of n1 rows
--   Fed c s run k r      r has the two sums of the rows fed so far, those from row number k of the run on (02 b)
use Rattle.std.specs.Prelude.{ℕ, ◌+◌, ◌-◌, ◌*◌, ◌%◌, ◌≤◌, ◌<◌, min, ◌≡◌, List, length, get_or}
use Rattle.finite.specs.Search.{bit}
use Rattle.gf2.specs.Sum.{chosen_sum}
use Rattle.boxcode.specs.Code.{Code, row_weight, column_weight}
use Rattle.boxcode.specs.Syndrome.{Cells, row_syndrome, column_syndrome}
use Rattle.boxcode.specs.Run.{row_sum, row_syndrome_in, column_syndrome_in}
use Rattle.syndrome.specs.declared.run.Run.{Run}
use Rattle.syndrome.specs.declared.sums.Sums.{Sums}

unfoldable pub byte_sum : (ℕ → ℕ) → ℕ → ℕ → ℕ → ℕ
byte_sum f x j n = chosen_sum n (bit x) (λ t. f (j + t))

unfoldable pub rows_at : ℕ → List ℕ → ℕ → ℕ
rows_at b2 rows j = get_or rows (j % b2) 0

unfoldable pub columns_at : ℕ → ℕ → List ℕ → ℕ → ℕ
columns_at b1 q columns j = get_or columns (j * b1 + q) 0

pub record RowWords (f : ℕ → ℕ) (n : ℕ) (words : List ℕ) : Type 0 where
  pub size : length words ≡ 4
  pub entry : (k : ℕ) → k < n → get_or words k 0 ≡ f k
  pub below : (k : ℕ) → k < n → get_or words k 0 < 4294967296

-- n2 columns of weights: V entries by j modulo b2, H entries at j × b1 + q
pub record Words (n2 b1 b2 q : ℕ) (rows columns : List ℕ) : Type 0 where
  pub n2_most : n2 ≤ 698
  pub b1_most : b1 ≤ 4
  pub b2_pos : 1 ≤ b2
  pub b2_most : b2 ≤ 4
  pub q_below : q < b1
  pub rows_long : b2 ≤ length rows
  pub rows_below : (k : ℕ) → k < b2 → get_or rows k 0 < 4294967296
  pub columns_long : n2 * b1 ≤ length columns
  pub columns_below : (k : ℕ) → k < n2 * b1 → get_or columns k 0 < 4294967296

pub record TwoSums (v h : ℕ) (r : Sums) : Type 0 where
  pub row : r.row ≡ v
  pub column : r.column ≡ h
  pub row_below : r.row < 4294967296
  pub column_below : r.column < 4294967296

abbrev pub ByteSums : (n2 b1 b2 q : ℕ) → List ℕ → List ℕ → ℕ → ℕ → Sums → Type 0
ByteSums n2 b1 b2 q rows columns x j r =
    TwoSums (byte_sum (rows_at b2 rows) x j (min 8 (n2 - j))) (byte_sum (columns_at b1 q columns) x j (min 8 (n2 - j))) r

abbrev pub RowSums : Code → Cells → ℕ → Sums → Type 0
RowSums c s i r = TwoSums (row_sum c.n2 (row_weight c) s i) (row_sum c.n2 (column_weight c) s i) r

abbrev pub SheetSums : Code → Cells → Sums → Type 0
SheetSums c s r = TwoSums (row_syndrome c s) (column_syndrome c s) r

abbrev pub RunSums : Code → Cells → ℕ → ℕ → Sums → Type 0
RunSums c s a b r = TwoSums (row_syndrome_in c a b s) (column_syndrome_in c a b s) r

-- none where the run's end is at or below its start, and none past the sheet: the subtraction stops at 0
abbrev pub run_rows : ℕ → Run → ℕ
run_rows n1 run = min run.past n1 - run.first

-- 02 b)'s sentence: "at each step what is held is shown to be the two sums of the courses fed so far". The last row of the run
-- is fed first, so the rows fed are those from number k of the run on
abbrev pub Fed : Code → Cells → Run → ℕ → Sums → Type 0
Fed c s run k r = RunSums c s (run.first + k) run.past r
