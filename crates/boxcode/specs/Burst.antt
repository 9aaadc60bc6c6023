-- Bursts (01: blots), and the first burst by trial.
--
--   Burst c e        e is a set of cells inside one rectangle of b1 rows and b2 columns on the sheet
--   Fits c s e       the sheet with e turned over belongs to the plan
--   cell_count        the number of cells of a set
--   box_cells         the cells of pattern number x in a rectangle: row r and column t of it have digit r × width + t
--   box_number        the number of the pattern that a set of cells has in a rectangle
--   trials           how many rectangles and patterns there are to try
--   trial_top, trial_left, trial_pattern   trial number t: rectangles in sheet order, the patterns of each by number
--   trial_cells       its cells
--   tried            trial number t has the two sums that are asked for
--   first_trial       the first that has
--   has_burst, burst_for   some burst has these two sums; the first that has
use Rattle.std.specs.Prelude.{ℕ, zero, suc, ◌+◌, ◌-◌, ◌*◌, ◌/◌, ◌%◌, ◌^◌, ◌≤◌, ◌<◌, ◌≡◌, Bool, true, ◌&&◌, eqb, ltb}
use Rattle.finite.specs.Search.{bit, within, count_below, few, least, number_of}
use Rattle.boxcode.specs.Code.{Code}
use Rattle.boxcode.specs.Syndrome.{Cells, Belongs, flip, row_syndrome, column_syndrome}

pub record Inside (top left height width : ℕ) (e : Cells) : Type 0 where
  pub row_from : (i j : ℕ) → e i j ≡ true → top ≤ i
  pub row_to : (i j : ℕ) → e i j ≡ true → i < top + height
  pub column_from : (i j : ℕ) → e i j ≡ true → left ≤ j
  pub column_to : (i j : ℕ) → e i j ≡ true → j < left + width

-- the number of cells of a set on the first n rows of m columns
unfoldable pub cell_count : ℕ → ℕ → Cells → ℕ
cell_count zero m e = 0
cell_count (suc n) m e = cell_count n m e + count_below m (e n)

pub record Burst (c : Code) (e : Cells) : Type 0 where
  pub top : ℕ
  pub left : ℕ
  pub rows_on : top + c.b1 ≤ c.n1
  pub columns_on : left + c.b2 ≤ c.n2
  pub inside : Inside top left c.b1 c.b2 e
  -- 02 m: "With t of 1 or 2, a blot has at most t cells"
  pub sparse : few c.t (cell_count c.n1 c.n2 e) ≡ true

abbrev pub Fits : Code → Cells → Cells → Type 0
Fits c s e = Belongs c (flip s e)

unfoldable pub box_cells : (top left height width x : ℕ) → Cells
box_cells top left height width x i j =
    within top height i && (within left width j && bit x ((i - top) * width + (j - left)))

unfoldable pub box_number : (top left height width : ℕ) → Cells → ℕ
box_number top left height width e = number_of (height * width) (λ k. e (top + k / width) (left + k % width))

-- patterns of one rectangle, rectangles in one row of them, and all trials
unfoldable pub patterns : Code → ℕ
patterns c = 2 ^ (c.b1 * c.b2)

unfoldable pub lefts : Code → ℕ
lefts c = c.n2 - c.b2 + 1

unfoldable pub trials : Code → ℕ
trials c = (c.n1 - c.b1 + 1) * lefts c * patterns c

abbrev pub trial_top : Code → ℕ → ℕ
trial_top c t = t / patterns c / lefts c

abbrev pub trial_left : Code → ℕ → ℕ
trial_left c t = t / patterns c % lefts c

abbrev pub trial_pattern : Code → ℕ → ℕ
trial_pattern c t = t % patterns c

unfoldable pub trial_cells : Code → ℕ → Cells
trial_cells c t = box_cells (trial_top c t) (trial_left c t) c.b1 c.b2 (trial_pattern c t)

unfoldable pub tried : Code → ℕ → ℕ → ℕ → Bool
tried c v h t =
    (eqb (row_syndrome c (trial_cells c t)) v && eqb (column_syndrome c (trial_cells c t)) h)
    && few c.t (cell_count c.n1 c.n2 (trial_cells c t))

abbrev pub first_trial : Code → ℕ → ℕ → ℕ
first_trial c v h = least (trials c) (tried c v h)

unfoldable pub has_burst : Code → ℕ → ℕ → Bool
has_burst c v h = ltb (first_trial c v h) (trials c)

unfoldable pub burst_for : Code → ℕ → ℕ → Cells
burst_for c v h = trial_cells c (first_trial c v h)
