-- The trial of all bursts, for any code of the right form:
--
--   box-inside, box-cell       a pattern number gives cells inside its rectangle, one for each digit
--   box-bit, box-number        a set of cells has a number in a rectangle, one digit for each cell; and if it lies inside, the number gives the set
--   trial-rows, trial-columns  the rectangle of a trial lies on the sheet
--   trial-burst, burst-trial   every trial of few cells is a burst, and every burst is a trial
--   BurstWith                  a burst with two given sums
--   found                      where has_burst holds, burst_for is such a burst
--   has-burst                  where there is such a burst, has_burst holds
--   burst-is                   under separation it is that burst
--
-- Assumes nothing.
use mathlib.Core.Path.{◌≡◌, sym, ap, ap₂, ◌∙◌}
use mathlib.Core.Bool.{Bool, true, ◌&&◌}
use Prim.Native.Nat.{ℕ, ◌+◌, ◌-◌, ◌*◌, ◌/◌, ◌%◌, ◌≤◌, ◌<◌}
use native.Mathlib.Nat.{mod-lt, div-lt_iff_lt-mul}
use native.Mathlib.Omega.{arith}
use lib.Dec.{eqb}
use lib.Arith.{digits_lt, digits_div, digits_mod}
use lib.Pow.{pow_pos}
use borrow.Author.Tests.{ltb-true, lt-ltb}
use Rattle.finite.specs.Search.{bit, within, few, least}
use Rattle.boxcode.specs.Code.{Code, Formed}
use Rattle.boxcode.specs.Syndrome.{Cells, row_syndrome, column_syndrome, SameCells}
use Rattle.boxcode.specs.Burst.{Inside, Burst, cell_count, box_cells, box_number, patterns, lefts, trials, trial_top, trial_left, trial_pattern, trial_cells}
use Rattle.boxcode.specs.Burst.{tried, has_burst, burst_for}
use Rattle.finite.proofs.Truth.{both, both_equal, equal-both, same_truth, and_left, and_right, and_both, within-from, within-to, in_within}
use Rattle.finite.proofs.Search.{least-found, least-most}
use Rattle.finite.proofs.Digits.{number-below, bit-number}
use Rattle.boxcode.proofs.Syndrome.{row-cells, column-cells}
use Rattle.boxcode.proofs.Cells.{cells-equal}
use Rattle.boxcode.proofs.Separated.{Separated, unique}

-- ---- patterns of a rectangle

module _ (top left height width : ℕ) where
  pub box-inside : (x : ℕ) → Inside top left height width (box_cells top left height width x)
  unfolding box_cells
  box-inside x = record {
    row_from = λ i j t. within-from top height i (and_left (within top height i) (rest i j) t);
    row_to = λ i j t. within-to top height i (and_left (within top height i) (rest i j) t);
    column_from = λ i j t. within-from left width j (column i j t);
    column_to = λ i j t. within-to left width j (column i j t);
  }
    where
      digit : ℕ → ℕ → Bool
      digit i j = bit x ((i - top) * width + (j - left))

      rest : ℕ → ℕ → Bool
      rest i j = within left width j && digit i j

      column : (i j : ℕ) → (within top height i && rest i j) ≡ true → within left width j ≡ true
      column i j t = and_left (within left width j) (digit i j) (and_right (within top height i) (rest i j) t)

  pub box-cell : (x r d : ℕ) → r < height → d < width → box_cells top left height width x (top + r) (left + d) ≡ bit x (r * width + d)
  unfolding box_cells
  box-cell x r d lr ld =
      ap₂ ◌&&◌ (in_within top height (top + r) (omega arith) (omega arith))
      (ap₂ ◌&&◌ (in_within left width (left + d) (omega arith) (omega arith))
      (ap₂ (λ (y z : ℕ). bit x (y * width + z)) (let q : top + r - top ≡ r = omega arith in q) (let q : left + d - left ≡ d = omega arith in q)))

  pub box-bit : (e : Cells) (r d : ℕ) → r < height → d < width → bit (box_number top left height width e) (r * width + d) ≡ e (top + r) (left + d)
  unfolding box_number
  box-bit e r d lr ld =
      bit-number (height * width) (λ k. e (top + k / width) (left + k % width)) (r * width + d) (digits_lt lr ld)
      ∙ ap₂ (λ (x y : ℕ). e (top + x) (left + y)) (digits_div r ld) (digits_mod r ld)

  box-digit : (e : Cells) (i j : ℕ) → top ≤ i → i < top + height → left ≤ j → j < left + width
      → bit (box_number top left height width e) ((i - top) * width + (j - left)) ≡ e i j
  box-digit e i j fi ti fj tj =
      let li : i - top < height = omega arith in
      let lj : j - left < width = omega arith in
      box-bit e (i - top) (j - left) li lj
      ∙ ap₂ e (let a : top + (i - top) ≡ i = omega arith in a) (let b : left + (j - left) ≡ j = omega arith in b)

  pub box-number : (e : Cells) → Inside top left height width e → (i j : ℕ)
      → box_cells top left height width (box_number top left height width e) i j ≡ e i j
  unfolding box_cells
  box-number e on i j =
      same_truth (within top height i && (within left width j && digit)) (e i j)
      (λ t.
      let w = and_left (within top height i) (within left width j && digit) t in
      let r = and_right (within top height i) (within left width j && digit) t in
      let v = and_left (within left width j) digit r in
      sym (box-digit e i j (within-from top height i w) (within-to top height i w) (within-from left width j v) (within-to left width j v))
      ∙ and_right (within left width j) digit r)
      (λ t.
      and_both (within top height i) (within left width j && digit) (in_within top height i (on.row_from i j t) (on.row_to i j t))
      (and_both (within left width j) digit (in_within left width j (on.column_from i j t) (on.column_to i j t))
      (box-digit e i j (on.row_from i j t) (on.row_to i j t) (on.column_from i j t) (on.column_to i j t) ∙ t)))
    where
      digit : Bool
      digit = bit (box_number top left height width e) ((i - top) * width + (j - left))

-- ---- trials

module _ (c : Code) (F : Formed c) where
  patterns-pos : 0 < patterns c
  unfolding patterns
  patterns-pos = pow_pos (c.b1 * c.b2)

  lefts-pos : 0 < lefts c
  unfolding lefts
  lefts-pos = omega arith

  pub trial-rows : (t : ℕ) → t < trials c → trial_top c t + c.b1 ≤ c.n1
  unfolding trials
  trial-rows t l =
      let u : t / patterns c / lefts c < c.n1 - c.b1 + 1 = (div-lt_iff_lt-mul lefts-pos).1 ((div-lt_iff_lt-mul patterns-pos).1 l) in
      let f : c.b1 ≤ c.n1 = F.n1_least in
      omega arith

  pub trial-columns : (t : ℕ) → trial_left c t + c.b2 ≤ c.n2
  trial-columns t = left-on (mod-lt (t / patterns c) lefts-pos)
    where
      left-on : {a : ℕ} → a < lefts c → a + c.b2 ≤ c.n2
      left-on h = let f : c.b2 ≤ c.n2 = F.n2_least in unfold lefts in omega arith

  pub trial-burst : (t : ℕ) → t < trials c → few c.t (cell_count c.n1 c.n2 (trial_cells c t)) ≡ true → Burst c (trial_cells c t)
  unfolding trial_cells
  trial-burst t l s = record {
    top = trial_top c t;
    left = trial_left c t;
    rows_on = trial-rows t l;
    columns_on = trial-columns t;
    inside = box-inside (trial_top c t) (trial_left c t) c.b1 c.b2 (trial_pattern c t);
    sparse = s;
  }

  pub burst-trial : (e : Cells) → Burst c e → (t : ℕ) × (t < trials c) × ((i j : ℕ) → trial_cells c t i j ≡ e i j)
  unfolding trials trial_cells
  burst-trial e B = (t, digits_lt (digits_lt top_below left_below) x_below, cells)
    where
      x : ℕ
      x = box_number B.top B.left c.b1 c.b2 e

      t : ℕ
      t = (B.top * lefts c + B.left) * patterns c + x

      x_below : x < patterns c
      x_below = unfold patterns box_number in number-below (c.b1 * c.b2) (λ k. e (B.top + k / c.b2) (B.left + k % c.b2))

      top_below : B.top < c.n1 - c.b1 + 1
      top_below = let on : B.top + c.b1 ≤ c.n1 = B.rows_on in omega arith

      left_below : B.left < lefts c
      left_below = let on : B.left + c.b2 ≤ c.n2 = B.columns_on in unfold lefts in omega arith

      corner : t / patterns c ≡ B.top * lefts c + B.left
      corner = digits_div (B.top * lefts c + B.left) x_below

      cells : (i j : ℕ) → trial_cells c t i j ≡ e i j
      cells i j =
          ap₂ (λ (q y : ℕ). box_cells (q / lefts c) (q % lefts c) c.b1 c.b2 y i j) corner (digits_mod (B.top * lefts c + B.left) x_below)
          ∙ ap₂ (λ (a b : ℕ). box_cells a b c.b1 c.b2 x i j) (digits_div B.top left_below) (digits_mod B.top left_below)
          ∙ box-number B.top B.left c.b1 c.b2 e B.inside i j

-- ---- the first burst with two given sums

pub record BurstWith (c : Code) (v h : ℕ) (e : Cells) : Type 0 where
  pub burst : Burst c e
  pub row : row_syndrome c e ≡ v
  pub column : column_syndrome c e ≡ h

module _ (c : Code) (F : Formed c) (v h : ℕ) where
  pub found : has_burst c v h ≡ true → BurstWith c v h (burst_for c v h)
  unfolding has_burst burst_for tried
  found t =
      let below : least (trials c) (tried c v h) < trials c = ltb-true (least (trials c) (tried c v h)) (trials c) t in
      let e = burst_for c v h in
      let all = both (eqb (row_syndrome c e) v && eqb (column_syndrome c e) h) (few c.t (cell_count c.n1 c.n2 e))
      (least-found (trials c) (tried c v h) below) in
      let sums = both_equal (row_syndrome c e) (column_syndrome c e) v h all.0 in
      record { burst = trial-burst c F (least (trials c) (tried c v h)) below all.1; row = sums.0; column = sums.1 }

  pub has-burst : (e : Cells) → BurstWith c v h e → has_burst c v h ≡ true
  unfolding has_burst tried
  has-burst e f =
      let w = burst-trial c F e f.burst in
      let t = w.0 in
      let l : t < trials c = w.1 in
      let cells : SameCells c (trial_cells c t) e = λ i j li lj. w.2 i j in
      let m : least (trials c) (tried c v h) ≤ t =
      least-most (trials c) (tried c v h) t
      (and_both (eqb (row_syndrome c (trial_cells c t)) v && eqb (column_syndrome c (trial_cells c t)) h)
      (few c.t (cell_count c.n1 c.n2 (trial_cells c t)))
      (equal-both (row_syndrome c (trial_cells c t)) (column_syndrome c (trial_cells c t)) v h
      (row-cells c (trial_cells c t) e cells ∙ f.row) (column-cells c (trial_cells c t) e cells ∙ f.column))
      (ap (few c.t) (cells-equal c.n1 c.n2 (trial_cells c t) e cells) ∙ f.burst.sparse)) in
      lt-ltb (least (trials c) (tried c v h)) (trials c) (omega arith)

  pub burst-is : Separated c → (e : Cells) → BurstWith c v h e → (i j : ℕ) → burst_for c v h i j ≡ e i j
  burst-is S e f =
      let g = found (has-burst e f) in
      unique c S (burst_for c v h) e g.burst f.burst (g.row ∙ sym f.row) (g.column ∙ sym f.column)
