-- The trial, rectangle by rectangle:
--
--   box-sum          the sum of a pattern's cells, over any weight, from the weights of its rectangle's cells
--   gathered-tried   pattern by pattern, the entries that are gathered tell whether its cells have the two sums
--   Vain, before     none of the first trials has the two sums; how many there are before those of a rectangle
--   trial-misses     a rectangle without such a pattern: all trials up to the next were in vain
--   trial-turns      after the last rectangle of a row comes the first of the next
--   trial-finds      a rectangle with one: it is the first burst
--   trial-ends       after the last rectangle there is none
--
-- Assumes nothing.
use mathlib.Core.Path.{◌≡◌, refl, sym, ap, ap₂, ◌∙◌}
use mathlib.Core.Bool.{Bool, true, false, ◌&&◌}
use mathlib.Core.List.{List}
use Prim.Native.Nat.{ℕ, ◌+◌, ◌-◌, ◌*◌, ◌/◌, ◌%◌, ◌≤◌, ◌<◌}
use native.Mathlib.Omega.{arith}
use lib.Dec.{eqb, ltb}
use lib.Arith.{digits_lt, digits_div, digits_mod}
use borrow.Author.Tests.{ltb-true, ltb-false, lt-ltb, le-ltb}
use Rattle.gf2.specs.Xor.{◌⊕◌, pick}
use Rattle.gf2.proofs.Xor.{xor_zero_right, pick-zero}
use Rattle.gf2.specs.Sum.{xor_sum, chosen_sum}
use Rattle.gf2.proofs.Sum.{sum-equal, sum-zero, sum-split, sum-blocks}
use Rattle.finite.specs.Search.{bit, few, least}
use Rattle.finite.proofs.Truth.{not-true, in_within}
use Rattle.finite.proofs.Search.{least-found, least_first, least-is, least-none}
use Rattle.boxcode.specs.Code.{Code}
use Rattle.boxcode.specs.Syndrome.{weight_sum, row_syndrome, column_syndrome}
use Rattle.boxcode.specs.Burst.{box_cells, patterns, lefts, trials, trial_top, trial_left, trial_pattern, trial_cells, tried, first_trial, has_burst}
use Rattle.boxcode.proofs.Image.{sum-image, unpicked}
use Rattle.boxcode.proofs.Trial.{box-inside}
use Rattle.plan.specs.declared.table.Table.{Table}
use Rattle.plan.specs.declared.table.Table.TheVariants.{Rows, Columns}
use Rattle.plan.specs.Table.{word_at}
use Rattle.mend.proofs.Turns.{times-next}
use Rattle.mend.proofs.First.{first-nothing}
use Rattle.std.specs.Prelude.{Some, None}
use Rattle.mend.specs.Found.{burst_at, first_burst}
use Rattle.trial.specs.Trial.{weight_by, Gathered, pattern_sum, has_sums, fits_few, tried_at}
use Rattle.mend.proofs.Rectangle.{box-cell-count}

-- ---- the sum of a pattern's cells

-- a sum over n places that is 0 off the b places from a on is the sum over these
range-sum : (n b a : ℕ) → a + b ≤ n → (f : ℕ → ℕ) → ((t : ℕ) → (a ≤ t → t < a + b → ⊥) → f t ≡ 0) → xor_sum n f ≡ xor_sum b (λ d. f (a + d))
range-sum n b a on f off =
    sum-image b n (λ d. a + d) (record { below = λ k l. omega arith; different = λ k l lk ll e. omega arith }) f (λ d. f (a + d)) (λ k l. refl)
    (λ t lt miss. off t (λ from to. miss (t - a) (omega arith) (omega arith)))

-- what is 0 from place n on adds nothing there
sum-ends : (n m : ℕ) (f : ℕ → ℕ) → ((k : ℕ) → n ≤ k → f k ≡ 0) → xor_sum (n + m) f ≡ xor_sum n f
sum-ends n m f off =
    let none : xor_sum m (λ k. f (n + k)) ≡ 0 = sum-zero m (λ k. f (n + k)) (λ k l. off (n + k) (omega arith)) in
    sum-split n m f ∙ ap (λ (y : ℕ). xor_sum n f ⊕ y) none ∙ xor_zero_right (xor_sum n f)

module _ (n1 n2 top left b1 b2 : ℕ) (rows : top + b1 ≤ n1) (columns : left + b2 ≤ n2) (w : ℕ → ℕ → ℕ) (x : ℕ) where
  -- what a cell of the sheet adds, and what cell number k of the rectangle adds
  abbrev adds : ℕ → ℕ → ℕ
  adds i j = pick (box_cells top left b1 b2 x i j) (w i j)

  abbrev cell : ℕ → ℕ
  cell k = pick (bit x k) (w (top + k / b2) (left + k % b2))

  off-row : (i j : ℕ) → (top ≤ i → i < top + b1 → ⊥) → adds i j ≡ 0
  off-row i j h =
      unpicked (box_cells top left b1 b2 x i j) (w i j)
      (not-true (box_cells top left b1 b2 x i j)
      (λ t. h ((box-inside top left b1 b2 x).row_from i j t) ((box-inside top left b1 b2 x).row_to i j t)))

  off-column : (i j : ℕ) → (left ≤ j → j < left + b2 → ⊥) → adds i j ≡ 0
  off-column i j h =
      unpicked (box_cells top left b1 b2 x i j) (w i j)
      (not-true (box_cells top left b1 b2 x i j)
      (λ t. h ((box-inside top left b1 b2 x).column_from i j t) ((box-inside top left b1 b2 x).column_to i j t)))

  -- a cell of the rectangle, by its row and column there
  on-box : (r d : ℕ) → r < b1 → d < b2 → adds (top + r) (left + d) ≡ cell (r * b2 + d)
  unfolding box_cells
  on-box r d lr ld =
      let p = in_within top b1 (top + r) (omega arith) (omega arith) in
      let q = in_within left b2 (left + d) (omega arith) (omega arith) in
      let er : top + r - top ≡ r = omega arith in
      let ed : left + d - left ≡ d = omega arith in
      rw (p, q, er, ed, digits_div r ld, digits_mod r ld)

  pub box-sum : weight_sum n1 n2 w (box_cells top left b1 b2 x) ≡ xor_sum (b1 * b2) cell
  unfolding weight_sum
  box-sum =
      range-sum n1 b1 top rows (λ i. xor_sum n2 (adds i))
      (λ i h. let z : (j : ℕ) → j < n2 → adds i j ≡ 0 = λ j l. off-row i j h in sum-zero n2 (adds i) z)
      ∙ sum-equal b1 (λ r. xor_sum n2 (adds (top + r))) (λ r. xor_sum b2 (λ d. cell (r * b2 + d)))
      (λ r lr.
      range-sum n2 b2 left columns (adds (top + r)) (λ j h. off-column (top + r) j h)
      ∙ sum-equal b2 (λ d. adds (top + r) (left + d)) (λ d. cell (r * b2 + d)) (λ d ld. on-box r d lr ld))
      ∙ sym (sum-blocks b1 b2 cell)

-- the entries of a table that are gathered give the sum of the pattern's cells over that table
pattern-sum : (c : Code) (table : Table) (top left : ℕ) (rows : top + c.b1 ≤ c.n1) (columns : left + c.b2 ≤ c.n2) → c.b1 * c.b2 ≤ 16
    → (p : List ℕ) → Gathered table c top left p → (x : ℕ)
    → pattern_sum (word_at p) x ≡ weight_sum c.n1 c.n2 (weight_by table c) (box_cells top left c.b1 c.b2 x)
unfolding pattern_sum
pattern-sum c table top left rows columns small p g x =
    let n = c.b1 * c.b2 in
    let e : 16 ≡ n + (16 - n) = omega arith in
    ap (λ (m : ℕ). chosen_sum m (bit x) (word_at p)) e
    ∙ sum-ends n (16 - n) (λ k. pick (bit x k) (word_at p k))
    (λ k l. ap (pick (bit x k)) (g.rest k l) ∙ pick-zero (bit x k))
    ∙ sum-equal n (λ k. pick (bit x k) (word_at p k)) (λ k. pick (bit x k) (weight_by table c (top + k / c.b2) (left + k % c.b2)))
    (λ k l. ap (pick (bit x k)) (g.entry k l))
    ∙ sym (box-sum c.n1 c.n2 top left c.b1 c.b2 rows columns (weight_by table c) x)

-- so pattern by pattern they tell whether it has the two sums
pub gathered-tried : (c : Code) (top left : ℕ) (rows : top + c.b1 ≤ c.n1) (columns : left + c.b2 ≤ c.n2) → c.b1 * c.b2 ≤ 16
    → (p q : List ℕ) → Gathered Rows c top left p → Gathered Columns c top left q → (v s x : ℕ)
    → fits_few c.t (c.b1 * c.b2) (word_at p) (word_at q) v s x ≡ tried_at c v s top left x
unfolding fits_few has_sums tried_at row_syndrome column_syndrome
gathered-tried c top left rows columns small p q gp gq v s x =
    ap₂ ◌&&◌
    (ap₂ (λ (a b : ℕ). eqb a v && eqb b s) (pattern-sum c Rows top left rows columns small p gp x) (pattern-sum c Columns top left rows columns small q gq x))
    (ap (few c.t) (sym (box-cell-count c.n1 c.n2 top left c.b1 c.b2 x rows columns)))

-- ---- trials, rectangle by rectangle

one_further : (a b p : ℕ) → (a + (b + 1)) * p ≡ (a + b) * p + p
one_further a b p = ap (λ (n : ℕ). n * p) (let e : a + (b + 1) ≡ a + b + 1 = omega arith in e) ∙ times-next (a + b) p

row-further : (a b : ℕ) → (a + 1) * b + 0 ≡ a * b + b
row-further a b = let e = times-next a b in omega arith

module _ (c : Code) (v s : ℕ) where
  -- none of the first n trials has the two sums
  abbrev pub Vain : ℕ → Type 0
  Vain n = (t : ℕ) → t < n → tried c v s t ≡ false

  -- how many trials there are before those of a rectangle
  abbrev pub before : ℕ → ℕ → ℕ
  before top left = (top * lefts c + left) * patterns c

  tried-at : (top left x : ℕ) → left < lefts c → x < patterns c → tried c v s (before top left + x) ≡ tried_at c v s top left x
  unfolding tried trial_cells tried_at
  tried-at top left x ll lx =
      rw (digits_div (top * lefts c + left) lx, digits_mod (top * lefts c + left) lx, digits_div top ll, digits_mod top ll)

  -- the trials of a rectangle before pattern x, after those before the rectangle
  part-vain : (top left x : ℕ) → left < lefts c → x ≤ patterns c → Vain (before top left) → ((y : ℕ) → y < x → tried_at c v s top left y ≡ false)
      → Vain (before top left + x)
  part-vain top left x ll lx vain none t lt = go (ltb t (before top left)) refl
    where
      go : (b : Bool) → ltb t (before top left) ≡ b → tried c v s t ≡ false
      go true e = vain t (ltb-true t (before top left) e)
      go false e =
          let f : before top left ≤ t = ltb-false t (before top left) e in
          let y = t - before top left in
          let ly : y < x = omega arith in
          let q : t ≡ before top left + y = omega arith in
          ap (tried c v s) q ∙ tried-at top left y ll (omega arith) ∙ none y ly

  pub trial-misses : (top left : ℕ) → left < lefts c → Vain (before top left) → patterns c ≤ least (patterns c) (tried_at c v s top left)
      → Vain (before top (left + 1))
  trial-misses top left ll vain most t lt =
      let e : before top (left + 1) ≡ before top left + patterns c = one_further (top * lefts c) left (patterns c) in
      part-vain top left (patterns c) ll (omega arith) vain (λ y ly. least_first (patterns c) (tried_at c v s top left) y (omega arith)) t (omega arith)

  pub trial-turns : (top : ℕ) → Vain (before top (lefts c)) → Vain (before (top + 1) 0)
  trial-turns top vain t lt = vain t (rw (row-further top (lefts c)) at lt)

  first-at : (t : ℕ) → t < trials c → first_trial c v s ≡ t → Some (burst_at (trial_top c t) (trial_left c t) (trial_pattern c t)) ≡ first_burst c v s
  unfolding first_burst has_burst
  first-at t l e = rw (e, lt-ltb t (trials c) l)

  pub trial-finds : (top left x : ℕ) → top < c.n1 - c.b1 + 1 → left < lefts c → Vain (before top left)
      → x ≡ least (patterns c) (tried_at c v s top left) → x < patterns c → Some (burst_at top left x) ≡ first_burst c v s
  trial-finds top left x lt ll vain e lx =
      let p = tried_at c v s top left in
      let t = before top left + x in
      let below : t < trials c = unfold trials in digits_lt (digits_lt lt ll) lx in
      let has : tried c v s t ≡ true = tried-at top left x ll lx ∙ ap p e ∙ least-found (patterns c) p (omega arith) in
      let none : Vain t = part-vain top left x ll (omega arith) vain (λ y ly. least_first (patterns c) p y (omega arith)) in
      let q : t / patterns c ≡ top * lefts c + left = digits_div (top * lefts c + left) lx in
      let m : t % patterns c ≡ x = digits_mod (top * lefts c + left) lx in
      rw (q, m, digits_div top ll, digits_mod top ll) at (first-at t below (least-is (trials c) (tried c v s) t below has none))

  pub trial-ends : Vain (before (c.n1 - c.b1 + 1) 0) → None ≡ first_burst c v s
  trial-ends vain = sym (first-nothing c v s none)
    where
      all : Vain (trials c)
      all t l = vain t (rw (let e : (c.n1 - c.b1 + 1) * lefts c + 0 ≡ (c.n1 - c.b1 + 1) * lefts c = omega arith in e) (unfold trials in l))

      none : has_burst c v s ≡ false
      none = unfold has_burst in (rw (least-none (trials c) (tried c v s) all) (le-ltb (trials c) (trials c) (omega arith)))
