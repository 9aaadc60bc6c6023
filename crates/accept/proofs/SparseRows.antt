-- A row of pairs of windows, of sets of few entries: each later window is asked for the sets whose last place is in its last line only.
--
--   rows_row      of V: where no two sets of the first window have the same sum, the row is that of the new lines, with their sums
--   rows_self     and where two have, the pair of the window with itself fails
--   columns-row   of H: the row is that of the new lines, with the sum 0
--   strip-row     the same by the words that the strip leaves
--
-- Assumes nothing.
use mathlib.Core.Path.{◌≡◌, sym, ap, ap₂, ◌∙◌}
use mathlib.Core.Bool.{Bool, true, false, not}
use mathlib.Core.List.{List}
use Prim.Native.Nat.{ℕ, suc, ◌+◌, ◌-◌, ◌*◌, ◌≤◌, ◌<◌, max}
use native.Mathlib.Nat.{suc-mul, mul-le-mul_right}
use native.Mathlib.Omega.{arith}
use lib.Dec.{eqb}
use lib.ListN.{length}
use Rattle.finite.specs.Search.{within}
use Rattle.finite.proofs.Truth.{same_truth, clash, not-true, within-from, within-to, in_within}
use Rattle.gf2.specs.Independence.{Within}
use Rattle.gf2.specs.Sparse.{free_up_to}
use Rattle.gf2.proofs.Sparse.{apart-apart, so-apart, free-up-to, so-free}
use Rattle.plan.specs.Table.{word_at}
use Rattle.plan.specs.declared.table.Table.TheVariants.{Rows, Columns}
use Rattle.sparse.specs.Sets.{clear, set_sum, line_hit}
use Rattle.sparse.proofs.Range.{InRange}
use Rattle.sparse.proofs.Lines as lines
use Rattle.sparse.proofs.Equal.{line-equal}
use Rattle.std.proofs.Common.{Some, None}
use Rattle.accept.specs.Pairs.{in_row}
use Rattle.accept.specs.Windows.{reduction, sparse_free, line_clear, Windows, Reduced}
use Rattle.accept.proofs.Pairing.{row_next, row-fails, row-equal, row-steps}
use Rattle.accept.proofs.Shift.{window-in}

-- a window as a range
in_window : (a size : ℕ) (m : ℕ → Bool) → InRange a (a + size) m → Within m (within a size)
in_window a size m r k e = in_within a size k (r.from k e) (r.to k e)

window-range : (a size : ℕ) (m : ℕ → Bool) → Within m (within a size) → InRange a (a + size) m
window-range a size m w = record { from = λ k e. within-from a size k (w k e); to = λ k e. within-to a size k (w k e) }

module _ (t : ℕ) (t1 : 1 ≤ t) (t2 : t ≤ 2) (f : ℕ → ℕ) (n : ℕ) where
  -- two windows
  abbrev pair_free : ℕ → ℕ → ℕ → Bool
  pair_free size a b = sparse_free Rows f t n size a b

  pair-apart : (size a b : ℕ) → pair_free size a b ≡ true → lines.PairApart t t1 t2 f n a b size
  unfolding sparse_free
  pair-apart size a b e m m' r r' = apart-apart t n (within a size) (within b size) f e m m' (in_window a size m r) (in_window b size m' r')

  apart-pair : (size a b : ℕ) → lines.PairApart t t1 t2 f n a b size → pair_free size a b ≡ true
  unfolding sparse_free
  apart-pair size a b A =
      so-apart t n (within a size) (within b size) f (λ m m' w w'. A m m' (window-range a size m w) (window-range b size m' w'))

  self-is : (size a : ℕ) → a + size ≤ n → pair_free size a a ≡ clear t f a size
  self-is size a on =
      same_truth (pair_free size a a) (clear t f a size) (λ e. lines.clear_self t t1 t2 f n a size on (pair-apart size a a e))
      (λ e. apart-pair size a a (lines.self-clear t t1 t2 f n a size on e))

  next-is : (size step a b : ℕ) → a ≤ b → step ≤ size → b + size + step ≤ n → pair_free size a b ≡ true
      → pair_free size a (b + step) ≡ not (line_hit t f (b + step) (b + size) step (set_sum t f a size))
  next-is size step a b l few on e =
      let T = set_sum t f a size in
      same_truth (pair_free size a (b + step)) (not (line_hit t f (b + step) (b + size) step T))
      (λ q. ap not (lines.apart_next t t1 t2 f n a b size step l few on (pair-apart size a (b + step) q)))
      (λ q. apart-pair size a (b + step)
      (lines.next-apart t t1 t2 f n a b size step l few on (pair-apart size a b e)
      (not-true (line_hit t f (b + step) (b + size) step T) (λ h. clash q (ap not h)))))

  module _ (step size count i : ℕ) (w : Windows n step size count) (few : step ≤ size) (li : i < count) where
    abbrev ok : ℕ → ℕ → Bool
    ok i j = sparse_free Rows f t n size (i * step) (j * step)

    abbrev new : ℕ → ℕ → Bool
    new = line_clear t f 0 step size (set_sum t f (i * step) size)

    step_is : (j : ℕ) → i ≤ j → suc j < count → ok i j ≡ true → ok i (suc j) ≡ new i (suc j)
    unfolding line_clear
    step_is j l u e =
        let q : suc j * step ≡ j * step + step = suc-mul j step in
        let on : suc j * step + size ≤ n = window-in w (suc j) u in
        let from : max 0 (suc j * step) ≡ j * step + step = omega arith in
        let last : suc j * step + size - step ≡ j * step + size = omega arith in
        ap (λ (x : ℕ). pair_free size (i * step) x) q
        ∙ next-is size step (i * step) (j * step) (mul-le-mul_right step l) few (omega arith) e
        ∙ ap₂ (λ (x y : ℕ). not (line_hit t f x y step (set_sum t f (i * step) size))) (sym from) (sym last)

    pub rows_self : clear t f (i * step) size ≡ false → in_row ok i i (count - i) None ≡ Some (i, i)
    rows_self e = row-fails ok count i i None li (self-is size (i * step) (window-in w i li) ∙ e)

    pub rows_row : clear t f (i * step) size ≡ true → in_row ok i i (count - i) None ≡ in_row new i (i + 1) (count - (i + 1)) None
    rows_row e =
        let one : i + 1 ≡ suc i = omega arith in
        let self = self-is size (i * step) (window-in w i li) ∙ e in
        row_next ok count i i None li self
        ∙ rw one (row-steps ok new i (count - suc i) (suc i) None (λ l. step_is i (omega arith) (omega arith) self)
        (λ k l u e. step_is k (omega arith) (omega arith) e))

-- one range of reduced entries
module _ (t : ℕ) (t1 : 1 ≤ t) (t2 : t ≤ 2) (g : ℕ → ℕ) (n : ℕ) where
  abbrev range_free : ℕ → ℕ → Bool
  range_free lo hi = free_up_to t n (within lo (hi - lo)) g

  free-none : (lo hi : ℕ) → lo ≤ hi → range_free lo hi ≡ true → lines.NoneIn t t1 t2 g n lo hi
  free-none lo hi l e m r =
      free-up-to t n (within lo (hi - lo)) g e m (λ k q. in_within lo (hi - lo) k (r.from k q) (omega (arith, r.to k q)))

  none_free : (lo hi : ℕ) → lo ≤ hi → lines.NoneIn t t1 t2 g n lo hi → range_free lo hi ≡ true
  none_free lo hi l N =
      so-free t n (within lo (hi - lo)) g
      (λ m w. N m (record {
        from = λ k q. within-from lo (hi - lo) k (w k q);
        to = λ k q. omega (arith, within-to lo (hi - lo) k (w k q), within-from lo (hi - lo) k (w k q));
      }))

  range-is : (lo lo' hi step : ℕ) → lo ≤ lo' → lo' ≤ hi → hi + step ≤ n → lines.NoneIn t t1 t2 g n lo hi
      → range_free lo' (hi + step) ≡ not (line_hit t g lo' hi step (eqb 0))
  range-is lo lo' hi step l l' on N =
      same_truth (range_free lo' (hi + step)) (not (line_hit t g lo' hi step (eqb 0)))
      (λ q. ap not (lines.none-next t t1 t2 g n lo lo' hi step l l' on (free-none lo' (hi + step) (omega arith) q)))
      (λ q. none_free lo' (hi + step) (omega arith)
      (lines.next-none t t1 t2 g n lo lo' hi step l l' on N (not-true (line_hit t g lo' hi step (eqb 0)) (λ h. clash q (ap not h)))))

  -- an empty range has no sets but the empty one
  none-at : (lo : ℕ) → lines.NoneIn t t1 t2 g n lo lo
  none-at lo m r l s k lk = not-true (m k) (λ q. absurd (omega (arith, r.from k q, r.to k q)))

module _ (t : ℕ) (t1 : 1 ≤ t) (t2 : t ≤ 2) (f : ℕ → ℕ) (n : ℕ)
    (step size count i : ℕ) (w : Windows n step size count) (few : step ≤ size) (li : i < count) where
  abbrev first : ℕ
  first = i * step

  abbrev strip_ok : ℕ → ℕ → Bool
  strip_ok i j = sparse_free Columns f t n size (i * step) (j * step)

  abbrev strip_new : ℕ → ℕ → Bool
  strip_new = line_clear t (reduction f (i * step) size) (i * step + size) step size (eqb 0)

  -- one line further on
  line-is : (j : ℕ) → i ≤ j → suc j < count → lines.NoneIn t t1 t2 (reduction f first size) n (max (first + size) (j * step)) (j * step + size)
      → strip_ok i (suc j) ≡ strip_new i (suc j)
  unfolding line_clear sparse_free
  line-is j l u N =
      let q : suc j * step ≡ j * step + step = suc-mul j step in
      let on : suc j * step + size ≤ n = window-in w (suc j) u in
      let last : suc j * step + size - step ≡ j * step + size = omega arith in
      let past : suc j * step + size ≡ j * step + size + step = omega arith in
      let m : first ≤ j * step = mul-le-mul_right step l in
      ap (λ (x : ℕ). free_up_to t n (within (max (first + size) (suc j * step)) (x - max (first + size) (suc j * step))) (reduction f first size)) past
      ∙ range-is t t1 t2 (reduction f first size) n (max (first + size) (j * step)) (max (first + size) (suc j * step)) (j * step + size) step
      (omega arith) (omega arith) (omega arith) N
      ∙ ap (λ (x : ℕ). not (line_hit t (reduction f first size) (max (first + size) (suc j * step)) x step (eqb 0))) (sym last)

  pub columns-row : in_row strip_ok i (i + 1) (count - (i + 1)) None ≡ in_row strip_new i (i + 1) (count - (i + 1)) None
  unfolding sparse_free
  columns-row =
      let one : i + 1 ≡ suc i = omega arith in
      rw one
      (row-steps strip_ok strip_new i (count - suc i) (suc i) None (λ l. line-is i (omega arith) (omega arith) start)
      (λ k l u e. line-is k (omega arith) (omega arith)
      (free-none t t1 t2 (reduction f first size) n (max (first + size) (k * step)) (k * step + size)
      (let m : first ≤ k * step = mul-le-mul_right step (let v : i ≤ k = omega arith in v) in omega arith) e)))
    where
      start : lines.NoneIn t t1 t2 (reduction f first size) n (max (first + size) (i * step)) (i * step + size)
      start = let e : max (first + size) (i * step) ≡ first + size = omega arith in rw e (none-at t t1 t2 (reduction f first size) n (first + size))

-- the same by the words that the strip leaves
pub strip-row : (t : ℕ) → 1 ≤ t → t ≤ 2 → (words rest : List ℕ) (step size count i : ℕ) → Windows (length words) step size count → step ≤ size → i < count
    → Reduced words size (i * step) rest → (T : ℕ → Bool) → ((x : ℕ) → T x ≡ eqb 0 x)
    → in_row (line_clear t (word_at rest) (i * step + size) step size T) i (i + 1) (count - (i + 1)) None
    ≡ in_row (λ i j. sparse_free Columns (word_at words) t (length words) size (i * step) (j * step)) i (i + 1) (count - (i + 1)) None
unfolding line_clear
strip-row t t1 t2 words rest step size count i w few li R T only =
    row-equal (line_clear t (word_at rest) (i * step + size) step size T)
    (line_clear t (reduction (word_at words) (i * step) size) (i * step + size) step size (eqb 0)) i
    (count - (i + 1)) (i + 1) None
    (λ k l u.
    let m : suc i * step ≤ k * step = mul-le-mul_right step (let z : suc i ≤ k = omega arith in z) in
    let q = suc-mul i step in
    let on = window-in w k (omega arith) in
    let from = max (i * step + size) (k * step) in
    let last = k * step + size - step in
    ap not (line-equal t from last step (word_at rest) (reduction (word_at words) (i * step) size) T (omega arith)
    (λ j p v. R.value j (omega arith) (omega arith))
    ∙ ap (line_hit t (reduction (word_at words) (i * step) size) from last step) (λ y x. only x y)))
    ∙ sym (columns-row t t1 t2 (word_at words) (length words) step size count i w few li)
