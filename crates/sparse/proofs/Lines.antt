-- Sets of few words in windows that move on by a line: a set of the next window lies in the one before, or has its last place in the new line.
--
--   last_line, line_set   a set of a range either ends before its last line, or is one of line_hit's
--   PairApart, self-clear, next-apart   of two windows (02 m, check 8): the window with itself, and with one a line further on
--   NoneIn, next-none     of one range (02 m, check 9): none of its sets has sum 0
--
-- Assumes nothing.
use mathlib.Core.Path.{◌≡◌, sym, ap, ◌∙◌}
use mathlib.Core.Bool.{Bool, true, false}
use Prim.Native.Nat.{ℕ, suc, ◌+◌, ◌-◌, ◌≤◌, ◌<◌}
use native.Mathlib.Decide.{dec_lt}
use native.Mathlib.Omega.{arith}
use lib.Dec.{eqb}
use borrow.Author.Tests.{eqb-true, eq-eqb}
use Rattle.finite.specs.Search.{count_below}
use Rattle.finite.proofs.Truth.{clash, not-true}
use Rattle.finite.proofs.Search.{any_found, any_none}
use Rattle.gf2.specs.Sum.{chosen_sum}
use Rattle.sparse.specs.Sets.{hit_at, set_sum, clear, line_hit}
use Rattle.sparse.proofs.Range.{InRange, Last, range-count, range-sum, count-zero, last-chosen, chosen-here, count-here}
use Rattle.sparse.proofs.Sets as sets
use Rattle.sparse.proofs.Sets.{SumSet, HitSet}

-- one of the sets of line_hit
pub record LineSet (t : ℕ) (f : ℕ → ℕ) (n lo hi step : ℕ) (T : ℕ → Bool) : Type 0 where
  pub m : ℕ → Bool
  pub range : InRange lo (hi + step) m
  pub few : count_below n m ≤ t
  pub in_T : T (chosen_sum n m f) ≡ true
  pub place : ℕ
  pub late : hi ≤ place
  pub below : place < n
  pub holds : m place ≡ true

module _ (t : ℕ) (t1 : 1 ≤ t) (t2 : t ≤ 2) (f : ℕ → ℕ) (n : ℕ) where
  pub last_line : (lo hi step : ℕ) (m : ℕ → Bool) (T : ℕ → Bool) → lo ≤ hi → hi + step ≤ n → InRange lo (hi + step) m → count_below n m ≤ t
      → T (chosen_sum n m f) ≡ true → line_hit t f lo hi step T ≡ false → InRange lo hi m
  unfolding line_hit
  last_line lo hi step m T le on r few e none = record { from = r.from; to = go (dec_lt (count_below n m) 1) }
    where
      go : Dec (count_below n m < 1) → (k : ℕ) → m k ≡ true → k < hi
      go (yes u) k q = clash q (count-zero n m (omega arith) k (omega (arith, r.to k q)))
      go (no u) k q = before (dec_lt L.place hi)
        where
          L : Last n m f
          L = last-chosen n m f (omega arith)

          hits : hi ≤ L.place → hit_at t f lo (hi + (L.place - hi)) T ≡ true
          hits late =
              let at : hi + (L.place - hi) ≡ L.place = omega arith in
              ap (λ (x : ℕ). hit_at t f lo x T) at
              ∙ sets.hit-of t t1 t2 f lo L.place m T r.from L.holds (omega (arith, L.count, count-here L.place m L.holds))
              (ap T (chosen-here L.place m f L.holds ∙ sym L.sum) ∙ e)

          before : Dec (L.place < hi) → k < hi
          before (yes v) = last (dec_lt L.place k)
            where
              last : Dec (L.place < k) → k < hi
              last (yes w) = clash q (L.after k w (omega (arith, r.to k q)))
              last (no w) = omega arith
          before (no v) =
              clash (hits (omega arith))
              (any_none step (λ d. hit_at t f lo (hi + d) T) none (L.place - hi) (omega (arith, r.to L.place L.holds)))

  pub line_set : (lo hi step : ℕ) (T : ℕ → Bool) → lo ≤ hi → hi + step ≤ n → line_hit t f lo hi step T ≡ true → LineSet t f n lo hi step T
  unfolding line_hit
  line_set lo hi step T le on h =
      let w = any_found step (λ d. hit_at t f lo (hi + d) T) h in
      let k = hi + w.0 in
      let H = sets.hit-set t t1 t2 f lo k T (omega arith) w.2 in
      let r = H.range in
      let up : suc k ≤ n = omega (arith, w.1) in
      record {
        m = H.m;
        range = record { from = r.from; to = λ j q. omega (arith, r.to j q, w.1) };
        few = omega (arith, H.few, range-count lo (suc k) n H.m up r);
        in_T = ap T (range-sum lo (suc k) n H.m up r f) ∙ H.in_T;
        place = k;
        late = omega arith;
        below = omega arith;
        holds = H.last;
      }

  -- ---- two windows

  abbrev pub PairApart : ℕ → ℕ → ℕ → Type 0
  PairApart a b size =
      (m m' : ℕ → Bool) → InRange a (a + size) m → InRange b (b + size) m' → count_below n m ≤ t → count_below n m' ≤ t
      → chosen_sum n m f ≡ chosen_sum n m' f → (k : ℕ) → k < n → m k ≡ m' k

  pub self-clear : (a size : ℕ) → a + size ≤ n → clear t f a size ≡ true → PairApart a a size
  self-clear a size on c m m' r r' l l' s k lk = go (dec_lt k (a + size))
    where
      go : Dec (k < a + size) → m k ≡ m' k
      go (yes u) =
          sets.clear_apart t t1 t2 f a size c m m' r.from r'.from (omega (arith, range-count a (a + size) n m on r))
          (omega (arith, range-count a (a + size) n m' on r')) (sym (range-sum a (a + size) n m on r f) ∙ s ∙ range-sum a (a + size) n m' on r' f) k u
      go (no u) = not-true (m k) (λ q. absurd (omega (arith, r.to k q))) ∙ sym (not-true (m' k) (λ q. absurd (omega (arith, r'.to k q))))

  pub clear_self : (a size : ℕ) → a + size ≤ n → PairApart a a size → clear t f a size ≡ true
  clear_self a size on A =
      sets.apart-clear t t1 t2 f a size
      (λ m m' w w' l l' s k lk.
      sym (sets.cut_below t t1 t2 f (a + size) m k lk)
      ∙ A (cut m) (cut m') (range m w) (range m' w') (omega (arith, count m)) (omega (arith, count m')) (sum m ∙ s ∙ sym (sum m')) k (omega arith)
      ∙ sets.cut_below t t1 t2 f (a + size) m' k lk)
    where
      cut : (ℕ → Bool) → ℕ → Bool
      cut m = sets.cut t t1 t2 f (a + size) m

      range : (m : ℕ → Bool) → sets.From a m → InRange a (a + size) (cut m)
      range m w = sets.cut_range t t1 t2 f a (a + size) m w

      count : (m : ℕ → Bool) → count_below n (cut m) ≡ count_below (a + size) m
      count m = sets.cut-count t t1 t2 f (a + size) n m on

      sum : (m : ℕ → Bool) → chosen_sum n (cut m) f ≡ chosen_sum (a + size) m f
      sum m = sets.cut_sum t t1 t2 f (a + size) n m on

  module _ (a b size step : ℕ) (le : a ≤ b) (few : step ≤ size) (on : b + size + step ≤ n) where
    abbrev T : ℕ → Bool
    T = set_sum t f a size

    pub next-apart : PairApart a b size → line_hit t f (b + step) (b + size) step T ≡ false → PairApart a (b + step) size
    next-apart A none m m' r r' l l' s =
        let up : b + step + size ≡ b + size + step = omega arith in
        let q : InRange (b + step) (b + size + step) m' = record { from = r'.from; to = λ k q. omega (arith, r'.to k q) } in
        let c = range-count a (a + size) n m (omega arith) r in
        let in_T : T (chosen_sum n m' f) ≡ true =
        sets.set-of t t1 t2 f a size (chosen_sum n m' f) m r.from (omega arith) (sym (range-sum a (a + size) n m (omega arith) r f) ∙ s) in
        let w = last_line (b + step) (b + size) step m' T (omega arith) on q l' in_T none in
        A m m' r (record { from = λ k q. omega (arith, w.from k q); to = w.to }) l l' s

    pub apart_next : PairApart a (b + step) size → line_hit t f (b + step) (b + size) step T ≡ false
    apart_next A =
        not-true (line_hit t f (b + step) (b + size) step T)
        (λ h.
        let L = line_set (b + step) (b + size) step T (omega arith) on h in
        let S = sets.set-mask t t1 t2 f a size (chosen_sum n L.m f) L.in_T in
        let r = S.range in
        let up : a + size ≤ n = omega arith in
        clash
        (A S.m L.m r (record { from = L.range.from; to = λ k q. omega (arith, L.range.to k q) })
        (omega (arith, S.few, range-count a (a + size) n S.m up r)) L.few (range-sum a (a + size) n S.m up r f ∙ S.sum) L.place L.below
        ∙ L.holds)
        (not-true (S.m L.place) (λ q. absurd (omega (arith, r.to L.place q, L.late)))))

  -- ---- one range

  abbrev pub NoneIn : ℕ → ℕ → Type 0
  NoneIn lo hi = (m : ℕ → Bool) → InRange lo hi m → count_below n m ≤ t → chosen_sum n m f ≡ 0 → (k : ℕ) → k < n → m k ≡ false

  module _ (lo lo' hi step : ℕ) (le : lo ≤ lo') (le' : lo' ≤ hi) (on : hi + step ≤ n) where
    pub next-none : NoneIn lo hi → line_hit t f lo' hi step (eqb 0) ≡ false → NoneIn lo' (hi + step)
    next-none N none m r l s =
        let w = last_line lo' hi step m (eqb 0) le' on r l (eq-eqb 0 (chosen_sum n m f) (sym s)) none in
        N m (record { from = λ k q. omega (arith, w.from k q); to = w.to }) l s

    pub none-next : NoneIn lo' (hi + step) → line_hit t f lo' hi step (eqb 0) ≡ false
    none-next N =
        not-true (line_hit t f lo' hi step (eqb 0))
        (λ h.
        let L = line_set lo' hi step (eqb 0) le' on h in
        clash L.holds (N L.m L.range L.few (sym (eqb-true 0 (chosen_sum n L.m f) L.in_T)) L.place L.below))
