-- The sets of few words by their last place, and as choices of places:
--
--   From a m                  m chooses places from a on
--   hit-of, hit-set           a choice with its last place at k, and hit_at
--   set-of, set-mask          a choice of few places, and set_sum
--   ApartIn                   choices of few places of a range with the same sum are the same
--   clear_apart, apart-clear  that is clear
--
-- Assumes nothing.
use mathlib.Core.Path.{◌≡◌, refl, sym, ap, ◌∙◌}
use mathlib.Core.Bool.{Bool, true, false, ◌&&◌, ◌||◌, not, cond}
use Prim.Native.Nat.{ℕ, zero, suc, ◌+◌, ◌-◌, ◌≤◌, ◌<◌}
use native.Mathlib.Nat.{lt-suc_self, add-zero, add-suc}
use native.Mathlib.Decide.{ℕ_discrete, dec_lt}
use native.Mathlib.Omega.{arith}
use lib.Dec.{eqb, ltb}
use borrow.Author.Tests.{eqb-true, eq-eqb, ne_eqb, ltb-true, lt-ltb, le-ltb}
use Rattle.finite.specs.Search.{count_below, any_below}
use Rattle.finite.proofs.Truth.{Truth, is_true, is_false, true-or-false, clash, not-true, or_left, or_right, or_cases, or-none, both, and_both, and_left, and_right}
use Rattle.finite.proofs.Search.{any_found, any_here}
use Rattle.finite.proofs.Count.{count-equal, count_none}
use Rattle.gf2.specs.Xor.{◌⊕◌, pick}
use Rattle.gf2.specs.Sum.{chosen_sum}
use Rattle.gf2.proofs.Xor.{xor_zero_left, xor_zero_right, xor-back}
use Rattle.gf2.proofs.Sum.{sum-equal, sum-next}
use Rattle.gf2.proofs.Independence.{pick-false}
use Rattle.sparse.specs.Sets.{hit_at, set_sum, clear}
use Rattle.sparse.proofs.Range.{InRange, range-count, range-sum, beyond-count, beyond-sum, none-chosen, last-chosen, chosen-here, count-here}
use Rattle.sparse.proofs.Range.{one, couple, one-count, one-sum}

abbrev pub From : ℕ → (ℕ → Bool) → Type 0
From a m = (k : ℕ) → m k ≡ true → a ≤ k

-- where the next place is not chosen
chosen-not : (k : ℕ) (m : ℕ → Bool) (f : ℕ → ℕ) → m k ≡ false → chosen_sum (suc k) m f ≡ chosen_sum k m f
chosen-not k m f t =
    sum-next k (λ j. pick (m j) (f j)) ∙ ap (λ (x : ℕ). chosen_sum k m f ⊕ x) (ap (λ (b : Bool). pick b (f k)) t ∙ pick-false (f k))
    ∙ xor_zero_right (chosen_sum k m f)

count-not-here : (k : ℕ) (m : ℕ → Bool) → m k ≡ false → count_below (suc k) m ≡ count_below k m
unfolding count_below
count-not-here k m t = ap (λ (b : Bool). count_below k m + cond b 1 0) t ∙ add-zero (count_below k m)

-- of a couple
module _ (l k : ℕ) (lt : l < k) where
  couple-last : couple l k k ≡ true
  unfolding couple
  couple-last = or_right (eqb l k) (eqb k k) (eq-eqb k k refl)

  couple-first : (j : ℕ) → j < k → couple l k j ≡ one l j
  unfolding couple one
  couple-first j u = ap (λ (b : Bool). eqb l j || b) (ne_eqb k j (λ e. omega arith)) ∙ or-none (eqb l j)

  pub couple-count : count_below (suc k) (couple l k) ≡ 2
  couple-count =
      count-here k (couple l k) couple-last ∙ ap suc (count-equal k (couple l k) (one l) couple-first ∙ one-count l k lt)

  pub couple-sum : (f : ℕ → ℕ) → chosen_sum (suc k) (couple l k) f ≡ f l ⊕ f k
  couple-sum f =
      chosen-here k (couple l k) f couple-last
      ∙ ap (λ (x : ℕ). x ⊕ f k)
      (sum-equal k (λ j. pick (couple l k j) (f j)) (λ j. pick (one l j) (f j)) (λ j u. ap (λ (b : Bool). pick b (f j)) (couple-first j u)) ∙ one-sum l k f lt)

  pub couple-range : (from : ℕ) → from ≤ l → InRange from (suc k) (couple l k)
  unfolding couple
  couple-range from u = record {
    from = λ j t. or_cases (eqb l j) (eqb k j) t (λ e. let q : l ≡ j = eqb-true l j e in omega arith) (λ e. let q : k ≡ j = eqb-true k j e in omega arith);
    to = λ j t. or_cases (eqb l j) (eqb k j) t (λ e. let q : l ≡ j = eqb-true l j e in omega arith) (λ e. let q : k ≡ j = eqb-true k j e in omega arith);
  }

one-range : (from k : ℕ) → from ≤ k → InRange from (suc k) (one k)
unfolding one
one-range from k u = record {
  from = λ j e. let q : k ≡ j = eqb-true k j e in omega arith;
  to = λ j e. let q : k ≡ j = eqb-true k j e in omega arith;
}

one-here : (k : ℕ) → one k k ≡ true
unfolding one
one-here k = eq-eqb k k refl

-- a choice of at most t places whose last is k
pub record HitSet (t : ℕ) (f : ℕ → ℕ) (from k : ℕ) (T : ℕ → Bool) : Type 0 where
  pub m : ℕ → Bool
  pub range : InRange from (suc k) m
  pub last : m k ≡ true
  pub few : count_below (suc k) m ≤ t
  pub in_T : T (chosen_sum (suc k) m f) ≡ true

pub record SumSet (t : ℕ) (f : ℕ → ℕ) (from n x : ℕ) : Type 0 where
  pub m : ℕ → Bool
  pub range : InRange from (from + n) m
  pub few : count_below (from + n) m ≤ t
  pub sum : chosen_sum (from + n) m f ≡ x

module _ (t : ℕ) (t1 : 1 ≤ t) (t2 : t ≤ 2) (f : ℕ → ℕ) where
  pub hit-of : (from k : ℕ) (m : ℕ → Bool) (T : ℕ → Bool) → From from m → m k ≡ true → count_below (suc k) m ≤ t → T (chosen_sum (suc k) m f) ≡ true
      → hit_at t f from k T ≡ true
  unfolding hit_at
  hit-of from k m T w h l e = go (dec_lt (count_below k m) 1)
    where
      pairs : Bool
      pairs = eqb t 2 && any_below (k - from) (λ d. T (f (from + d) ⊕ f k))

      count : count_below (suc k) m ≡ suc (count_below k m)
      count = count-here k m h

      sum : chosen_sum (suc k) m f ≡ chosen_sum k m f ⊕ f k
      sum = chosen-here k m f h

      go : Dec (count_below k m < 1) → (T (f k) || pairs) ≡ true
      go (yes u) =
          let z : count_below k m ≡ 0 = omega arith in
          or_left (T (f k)) pairs
          (ap T (sym (sum ∙ ap (λ (x : ℕ). x ⊕ f k) (none-chosen k m f z) ∙ xor_zero_left (f k))) ∙ e)
      go (no u) =
          let L = last-chosen k m f (omega arith) in
          let i = L.place in
          let z : count_below i m ≡ 0 = omega (arith, L.count, count) in
          let from-i : from ≤ i = w i L.holds in
          let s : chosen_sum k m f ≡ f i = L.sum ∙ ap (λ (x : ℕ). x ⊕ f i) (none-chosen i m f z) ∙ xor_zero_left (f i) in
          let two : t ≡ 2 = omega (arith, count) in
          let at : from + (i - from) ≡ i = omega arith in
          or_right (T (f k)) pairs
          (and_both (eqb t 2) (any_below (k - from) (λ d. T (f (from + d) ⊕ f k))) (eq-eqb t 2 two)
          (any_here (k - from) (λ d. T (f (from + d) ⊕ f k)) (i - from) (omega (arith, L.below))
          (ap (λ (x : ℕ). T (f x ⊕ f k)) at ∙ ap (λ (x : ℕ). T (x ⊕ f k)) (sym s) ∙ ap T (sym sum) ∙ e)))

  pub hit-set : (from k : ℕ) (T : ℕ → Bool) → from ≤ k → hit_at t f from k T ≡ true → HitSet t f from k T
  unfolding hit_at
  hit-set from k T u h =
      or_cases (T (f k)) (eqb t 2 && any_below (k - from) (λ d. T (f (from + d) ⊕ f k))) h
      (λ e. record {
        m = one k;
        range = one-range from k u;
        last = one-here k;
        few = omega (arith, one-count k (suc k) (lt-suc_self k));
        in_T = ap T (one-sum k (suc k) f (lt-suc_self k)) ∙ e;
      })
      (λ e.
      let p = both (eqb t 2) (any_below (k - from) (λ d. T (f (from + d) ⊕ f k))) e in
      let w = any_found (k - from) (λ d. T (f (from + d) ⊕ f k)) p.1 in
      let l : from + w.0 < k = omega (arith, w.1) in
      let two : t ≡ 2 = eqb-true t 2 p.0 in
      record {
        m = couple (from + w.0) k;
        range = couple-range (from + w.0) k l from (omega arith);
        last = couple-last (from + w.0) k l;
        few = omega (arith, couple-count (from + w.0) k l);
        in_T = ap T (couple-sum (from + w.0) k l f) ∙ w.2;
      })

  pub set-of : (from n x : ℕ) (m : ℕ → Bool) → From from m → count_below (from + n) m ≤ t → chosen_sum (from + n) m f ≡ x → set_sum t f from n x ≡ true
  unfolding set_sum
  set-of from zero x m w l e =
      let none : count_below (from + 0) m ≡ 0 = count_none (from + 0) m (λ k lk. not-true (m k) (λ q. let u = w k q in absurd (omega arith))) in
      eq-eqb x 0 (sym e ∙ none-chosen (from + 0) m f none)
  set-of from (suc n) x m w l e = go (true-or-false (m k)) (set-of from n x m w)
    where
      k : ℕ
      k = from + n

      at : from + suc n ≡ suc k
      at = add-suc from n

      l' : count_below (suc k) m ≤ t
      l' = let q : count_below (from + suc n) m ≡ count_below (suc k) m = ap (λ (x : ℕ). count_below x m) at in omega arith

      e' : chosen_sum (suc k) m f ≡ x
      e' = sym (ap (λ (x : ℕ). chosen_sum x m f) at) ∙ e

      go : Truth (m k) → (count_below k m ≤ t → chosen_sum k m f ≡ x → set_sum t f from n x ≡ true)
          → (set_sum t f from n x || hit_at t f from k (λ y. eqb y x)) ≡ true
      go (is_true q) ih =
          or_right (set_sum t f from n x) (hit_at t f from k (λ y. eqb y x))
          (hit-of from k m (λ y. eqb y x) w q l' (eq-eqb (chosen_sum (suc k) m f) x e'))
      go (is_false q) ih =
          or_left (set_sum t f from n x) (hit_at t f from k (λ y. eqb y x))
          (ih (omega (arith, l', count-not-here k m q)) (sym (chosen-not k m f q) ∙ e'))

  pub set-mask : (from n x : ℕ) → set_sum t f from n x ≡ true → SumSet t f from n x
  unfolding set_sum
  set-mask from zero x h = record {
    m = λ k. false;
    range = record { from = λ k q. clash q refl; to = λ k q. clash q refl };
    few = omega (arith, count_none (from + 0) (λ k. false) (λ k l. refl));
    sum = none-chosen (from + 0) (λ k. false) f (count_none (from + 0) (λ k. false) (λ k l. refl)) ∙ sym (eqb-true x 0 h);
  }
  set-mask from (suc n) x h =
      or_cases (set_sum t f from n x) (hit_at t f from k (λ y. eqb y x)) h
      (λ e.
      let S = set-mask from n x e in
      let r = S.range in
      let up : from + n ≤ from + suc n = omega arith in
      record {
        m = S.m;
        range = record { from = r.from; to = λ j q. omega (arith, r.to j q) };
        few = omega (arith, S.few, range-count from (from + n) (from + suc n) S.m up r);
        sum = range-sum from (from + n) (from + suc n) S.m up r f ∙ S.sum;
      })
      (λ e.
      let H = hit-set from k (λ y. eqb y x) (omega arith) e in
      record {
        m = H.m;
        range = record { from = H.range.from; to = λ j q. omega (arith, H.range.to j q) };
        few = let q : count_below (from + suc n) H.m ≡ count_below (suc k) H.m = ap (λ (x : ℕ). count_below x H.m) at in omega (arith, H.few);
        sum = ap (λ (x : ℕ). chosen_sum x H.m f) at ∙ eqb-true (chosen_sum (suc k) H.m f) x H.in_T;
      })
    where
      k : ℕ
      k = from + n

      at : from + suc n ≡ suc k
      at = add-suc from n

  -- ---- no two sets of a range have the same sum

  abbrev pub ApartIn : ℕ → ℕ → Type 0
  ApartIn a n =
      (m m' : ℕ → Bool) → From a m → From a m' → count_below (a + n) m ≤ t → count_below (a + n) m' ≤ t
      → chosen_sum (a + n) m f ≡ chosen_sum (a + n) m' f → (k : ℕ) → k < a + n → m k ≡ m' k

  -- a set that has the place k, and one that has not, of the same sum
  one_has : (a n : ℕ) (m m' : ℕ → Bool) → From a m → From a m' → count_below (suc (a + n)) m ≤ t → count_below (suc (a + n)) m' ≤ t
      → chosen_sum (suc (a + n)) m f ≡ chosen_sum (suc (a + n)) m' f → m (a + n) ≡ true → m' (a + n) ≡ false
      → hit_at t f a (a + n) (set_sum t f a n) ≡ true
  one_has a n m m' w w' l l' s p q =
      hit-of a (a + n) m (set_sum t f a n) w p l
      (set-of a n (chosen_sum (suc (a + n)) m f) m' w' (omega (arith, count-not-here (a + n) m' q)) (sym (chosen-not (a + n) m' f q) ∙ sym s))

  pub clear_apart : (a n : ℕ) → clear t f a n ≡ true → ApartIn a n
  unfolding clear
  clear_apart a zero c m m' w w' l l' s k lk =
      not-true (m k) (λ q. let u = w k q in absurd (omega arith)) ∙ sym (not-true (m' k) (λ q. let u = w' k q in absurd (omega arith)))
  clear_apart a (suc n) c m m' w w' l l' s k lk =
      go (both (clear t f a n) (not (hit_at t f a i (set_sum t f a n))) c) (true-or-false (m i)) (true-or-false (m' i)) (ℕ_discrete k i) (clear_apart a n)
    where
      i : ℕ
      i = a + n

      at : a + suc n ≡ suc i
      at = add-suc a n

      u : count_below (suc i) m ≤ t
      u = let q : count_below (a + suc n) m ≡ count_below (suc i) m = ap (λ (x : ℕ). count_below x m) at in omega arith

      u' : count_below (suc i) m' ≤ t
      u' = let q : count_below (a + suc n) m' ≡ count_below (suc i) m' = ap (λ (x : ℕ). count_below x m') at in omega arith

      v : chosen_sum (suc i) m f ≡ chosen_sum (suc i) m' f
      v = ap (λ (x : ℕ). chosen_sum x m f) (sym at) ∙ s ∙ ap (λ (x : ℕ). chosen_sum x m' f) at

      none : {A : Type 0} → not (hit_at t f a i (set_sum t f a n)) ≡ true → hit_at t f a i (set_sum t f a n) ≡ true → A
      none e h = clash e (ap not h)

      go : (clear t f a n ≡ true) × (not (hit_at t f a i (set_sum t f a n)) ≡ true) → Truth (m i) → Truth (m' i) → Dec (k ≡ i)
          → (clear t f a n ≡ true → ApartIn a n) → m k ≡ m' k
      go c (is_true p) (is_false q) d ih = none c.1 (one_has a n m m' w w' u u' v p q)
      go c (is_false p) (is_true q) d ih = none c.1 (one_has a n m' m w' w u' u (sym v) q p)
      go c (is_true p) (is_true q) (yes e) ih = ap m e ∙ p ∙ sym q ∙ ap m' (sym e)
      go c (is_true p) (is_true q) (no e) ih =
          ih c.0 m m' w w' (omega (arith, count-here i m p, u)) (omega (arith, count-here i m' q, u'))
          (sym (xor-back (chosen_sum i m f) (f i)) ∙ ap (λ (x : ℕ). x ⊕ f i) (sym (chosen-here i m f p) ∙ v ∙ chosen-here i m' f q) ∙ xor-back
          (chosen_sum i m' f) (f i))
          k (omega arith)
      go c (is_false p) (is_false q) (yes e) ih = ap m e ∙ p ∙ sym q ∙ ap m' (sym e)
      go c (is_false p) (is_false q) (no e) ih =
          ih c.0 m m' w w' (omega (arith, count-not-here i m p, u)) (omega (arith, count-not-here i m' q, u'))
          (sym (chosen-not i m f p) ∙ v ∙ chosen-not i m' f q) k (omega arith)

  -- a choice cut off at a bound
  unfoldable pub cut : ℕ → (ℕ → Bool) → ℕ → Bool
  cut b m k = ltb k b && m k

  pub cut_below : (b : ℕ) (m : ℕ → Bool) (k : ℕ) → k < b → cut b m k ≡ m k
  unfolding cut
  cut_below b m k l = ap (λ (x : Bool). x && m k) (lt-ltb k b l)

  cut-beyond : (b : ℕ) (m : ℕ → Bool) (k : ℕ) → b ≤ k → cut b m k ≡ false
  unfolding cut
  cut-beyond b m k l = ap (λ (x : Bool). x && m k) (le-ltb k b l)

  pub cut_range : (a b : ℕ) (m : ℕ → Bool) → From a m → InRange a b (cut b m)
  unfolding cut
  cut_range a b m w = record {
    from = λ k e. w k (and_right (ltb k b) (m k) e);
    to = λ k e. ltb-true k b (and_left (ltb k b) (m k) e);
  }

  pub cut-count : (b n : ℕ) (m : ℕ → Bool) → b ≤ n → count_below n (cut b m) ≡ count_below b m
  cut-count b n m l = beyond-count b n (cut b m) l (cut-beyond b m) ∙ count-equal b (cut b m) m (cut_below b m)

  pub cut_sum : (b n : ℕ) (m : ℕ → Bool) → b ≤ n → chosen_sum n (cut b m) f ≡ chosen_sum b m f
  cut_sum b n m l =
      beyond-sum b n (cut b m) l (cut-beyond b m) f
      ∙ sum-equal b (λ j. pick (cut b m j) (f j)) (λ j. pick (m j) (f j)) (λ j lj. ap (λ (x : Bool). pick x (f j)) (cut_below b m j lj))

  apart-less : (a n : ℕ) → ApartIn a (suc n) → ApartIn a n
  apart-less a n A m m' w w' l l' s k lk =
      sym (cut_below (a + n) m k lk)
      ∙ A (cut (a + n) m) (cut (a + n) m') (cut_range a (a + n) m w).from (cut_range a (a + n) m' w').from
      (omega (arith, cut-count (a + n) (a + suc n) m (omega arith))) (omega (arith, cut-count (a + n) (a + suc n) m' (omega arith)))
      (cut_sum (a + n) (a + suc n) m (omega arith) ∙ s ∙ sym (cut_sum (a + n) (a + suc n) m' (omega arith))) k (omega arith)
      ∙ cut_below (a + n) m' k lk

  pub apart-clear : (a n : ℕ) → ApartIn a n → clear t f a n ≡ true
  unfolding clear
  apart-clear a zero A = refl
  apart-clear a (suc n) A =
      and_both (clear t f a n) (not (hit_at t f a (a + n) (set_sum t f a n))) (apart-clear a n (apart-less a n A))
      (ap not (not-true (hit_at t f a (a + n) (set_sum t f a n)) no))
    where
      i : ℕ
      i = a + n

      at : a + suc n ≡ suc i
      at = add-suc a n

      no : hit_at t f a i (set_sum t f a n) ≡ true → ⊥
      no h =
          let H = hit-set a i (set_sum t f a n) (omega arith) h in
          let S = set-mask a n (chosen_sum (suc i) H.m f) H.in_T in
          let r = S.range in
          let up : i ≤ a + suc n = omega arith in
          let e : count_below (a + suc n) H.m ≡ count_below (suc i) H.m = ap (λ (x : ℕ). count_below x H.m) at in
          clash
          (sym (A H.m S.m H.range.from r.from (omega (arith, H.few)) (omega (arith, S.few, range-count a i (a + suc n) S.m up r))
          (ap (λ (x : ℕ). chosen_sum x H.m f) at ∙ sym (range-sum a i (a + suc n) S.m up r f ∙ S.sum)) i (omega arith))
          ∙ H.last)
          (not-true (S.m i) (λ q. absurd (omega (arith, r.to i q))))
