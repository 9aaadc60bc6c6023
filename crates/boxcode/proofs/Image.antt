-- Sums and counts over the image of a list of different places, and the strip law:
--
--   Listed r n g      g 0, …, g (r - 1) are different numbers below n
--   sum-image         a sum over n places that is 0 off the list is the sum over the list
--   count-image       so many places are on the list as it has entries
--   count-injects     places that are taken one to one to places at which something holds are no more than those
--   picked, unpicked  a value that is chosen, and one that is not
--   place-listed      the places of the remainders are such a list
--   strip-sum         a sum over n places that is 0 off the b places from a on is the sum over the remainders modulo b
--
-- Assumes nothing.
use mathlib.Core.Path.{◌≡◌, refl, sym, ap, ap₂, ◌∙◌}
use mathlib.Core.Bool.{Bool, true, false}
use Prim.Native.Nat.{ℕ, zero, suc, ◌+◌, ◌%◌, ◌≤◌, ◌<◌}
use native.Mathlib.Nat.{lt-suc_self, mod-lt}
use native.Mathlib.Omega.{arith}
use lib.Dec.{eqb}
use borrow.Author.Tests.{eqb-true, eqb-false, eq-eqb, ne_eqb}
use Rattle.gf2.specs.Xor.{pick}
use Rattle.gf2.specs.Sum.{xor_sum}
use Rattle.gf2.proofs.Sum.{sum-equal, sum-zero, sum-single, sum-exchange}
use Rattle.finite.specs.Search.{any_below, count_below, place}
use Rattle.finite.proofs.Truth.{Truth, is_true, is_false, true-or-false, clash}
use Rattle.finite.proofs.Search.{any_found, any_none}
use Rattle.finite.proofs.Digits.{place-to, place-mod, place_is}
use Rattle.finite.proofs.Count.{count-or, count-single, count_none, count-more, select, select-below, select-holds, select-number}

-- different numbers below n
pub record Listed (r n : ℕ) (g : ℕ → ℕ) : Type 0 where
  pub below : (k : ℕ) → k < r → g k < n
  pub different : (k l : ℕ) → k < r → l < r → g k ≡ g l → k ≡ l

pub picked : (b : Bool) (x : ℕ) → b ≡ true → pick b x ≡ x
unfolding pick
picked true x e = refl
picked false x e = clash e refl

pub unpicked : (b : Bool) (x : ℕ) → b ≡ false → pick b x ≡ 0
unfolding pick
unpicked true x e = clash refl e
unpicked false x e = refl

module _ (r n : ℕ) (g : ℕ → ℕ) (lst : Listed r n g) where
  pub sum-image : (f h : ℕ → ℕ) → ((k : ℕ) → k < r → f (g k) ≡ h k)
      → ((t : ℕ) → t < n → ((k : ℕ) → k < r → g k ≡ t → ⊥) → f t ≡ 0) → xor_sum n f ≡ xor_sum r h
  sum-image f h on off =
      sum-equal n f (λ t. xor_sum r (λ k. pick (eqb (g k) t) (f t))) (λ t l. spread t l (true-or-false (any_below r (λ k. eqb (g k) t))))
      ∙ sum-exchange n r (λ t k. pick (eqb (g k) t) (f t))
      ∙ sum-equal r (λ k. xor_sum n (λ t. pick (eqb (g k) t) (f t))) h
      (λ k l.
      sum-single n (g k) (λ t. pick (eqb (g k) t) (f t)) (lst.below k l) (λ t lt ne. unpicked (eqb (g k) t) (f t) (ne_eqb (g k) t (λ e. ne (sym e))))
      ∙ picked (eqb (g k) (g k)) (f (g k)) (eq-eqb (g k) (g k) refl) ∙ on k l)
    where
      spread : (t : ℕ) → t < n → Truth (any_below r (λ k. eqb (g k) t)) → f t ≡ xor_sum r (λ k. pick (eqb (g k) t) (f t))
      spread t l (is_true e) =
          let w = any_found r (λ k. eqb (g k) t) e in
          let q : g w.0 ≡ t = eqb-true (g w.0) t w.2 in
          sym (sum-single r w.0 (λ k. pick (eqb (g k) t) (f t)) w.1
          (λ k lk ne. unpicked (eqb (g k) t) (f t) (ne_eqb (g k) t (λ e. ne (lst.different k w.0 lk w.1 (e ∙ sym q)))))
          ∙ picked (eqb (g w.0) t) (f t) w.2)
      spread t l (is_false e) =
          let none : (k : ℕ) → k < r → eqb (g k) t ≡ false = any_none r (λ k. eqb (g k) t) e in
          off t l (λ k lk q. eqb-false (g k) t (none k lk) q)
          ∙ sym (sum-zero r (λ k. pick (eqb (g k) t) (f t)) (λ k lk. unpicked (eqb (g k) t) (f t) (none k lk)))

pub count-image : (r n : ℕ) (g : ℕ → ℕ) → Listed r n g → count_below n (λ t. any_below r (λ k. eqb (g k) t)) ≡ r
unfolding any_below
count-image zero n g lst = count_none n (λ t. false) (λ k l. refl)
count-image (suc r) n g lst =
    count-or n (λ t. any_below r (λ k. eqb (g k) t)) (λ t. eqb (g r) t) apart
    ∙ ap₂ ◌+◌ (count-image r n g shorter) (count-single n (g r) (lst.below r (lt-suc_self r)))
    ∙ plus_one
  where
    shorter : Listed r n g
    shorter = record { below = λ k l. lst.below k (omega arith); different = λ k l lk ll. lst.different k l (omega arith) (omega arith) }

    apart : (t : ℕ) → t < n → any_below r (λ k. eqb (g k) t) ≡ true → eqb (g r) t ≡ true → ⊥
    apart t l a b =
        let w = any_found r (λ k. eqb (g k) t) a in
        let lw : w.0 < r = w.1 in
        let q : w.0 ≡ r = lst.different w.0 r (omega arith) (lt-suc_self r) (eqb-true (g w.0) t w.2 ∙ sym (eqb-true (g r) t b)) in
        omega arith

    plus_one : r + 1 ≡ suc r
    plus_one = omega arith

pub count-injects :
    (n n' : ℕ) (p p' : ℕ → Bool) (h : ℕ → ℕ) → ((k : ℕ) → k < n → p k ≡ true → (h k < n') × (p' (h k) ≡ true))
    → ((k l : ℕ) → k < n → l < n → p k ≡ true → p l ≡ true → h k ≡ h l → k ≡ l) → count_below n p ≤ count_below n' p'
count-injects n n' p p' h to one =
    let r = count_below n p in
    let e : count_below n' (λ t. any_below r (λ d. eqb (h (select n p d)) t)) ≡ r = count-image r n' (λ d. h (select n p d)) lst in
    let l : count_below n' (λ t. any_below r (λ d. eqb (h (select n p d)) t)) ≤ count_below n' p' =
    count-more n' (λ t. any_below r (λ d. eqb (h (select n p d)) t)) p' (λ t lt a. on t a) in
    omega arith
  where
    lst : Listed (count_below n p) n' (λ d. h (select n p d))
    lst = record {
      below = λ d l. (to (select n p d) (select-below n p d l) (select-holds n p d l)).0;
      different = λ d d' l l' e.
          sym (select-number n p d l)
          ∙ ap (λ (t : ℕ). count_below t p)
          (one (select n p d) (select n p d') (select-below n p d l) (select-below n p d' l') (select-holds n p d l) (select-holds n p d' l') e)
          ∙ select-number n p d' l';
    }

    on : (t : ℕ) → any_below (count_below n p) (λ d. eqb (h (select n p d)) t) ≡ true → p' t ≡ true
    on t a =
        let w = any_found (count_below n p) (λ d. eqb (h (select n p d)) t) a in
        ap p' (sym (eqb-true (h (select n p w.0)) t w.2)) ∙ (to (select n p w.0) (select-below n p w.0 w.1) (select-holds n p w.0 w.1)).1

-- the places of the remainders are different numbers below n
pub place-listed : (n b a : ℕ) → 0 < b → a + b ≤ n → Listed b n (place b a)
place-listed n b a bp on = record {
  below = λ k l. let t : place b a k < a + b = place-to b a bp k in omega arith;
  different = λ k l lk ll e. sym (place-mod b a bp k lk) ∙ ap (λ (x : ℕ). x % b) e ∙ place-mod b a bp l ll;
}

pub strip-sum : (n b a : ℕ) → 0 < b → a + b ≤ n → (f : ℕ → ℕ) → ((t : ℕ) → ((a ≤ t) → (t < a + b) → ⊥) → f t ≡ 0)
    → xor_sum n f ≡ xor_sum b (λ r. f (place b a r))
strip-sum n b a bp on f off =
    sum-image b n (place b a) (place-listed n b a bp on) f (λ r. f (place b a r)) (λ k l. refl)
    (λ t lt miss. off t (λ from to. miss (t % b) (mod-lt t bp) (place_is b a bp t from to)))
