-- Choices of places in a range, under a bound n:
--
--   InRange a b m           m chooses places from a up to b, b left out
--   range-count, range-sum  how many they are, and their sum, do not depend on a bound beyond b
--   none-chosen             where none is chosen, the sum is 0
--   last-chosen             where some are, there is a last
--   one, couple             the choice of one place, and of two
--
-- Assumes nothing.
use mathlib.Core.Path.{◌≡◌, refl, sym, ap, ◌∙◌}
use mathlib.Core.Bool.{Bool, true, false, ◌||◌, cond}
use Prim.Native.Nat.{ℕ, zero, suc, ◌+◌, ◌-◌, ◌≤◌, ◌<◌}
use native.Mathlib.Nat.{lt-suc_self, add-zero}
use native.Mathlib.Decide.{ℕ_discrete}
use native.Mathlib.Omega.{arith}
use lib.Dec.{eqb}
use borrow.Author.Tests.{eq-eqb, ne_eqb}
use Rattle.finite.specs.Search.{count_below}
use Rattle.finite.proofs.Truth.{Truth, is_true, is_false, true-or-false, not-true}
use Rattle.finite.proofs.Count.{count_none, count-single, count-split, count-rise}
use Rattle.gf2.specs.Xor.{◌⊕◌, pick}
use Rattle.gf2.specs.Sum.{chosen_sum}
use Rattle.gf2.proofs.Xor.{xor_zero_right}
use Rattle.gf2.proofs.Sum.{sum-zero, sum-split, sum-next, sum-single}
use Rattle.gf2.proofs.Independence.{pick_true, pick-false}

pub record InRange (a b : ℕ) (m : ℕ → Bool) : Type 0 where
  pub from : (k : ℕ) → m k ≡ true → a ≤ k
  pub to : (k : ℕ) → m k ≡ true → k < b

module _ (b n : ℕ) (m : ℕ → Bool) (l : b ≤ n) (off : (k : ℕ) → b ≤ k → m k ≡ false) where
  split : b + (n - b) ≡ n
  split = omega arith

  pub beyond-count : count_below n m ≡ count_below b m
  beyond-count =
      ap (λ (x : ℕ). count_below x m) (sym split) ∙ count-split b (n - b) m
      ∙ ap (λ (x : ℕ). count_below b m + x) (count_none (n - b) (λ k. m (b + k)) (λ k _. off (b + k) (omega arith)))
      ∙ add-zero (count_below b m)

  pub beyond-sum : (f : ℕ → ℕ) → chosen_sum n m f ≡ chosen_sum b m f
  beyond-sum f =
      ap (λ (x : ℕ). chosen_sum x m f) (sym split) ∙ sum-split b (n - b) (λ k. pick (m k) (f k))
      ∙ ap (λ (x : ℕ). chosen_sum b m f ⊕ x)
      (sum-zero (n - b) (λ k. pick (m (b + k)) (f (b + k))) (λ k _. ap (λ (t : Bool). pick t (f (b + k))) (off (b + k) (omega arith)) ∙ pick-false (f (b + k))))
      ∙ xor_zero_right (chosen_sum b m f)

module _ (a b n : ℕ) (m : ℕ → Bool) (l : b ≤ n) (r : InRange a b m) where
  off-range : (k : ℕ) → b ≤ k → m k ≡ false
  off-range k u = not-true (m k) (λ t. let v = r.to k t in absurd (omega arith))

  pub range-count : count_below n m ≡ count_below b m
  range-count = beyond-count b n m l off-range

  pub range-sum : (f : ℕ → ℕ) → chosen_sum n m f ≡ chosen_sum b m f
  range-sum = beyond-sum b n m l off-range

pub count-zero : (n : ℕ) (m : ℕ → Bool) → count_below n m ≡ 0 → (k : ℕ) → k < n → m k ≡ false
count-zero n m e k l = not-true (m k) (λ t. let u = count-rise k n m t l in absurd (omega arith))

pub none-chosen : (n : ℕ) (m : ℕ → Bool) (f : ℕ → ℕ) → count_below n m ≡ 0 → chosen_sum n m f ≡ 0
none-chosen n m f e =
    sum-zero n (λ k. pick (m k) (f k)) (λ k l. ap (λ (t : Bool). pick t (f k)) (count-zero n m e k l) ∙ pick-false (f k))

-- the last place that is chosen, and what is chosen before it
pub record Last (n : ℕ) (m : ℕ → Bool) (f : ℕ → ℕ) : Type 0 where
  pub place : ℕ
  pub below : place < n
  pub holds : m place ≡ true
  pub after : (k : ℕ) → place < k → k < n → m k ≡ false
  pub count : count_below n m ≡ suc (count_below place m)
  pub sum : chosen_sum n m f ≡ chosen_sum place m f ⊕ f place

pub chosen-here : (k : ℕ) (m : ℕ → Bool) (f : ℕ → ℕ) → m k ≡ true → chosen_sum (suc k) m f ≡ chosen_sum k m f ⊕ f k
chosen-here k m f t =
    sum-next k (λ j. pick (m j) (f j)) ∙ ap (λ (x : ℕ). chosen_sum k m f ⊕ x) (ap (λ (b : Bool). pick b (f k)) t ∙ pick_true (f k))

pub count-here : (k : ℕ) (m : ℕ → Bool) → m k ≡ true → count_below (suc k) m ≡ suc (count_below k m)
unfolding count_below
count-here k m t = ap (λ (b : Bool). count_below k m + cond b 1 0) t ∙ omega arith

pub last-chosen : (n : ℕ) (m : ℕ → Bool) (f : ℕ → ℕ) → 1 ≤ count_below n m → Last n m f
last-chosen zero m f l = absurd (unfold count_below in omega arith)
last-chosen (suc n) m f l = go (true-or-false (m n)) (λ u. last-chosen n m f u)
  where
    go : Truth (m n) → (1 ≤ count_below n m → Last n m f) → Last (suc n) m f
    go (is_true t) ih = record {
      place = n;
      below = lt-suc_self n;
      holds = t;
      after = λ k u v. absurd (omega arith);
      count = count-here n m t;
      sum = chosen-here n m f t;
    }
    go (is_false t) ih =
        let e : count_below (suc n) m ≡ count_below n m = unfold count_below in ap (λ (b : Bool). count_below n m + cond b 1 0) t ∙ omega arith in
        let s : chosen_sum (suc n) m f ≡ chosen_sum n m f =
        sum-next n (λ j. pick (m j) (f j)) ∙ ap (λ (x : ℕ). chosen_sum n m f ⊕ x) (ap (λ (b : Bool). pick b (f n)) t ∙ pick-false (f n))
        ∙ xor_zero_right (chosen_sum n m f) in
        let L = ih (omega arith) in
        record {
          place = L.place;
          below = omega (arith, L.below);
          holds = L.holds;
          after = λ k u v. beyond k u v L.after (ℕ_discrete k n);
          count = e ∙ L.count;
          sum = s ∙ L.sum;
        }
      where
        beyond : {p : ℕ} (k : ℕ) → p < k → k < suc n → ((k : ℕ) → p < k → k < n → m k ≡ false) → Dec (k ≡ n) → m k ≡ false
        beyond k u v h (yes q) = ap m q ∙ t
        beyond k u v h (no q) = h k u (omega arith)

-- the choice of one place, and of two
unfoldable pub one : ℕ → ℕ → Bool
one k j = eqb k j

unfoldable pub couple : ℕ → ℕ → ℕ → Bool
couple l k j = eqb l j || eqb k j

pub one-count : (k n : ℕ) → k < n → count_below n (one k) ≡ 1
unfolding one
one-count k n l = count-single n k l

pub one-sum : (k n : ℕ) (f : ℕ → ℕ) → k < n → chosen_sum n (one k) f ≡ f k
unfolding one
one-sum k n f l =
    sum-single n k (λ j. pick (eqb k j) (f j)) l (λ j _ ne. ap (λ (b : Bool). pick b (f j)) (ne_eqb k j (λ e. ne (sym e))) ∙ pick-false (f j))
    ∙ ap (λ (b : Bool). pick b (f k)) (eq-eqb k k refl) ∙ pick_true (f k)
