-- Laws of exclusive-or sums:
--
--   sum-equal     equal values give equal sums
--   sum-zero      a family of zeros has sum 0
--   sum-xor       the sum of f ⊕ g is the exclusive-or of the two sums
--   sum_below     a bound by a power of two
--   sum-single    a family that is 0 but at one place has that value as its sum
--   sum-split     a sum over a + b places is the first a and then the next b
--   sum-exchange  two nested sums in either order
--   sum-blocks    a sum over n * m places, by blocks of m
--   chosen-differ the sum chosen by the difference of two choices
--
-- Assumes nothing.
use mathlib.Core.Path.{◌≡◌, refl, sym, ap, ap₂, ◌∙◌}
use mathlib.Core.Bool.{Bool, xor}
use Prim.Native.Nat.{ℕ, zero, suc, ◌+◌, ◌*◌, ◌^◌, ◌<◌}
use native.Mathlib.Nat.{add-zero, add-suc, zero-mul, suc-mul, lt-suc_self}
use native.Mathlib.Decide.{ℕ_discrete}
use native.Mathlib.Omega.{arith}
use lib.Pow.{pow_pos}
use Rattle.gf2.specs.Xor.{◌⊕◌, pick}
use Rattle.gf2.specs.Sum.{xor_sum, chosen_sum}
use Rattle.gf2.proofs.Xor.{xor_assoc, xor-swap, xor_zero_left, xor_zero_right, xor_below, xor_self, pick-differ}

pub sum-none : (f : ℕ → ℕ) → xor_sum 0 f ≡ 0
unfolding xor_sum
sum-none f = refl

pub sum-next : (n : ℕ) (f : ℕ → ℕ) → xor_sum (suc n) f ≡ xor_sum n f ⊕ f n
unfolding xor_sum
sum-next n f = refl

pub sum-equal : (n : ℕ) (f g : ℕ → ℕ) → ((k : ℕ) → k < n → f k ≡ g k) → xor_sum n f ≡ xor_sum n g
unfolding xor_sum
sum-equal zero f g h = refl
sum-equal (suc n) f g h = ap₂ ◌⊕◌ (sum-equal n f g (λ k l. h k (omega arith))) (h n (lt-suc_self n))

pub sum-zero : (n : ℕ) (f : ℕ → ℕ) → ((k : ℕ) → k < n → f k ≡ 0) → xor_sum n f ≡ 0
unfolding xor_sum
sum-zero zero f h = refl
sum-zero (suc n) f h = ap₂ ◌⊕◌ (sum-zero n f (λ k l. h k (omega arith))) (h n (lt-suc_self n)) ∙ xor_self 0

pub sum-xor : (n : ℕ) (f g : ℕ → ℕ) → xor_sum n (λ k. f k ⊕ g k) ≡ xor_sum n f ⊕ xor_sum n g
unfolding xor_sum
sum-xor zero f g = sym (xor_self 0)
sum-xor (suc n) f g = ap (λ (x : ℕ). x ⊕ (f n ⊕ g n)) (sum-xor n f g) ∙ xor-swap (xor_sum n f) (xor_sum n g) (f n) (g n)

pub sum_below : (w n : ℕ) (f : ℕ → ℕ) → ((k : ℕ) → k < n → f k < 2 ^ w) → xor_sum n f < 2 ^ w
unfolding xor_sum
sum_below w zero f h = pow_pos w
sum_below w (suc n) f h = xor_below w (xor_sum n f) (f n) (sum_below w n f (λ k l. h k (omega arith))) (h n (lt-suc_self n))

pub sum-single : (n a : ℕ) (f : ℕ → ℕ) → a < n → ((k : ℕ) → k < n → (k ≡ a → ⊥) → f k ≡ 0) → xor_sum n f ≡ f a
unfolding xor_sum
sum-single zero a f la h = absurd (omega arith)
sum-single (suc n) a f la h = go (ℕ_discrete n a) (λ l. sum-single n a f l (λ k lk. h k (omega arith)))
  where
    go : Dec (n ≡ a) → (a < n → xor_sum n f ≡ f a) → xor_sum n f ⊕ f n ≡ f a
    go (yes e) ih =
        ap (λ (x : ℕ). x ⊕ f n) (sum-zero n f (λ k lk. h k (omega arith) (λ eq. omega arith))) ∙ xor_zero_left (f n) ∙ ap f e
    go (no ne) ih = ap₂ ◌⊕◌ (ih (omega arith)) (h n (lt-suc_self n) ne) ∙ xor_zero_right (f a)

pub sum-split : (a b : ℕ) (f : ℕ → ℕ) → xor_sum (a + b) f ≡ xor_sum a f ⊕ xor_sum b (λ k. f (a + k))
sum-split a zero f =
    ap (λ (n : ℕ). xor_sum n f) (add-zero a) ∙ sym (xor_zero_right (xor_sum a f))
    ∙ ap (λ (x : ℕ). xor_sum a f ⊕ x) (sym (sum-none (λ k. f (a + k))))
sum-split a (suc b) f =
    ap (λ (n : ℕ). xor_sum n f) (add-suc a b) ∙ sum-next (a + b) f ∙ ap (λ (x : ℕ). x ⊕ f (a + b)) (sum-split a b f)
    ∙ xor_assoc (xor_sum a f) (xor_sum b (λ k. f (a + k))) (f (a + b)) ∙ ap (λ (x : ℕ). xor_sum a f ⊕ x) (sym (sum-next b (λ k. f (a + k))))

pub sum-exchange : (n m : ℕ) (f : ℕ → ℕ → ℕ) → xor_sum n (λ i. xor_sum m (λ j. f i j)) ≡ xor_sum m (λ j. xor_sum n (λ i. f i j))
unfolding xor_sum
sum-exchange zero m f = sym (sum-zero m (λ j. xor_sum 0 (λ i. f i j)) (λ k l. refl))
sum-exchange (suc n) m f =
    ap (λ (x : ℕ). x ⊕ xor_sum m (λ j. f n j)) (sum-exchange n m f)
    ∙ sym (sum-xor m (λ j. xor_sum n (λ i. f i j)) (λ j. f n j))

pub sum-blocks : (n m : ℕ) (f : ℕ → ℕ) → xor_sum (n * m) f ≡ xor_sum n (λ i. xor_sum m (λ j. f (i * m + j)))
sum-blocks zero m f = ap (λ (x : ℕ). xor_sum x f) (zero-mul m) ∙ sum-none f ∙ sym (sum-none (λ i. xor_sum m (λ j. f (i * m + j))))
sum-blocks (suc n) m f =
    ap (λ (x : ℕ). xor_sum x f) (suc-mul n m) ∙ sum-split (n * m) m f
    ∙ ap (λ (x : ℕ). x ⊕ xor_sum m (λ j. f (n * m + j))) (sum-blocks n m f)
    ∙ sym (sum-next n (λ i. xor_sum m (λ j. f (i * m + j))))

pub chosen-differ : (n : ℕ) (s t : ℕ → Bool) (f : ℕ → ℕ) → chosen_sum n (λ k. xor (s k) (t k)) f ≡ chosen_sum n s f ⊕ chosen_sum n t f
chosen-differ n s t f =
    sum-equal n (λ k. pick (xor (s k) (t k)) (f k)) (λ k. pick (s k) (f k) ⊕ pick (t k) (f k)) (λ k l. pick-differ (s k) (t k) (f k))
    ∙ sum-xor n (λ k. pick (s k) (f k)) (λ k. pick (t k) (f k))
