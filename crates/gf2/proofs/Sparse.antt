-- Laws of sets of few members: the computing forms against the definitions.
--
--   apart-apart, free-up-to    `apart` and `free_up_to` say no more than the definitions
--   so-apart, so-free          and no less
--   apart-equal, free-equal    equal values have the same
--
-- A set is a choice of places, or a number with a digit for each place; neither knows of places from n on.
--
-- Assumes nothing.
use mathlib.Core.Path.{◌≡◌, refl, sym, ap, ap₂, ◌∙◌}
use mathlib.Core.Bool.{Bool, true, false, ◌&&◌, not}
use Prim.Native.Nat.{ℕ, ◌^◌, ◌≤◌, ◌<◌}
use native.Mathlib.Decide.{ℕ_discrete}
use native.Mathlib.Omega.{arith}
use lib.Dec.{eqb, leb, ltb}
use lib.Pow.{pow_pos}
use borrow.Author.Tests.{eqb-true, eq-eqb, ne_eqb, leb-true, le-leb, ltb-true, lt-ltb}
use Rattle.finite.specs.Search.{bit, number_of, any_below, count_below}
use Rattle.finite.proofs.Truth.{Truth, is_true, is_false, true-or-false, clash, both, and_both, and_left, and_right, not-true, same_truth}
use Rattle.finite.proofs.Search.{any_found, any_here, any_none, none_any}
use Rattle.finite.proofs.Count.{count-equal}
use Rattle.finite.proofs.Digits.{number-below, bit-number, bits-equal, bit-none}
use Rattle.gf2.specs.Xor.{pick}
use Rattle.gf2.specs.Sum.{chosen_sum}
use Rattle.gf2.specs.Independence.{Within}
use Rattle.gf2.specs.Sparse.{Apart, IndependentUpTo, set_of, apart, free_up_to}
use Rattle.gf2.proofs.Sum.{sum-equal}

-- of a Bool that is not false
yes-not : (a : Bool) → (a ≡ true → ⊥) → not a ≡ true
yes-not true h = absurd (h refl)
yes-not false h = refl

none_of : (a : Bool) → not a ≡ true → a ≡ true → ⊥
none_of true e t = clash e refl
none_of false e t = clash t refl

module _ (t n : ℕ) (member : ℕ → Bool) where
  -- a choice of few members, by its number
  module _ (m : ℕ → Bool) (w : Within m member) (l : count_below n m ≤ t) where
    abbrev x : ℕ
    x = number_of n m

    digit : (k : ℕ) → k < n → bit x k ≡ m k
    digit k lk = bit-number n m k lk

    pub chosen-set : set_of t n member x ≡ true
    unfolding set_of
    chosen-set =
        let e : count_below n (bit x) ≡ count_below n m = count-equal n (bit x) m digit in
        and_both (leb (count_below n (bit x)) t) (not (any_below n (λ k. bit x k && not (member k)))) (le-leb (count_below n (bit x)) t (omega arith))
        (ap not (none_any n (λ k. bit x k && not (member k)) (λ k lk. none k lk (true-or-false (m k)))))
      where
        none : (k : ℕ) → k < n → Truth (m k) → (bit x k && not (member k)) ≡ false
        none k lk (is_true e) = ap₂ ◌&&◌ (digit k lk ∙ e) (ap not (w k e))
        none k lk (is_false e) = ap (λ (b : Bool). b && not (member k)) (digit k lk ∙ e)

    pub chosen-number-sum : (f : ℕ → ℕ) → chosen_sum n (bit x) f ≡ chosen_sum n m f
    chosen-number-sum f = sum-equal n (λ k. pick (bit x k) (f k)) (λ k. pick (m k) (f k)) (λ k lk. ap (λ (b : Bool). pick b (f k)) (digit k lk))

  -- and a number of a set as a choice: its digits below n
  module _ (x : ℕ) (s : set_of t n member x ≡ true) where
    pub digits : ℕ → Bool
    digits k = ltb k n && bit x k

    pub digits-below : (k : ℕ) → k < n → digits k ≡ bit x k
    unfolding digits
    digits-below k l = ap (λ (b : Bool). b && bit x k) (lt-ltb k n l)

    pub digits-within : Within digits member
    unfolding digits set_of
    digits-within k e =
        let l : k < n = ltb-true k n (and_left (ltb k n) (bit x k) e) in
        let b = and_right (ltb k n) (bit x k) e in
        let none = any_none n (λ k. bit x k && not (member k))
        (not-true (any_below n (λ k. bit x k && not (member k)))
        (none_of (any_below n (λ k. bit x k && not (member k)))
        (and_right (leb (count_below n (bit x)) t) (not (any_below n (λ k. bit x k && not (member k)))) s))) in
        go (true-or-false (member k)) b (none k l)
      where
        go : Truth (member k) → bit x k ≡ true → (bit x k && not (member k)) ≡ false → member k ≡ true
        go (is_true q) b z = q
        go (is_false q) b z = clash (and_both (bit x k) (not (member k)) b (ap not q)) z

    pub digits-few : count_below n digits ≤ t
    unfolding set_of
    digits-few =
        let e : count_below n digits ≡ count_below n (bit x) = count-equal n digits (bit x) digits-below in
        let l : count_below n (bit x) ≤ t =
        leb-true (count_below n (bit x)) t (and_left (leb (count_below n (bit x)) t) (not (any_below n (λ k. bit x k && not (member k)))) s) in
        omega arith

    pub digits_sum : (f : ℕ → ℕ) → chosen_sum n digits f ≡ chosen_sum n (bit x) f
    digits_sum f = sum-equal n (λ k. pick (digits k) (f k)) (λ k. pick (bit x k) (f k)) (λ k lk. ap (λ (b : Bool). pick b (f k)) (digits-below k lk))

module _ (t n : ℕ) (member member' : ℕ → Bool) (f : ℕ → ℕ) where
  -- the sets with numbers x and y are different, and have the same sum
  bad : ℕ → ℕ → Bool
  bad x y = (set_of t n member x && set_of t n member' y) && (not (eqb x y) && eqb (chosen_sum n (bit x) f) (chosen_sum n (bit y) f))

  pub apart-apart : apart t n member member' f ≡ true → Apart t n member member' f
  unfolding apart bad
  apart-apart e m m' w w' l l' s k lk = go (ℕ_discrete (number_of n m) (number_of n m'))
    where
      go : Dec (number_of n m ≡ number_of n m') → m k ≡ m' k
      go (yes q) = sym (bit-number n m k lk) ∙ ap (λ (z : ℕ). bit z k) q ∙ bit-number n m' k lk
      go (no q) =
          let x = number_of n m in
          let y = number_of n m' in
          absurd
          (none_of (any_below (2 ^ n) (λ x. any_below (2 ^ n) (bad x))) e
          (any_here (2 ^ n) (λ x. any_below (2 ^ n) (bad x)) x (number-below n m)
          (any_here (2 ^ n) (bad x) y (number-below n m')
          (and_both (set_of t n member x && set_of t n member' y) (not (eqb x y) && eqb (chosen_sum n (bit x) f) (chosen_sum n (bit y) f))
          (and_both (set_of t n member x) (set_of t n member' y) (chosen-set t n member m w l) (chosen-set t n member' m' w' l'))
          (and_both (not (eqb x y)) (eqb (chosen_sum n (bit x) f) (chosen_sum n (bit y) f)) (ap not (ne_eqb x y q))
          (eq-eqb (chosen_sum n (bit x) f) (chosen_sum n (bit y) f)
          (chosen-number-sum t n member m w l f ∙ s ∙ sym (chosen-number-sum t n member' m' w' l' f))))))))

  pub so-apart : Apart t n member member' f → apart t n member member' f ≡ true
  unfolding apart bad
  so-apart A = yes-not (any_below (2 ^ n) (λ x. any_below (2 ^ n) (bad x))) no
    where
      no : any_below (2 ^ n) (λ x. any_below (2 ^ n) (bad x)) ≡ true → ⊥
      no a =
          let w = any_found (2 ^ n) (λ x. any_below (2 ^ n) (bad x)) a in
          let v = any_found (2 ^ n) (bad w.0) w.2 in
          differ w.0 v.0 w.1 v.1 v.2
        where
          differ : (x y : ℕ) → x < 2 ^ n → y < 2 ^ n → bad x y ≡ true → ⊥
          differ x y lx ly b =
              let p = both (set_of t n member x && set_of t n member' y) (not (eqb x y) && eqb (chosen_sum n (bit x) f) (chosen_sum n (bit y) f)) b in
              let s = both (set_of t n member x) (set_of t n member' y) p.0 in
              let r = both (not (eqb x y)) (eqb (chosen_sum n (bit x) f) (chosen_sum n (bit y) f)) p.1 in
              none_of (eqb x y) r.0
              (eq-eqb x y
              (bits-equal n x y lx ly
              (λ k l. sym (digits-below t n member x s.0 k l)
              ∙ A (digits t n member x s.0) (digits t n member' y s.1) (digits-within t n member x s.0) (digits-within t n member' y s.1)
              (digits-few t n member x s.0) (digits-few t n member' y s.1)
              (digits_sum t n member x s.0 f ∙ eqb-true (chosen_sum n (bit x) f) (chosen_sum n (bit y) f) r.1 ∙ sym (digits_sum t n member' y s.1 f)) k l
              ∙ digits-below t n member' y s.1 k l)))

module _ (t n : ℕ) (member : ℕ → Bool) (f : ℕ → ℕ) where
  -- the set with number x is not empty, and has exclusive-or 0
  null : ℕ → Bool
  null x = set_of t n member x && (not (eqb x 0) && eqb (chosen_sum n (bit x) f) 0)

  pub free-up-to : free_up_to t n member f ≡ true → IndependentUpTo t n member f
  unfolding free_up_to null
  free-up-to e m w l s k lk = go (ℕ_discrete (number_of n m) 0)
    where
      go : Dec (number_of n m ≡ 0) → m k ≡ false
      go (yes q) = sym (bit-number n m k lk) ∙ ap (λ (z : ℕ). bit z k) q ∙ bit-none k
      go (no q) =
          let x = number_of n m in
          absurd
          (none_of (any_below (2 ^ n) null) e
          (any_here (2 ^ n) null x (number-below n m)
          (and_both (set_of t n member x) (not (eqb x 0) && eqb (chosen_sum n (bit x) f) 0) (chosen-set t n member m w l)
          (and_both (not (eqb x 0)) (eqb (chosen_sum n (bit x) f) 0) (ap not (ne_eqb x 0 q))
          (eq-eqb (chosen_sum n (bit x) f) 0 (chosen-number-sum t n member m w l f ∙ s))))))

  pub so-free : IndependentUpTo t n member f → free_up_to t n member f ≡ true
  unfolding free_up_to null
  so-free I = yes-not (any_below (2 ^ n) null) (λ a. let w = any_found (2 ^ n) null a in empty w.0 w.1 w.2)
    where
      empty : (x : ℕ) → x < 2 ^ n → null x ≡ true → ⊥
      empty x lx b =
          let p = both (set_of t n member x) (not (eqb x 0) && eqb (chosen_sum n (bit x) f) 0) b in
          let r = both (not (eqb x 0)) (eqb (chosen_sum n (bit x) f) 0) p.1 in
          none_of (eqb x 0) r.0
          (eq-eqb x 0
          (bits-equal n x 0 lx (pow_pos n)
          (λ k l. sym (digits-below t n member x p.0 k l)
          ∙ I (digits t n member x p.0) (digits-within t n member x p.0) (digits-few t n member x p.0)
          (digits_sum t n member x p.0 f ∙ eqb-true (chosen_sum n (bit x) f) 0 r.1) k l
          ∙ sym (bit-none k))))

-- equal values have the same sums
chosen-equal : (n : ℕ) (m : ℕ → Bool) (f g : ℕ → ℕ) → ((k : ℕ) → k < n → f k ≡ g k) → chosen_sum n m f ≡ chosen_sum n m g
chosen-equal n m f g h = sum-equal n (λ k. pick (m k) (f k)) (λ k. pick (m k) (g k)) (λ k l. ap (pick (m k)) (h k l))

pub apart-equal :
    (t n : ℕ) (member member' : ℕ → Bool) (f g : ℕ → ℕ) → ((k : ℕ) → k < n → f k ≡ g k) → apart t n member member' f ≡ apart t n member member' g
apart-equal t n member member' f g h =
    same_truth (apart t n member member' f) (apart t n member member' g) (λ e. so-apart t n member member' g (to f g h (apart-apart t n member member' f e)))
    (λ e. so-apart t n member member' f (to g f (λ k l. sym (h k l)) (apart-apart t n member member' g e)))
  where
    to : (f g : ℕ → ℕ) → ((k : ℕ) → k < n → f k ≡ g k) → Apart t n member member' f → Apart t n member member' g
    to f g h A m m' w w' l l' s = A m m' w w' l l' (chosen-equal n m f g h ∙ s ∙ sym (chosen-equal n m' f g h))

pub free-equal :
    (t n : ℕ) (member : ℕ → Bool) (f g : ℕ → ℕ) → ((k : ℕ) → k < n → f k ≡ g k) → free_up_to t n member f ≡ free_up_to t n member g
free-equal t n member f g h =
    same_truth (free_up_to t n member f) (free_up_to t n member g) (λ e. so-free t n member g (to f g h (free-up-to t n member f e)))
    (λ e. so-free t n member f (to g f (λ k l. sym (h k l)) (free-up-to t n member g e)))
  where
    to : (f g : ℕ → ℕ) → ((k : ℕ) → k < n → f k ≡ g k) → IndependentUpTo t n member f → IndependentUpTo t n member g
    to f g h I m w l s = I m w l (chosen-equal n m f g h ∙ s)
