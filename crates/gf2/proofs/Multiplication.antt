-- Multiplication by z is linear, and injective where the polynomial has constant term 1.
--
--   times-linear, times-injective   so it keeps independence
--   Stepped p ws      each word of ws is z times the one before, and p has constant term 1
--   break-le          a break is not past the last word
--   powers-stepped    what is recognised is so
--   Degree d p        the polynomial p has degree d
--   polynomial-degree, times_below, power_below   z times a number of d digits, and each power of z, has d digits
--
-- Assumes nothing.
use mathlib.Core.Path.{◌≡◌, sym, ap, ◌∙◌}
use mathlib.Core.Bool.{Bool, true, false, ◌||◌, not, or-false}
use mathlib.Core.List.{List}
use Prim.Native.Nat.{ℕ, zero, suc, ◌+◌, ◌-◌, ◌*◌, ◌%◌, ◌^◌, ◌≤◌, ◌<◌, min}
use native.Mathlib.Decide.{dec_le}
use native.Mathlib.Numerals.{add-one}
use native.Mathlib.Omega.{arith}
use borrow.Author.Tests.{eqb-true, eq-eqb, ne_eqb, leb-true, not-false}
use lib.Bits as bits
use lib.Bits.{bit_xor}
use lib.Dec.{eqb, leb}
use lib.ListN.{length, get_or}
use lib.Pow.{pow_mono}
use Rattle.finite.proofs.Search.{least-le, least_first}
use Rattle.finite.proofs.Truth.{both, same_truth}
use Rattle.gf2.specs.Xor.{◌⊕◌}
use Rattle.gf2.specs.Powers.{times_z, polynomial, power, breaks_at, first_break, modulus_of, are_powers}
use Rattle.gf2.proofs.Xor.{xor-cancel}
use Rattle.gf2.proofs.Linear.{Linear}
use Rattle.gf2.proofs.Swept.{min-xor, min-zero}
use Rattle.gf2.proofs.Triangle.{pow-double, xor-clears}

-- twice an exclusive-or
twice-xor : (x y : ℕ) → 2 * (x ⊕ y) ≡ 2 * x ⊕ 2 * y
unfolding ◌⊕◌
twice-xor x y =
    let e = bits.xor_block 1 x y 0 0 (omega arith) (omega arith) in
    let a : x * 2 ^ 1 + 0 ≡ 2 * x = omega arith in
    let b : y * 2 ^ 1 + 0 ≡ 2 * y = omega arith in
    let c : bit_xor x y * 2 ^ 1 + bit_xor 0 0 ≡ 2 * bit_xor x y = omega (arith, bits.xor_self 0) in
    sym (rw (a, b, c) at e)

pub times-linear : (p : ℕ) → Linear (times_z p)
unfolding times_z
times-linear p x y = rw (twice-xor x y) (min-xor p (2 * x) (2 * y))

-- an even number is not p
pub times-injective : (p : ℕ) → p % 2 ≡ 1 → (x : ℕ) → eqb (times_z p x) 0 ≡ eqb x 0
unfolding times_z
times-injective p odd x =
    min-zero (2 * x) (2 * x ⊕ p) ∙ ap (λ (b : Bool). eqb (2 * x) 0 || b) (ne_eqb (2 * x ⊕ p) 0 (λ e. even (xor-cancel (2 * x) p e)))
    ∙ or-false (eqb (2 * x) 0)
    ∙ same_truth (eqb (2 * x) 0) (eqb x 0) (λ e. eq-eqb x 0 (omega (arith, eqb-true (2 * x) 0 e))) (λ e. eq-eqb (2 * x) 0 (omega (arith, eqb-true x 0 e)))
  where
    even : 2 * x ≡ p → ⊥
    even e = omega arith

pub record Stepped (p : ℕ) (ws : List ℕ) : Type 0 where
  pub odd : p % 2 ≡ 1
  pub step : (k : ℕ) → suc k < length ws → get_or ws (suc k) 0 ≡ times_z p (get_or ws k 0)

pub break-le : (p : ℕ) (ws : List ℕ) → first_break p ws ≤ length ws - 1
unfolding first_break
break-le p ws = least-le (length ws - 1) (breaks_at p ws)

pub powers-stepped : (ws : List ℕ) → are_powers ws ≡ true → Stepped (modulus_of ws) ws
unfolding are_powers
powers-stepped ws e =
    let b = both (eqb (modulus_of ws % 2) 1) (leb (length ws) (first_break (modulus_of ws) ws + 1)) e in
    let l = leb-true (length ws) (first_break (modulus_of ws) ws + 1) b.1 in
    record { odd = eqb-true (modulus_of ws % 2) 1 b.0; step = λ k u. at k u (unbroken k (omega arith)) }
  where
    unbroken : (k : ℕ) → k < first_break (modulus_of ws) ws → breaks_at (modulus_of ws) ws k ≡ false
    unbroken k u = unfold first_break in least_first (length ws - 1) (breaks_at (modulus_of ws) ws) k (unfold first_break in u)

    at : (k : ℕ) → suc k < length ws → breaks_at (modulus_of ws) ws k ≡ false → get_or ws (suc k) 0 ≡ times_z (modulus_of ws) (get_or ws k 0)
    at k u h =
        let x = times_z (modulus_of ws) (get_or ws k 0) in
        let e : not (eqb x (get_or ws (k + 1) 0)) ≡ false = unfold breaks_at in h in
        sym (eqb-true x (get_or ws (suc k) 0) (rw (add-one k) at (not-false (eqb x (get_or ws (k + 1) 0)) e)))

-- a polynomial of degree d
pub record Degree (d p : ℕ) : Type 0 where
  pub least : 2 ^ d ≤ p
  pub below : p < 2 ^ suc d

pub polynomial-degree : (d low : ℕ) → low < 2 ^ d → Degree d (polynomial d low)
unfolding polynomial
polynomial-degree d low l = record { least = omega arith; below = omega (arith, pow-double d) }

pub times_below : (d p x : ℕ) → Degree d p → x < 2 ^ d → times_z p x < 2 ^ d
unfolding times_z
times_below d p x D l = go (dec_le (2 ^ d) (2 * x))
  where
    go : Dec (2 ^ d ≤ 2 * x) → min (2 * x) (2 * x ⊕ p) < 2 ^ d
    go (yes m) = let u = xor-clears d (2 * x) p m (omega (arith, pow-double d)) D.least D.below in omega arith
    go (no m) = omega arith

pub power_below : (d p : ℕ) → 1 ≤ d → Degree d p → (k : ℕ) → power p k < 2 ^ d
unfolding power
power_below d p l D zero = pow_mono l
power_below d p l D (suc k) = times_below d p (power p k) D (power_below d p l D k)
