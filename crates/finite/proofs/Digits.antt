-- A number by its binary digits, and the places of remainders:
--
--   bit-zero, bit-suc    the lowest digit, and the digits above it
--   bit-none, bit-power  the digits of 0 and of a power of two
--   number_of n p     the number below 2 to the power n whose digit k is p k
--   number-equal, number-below, bit-number, bits-equal    its laws: equal digits, below the bound, the digits, and a number is known by its digits
--   place-from, place-to, place-mod, place_is   place b a r stands among the b numbers from a on and has remainder r,
--                    and every number there is the place of its remainder (place-unique: no two have the same)
--
-- Assumes nothing.
use mathlib.Core.Path.{◌≡◌, refl, sym, ap, ap₂, ◌∙◌}
use mathlib.Core.Bool.{Bool, true, false, cond}
use Prim.Native.Nat.{ℕ, zero, suc, ◌+◌, ◌-◌, ◌*◌, ◌/◌, ◌%◌, ◌^◌, ◌≤◌, ◌<◌}
use native.Mathlib.Nat.{mod-lt, mod-eq_of_lt, add-mod-mod, add-mul-mod_self_right, div-add-mod', mul-le-mul_right, suc-mul, pow-succ'}
use native.Mathlib.Nat.{div-div-eq-div-mul, zero-lt-suc, zero-div, div-one}
use native.Mathlib.Decide.{ℕ_discrete, dec_lt}
use native.Mathlib.Omega.{arith}
use borrow.Author.Tests.{eq-eqb, ne_eqb}
use lib.Dec.{eqb}
use Rattle.finite.specs.Search.{bit, number_of, place}
use Rattle.finite.proofs.Truth.{clash}

-- ---- digits

pub bit-zero : (x : ℕ) → bit x 0 ≡ eqb (x % 2) 1
unfolding bit
bit-zero x = ap (λ (y : ℕ). eqb (y % 2) 1) (div-one x)

pub bit-suc : (x k : ℕ) → bit x (suc k) ≡ bit (x / 2) k
unfolding bit
bit-suc x k = ap (λ (y : ℕ). eqb (y % 2) 1) (ap (λ (z : ℕ). x / z) (pow-succ' 2 k) ∙ sym (div-div-eq-div-mul x 2 (2 ^ k)))

pub bit-none : (k : ℕ) → bit 0 k ≡ false
unfolding bit
bit-none k = ap (λ (x : ℕ). eqb (x % 2) 1) (zero-div (2 ^ k))

bit-same : (a : ℕ) → bit (2 ^ a) a ≡ true
bit-same zero = bit-zero 1
bit-same (suc a) =
    bit-suc (2 ^ suc a) a
    ∙ ap (λ (x : ℕ). bit x a) (let e : 2 ^ suc a ≡ 2 * 2 ^ a = pow-succ' 2 a in let r : 2 ^ suc a / 2 ≡ 2 ^ a = omega arith in r)
    ∙ bit-same a

bit-other : (a k : ℕ) → (a ≡ k → ⊥) → bit (2 ^ a) k ≡ false
bit-other zero zero h = absurd (h refl)
bit-other zero (suc k) h = bit-suc 1 k ∙ bit-none k
bit-other (suc a) zero h =
    bit-zero (2 ^ suc a)
    ∙ ap (λ (x : ℕ). eqb x 1) (let e : 2 ^ suc a ≡ 2 * 2 ^ a = pow-succ' 2 a in let r : 2 ^ suc a % 2 ≡ 0 = omega arith in r)
bit-other (suc a) (suc k) h =
    bit-suc (2 ^ suc a) k
    ∙ ap (λ (x : ℕ). bit x k) (let e : 2 ^ suc a ≡ 2 * 2 ^ a = pow-succ' 2 a in let r : 2 ^ suc a / 2 ≡ 2 ^ a = omega arith in r)
    ∙ bit-other a k (λ e. h (ap suc e))

pub bit-power : (a k : ℕ) → bit (2 ^ a) k ≡ eqb a k
bit-power a k = go (ℕ_discrete a k)
  where
    go : Dec (a ≡ k) → bit (2 ^ a) k ≡ eqb a k
    go (yes e) = ap (λ (x : ℕ). bit (2 ^ a) x) (sym e) ∙ bit-same a ∙ sym (eq-eqb a k e)
    go (no h) = bit-other a k h ∙ sym (ne_eqb a k h)

pub number-equal : (n : ℕ) (p q : ℕ → Bool) → ((k : ℕ) → k < n → p k ≡ q k) → number_of n p ≡ number_of n q
unfolding number_of
number-equal zero p q h = refl
number-equal (suc n) p q h =
    ap₂ (λ (b : Bool) (x : ℕ). cond b 1 0 + 2 * x) (h 0 (zero-lt-suc n)) (number-equal n (λ k. p (suc k)) (λ k. q (suc k)) (λ k l. h (suc k) (omega arith)))

pub number-below : (n : ℕ) (p : ℕ → Bool) → number_of n p < 2 ^ n
unfolding number_of
number-below zero p = omega arith
number-below (suc n) p = go (p 0) (number-below n (λ k. p (suc k)))
  where
    go : (b : Bool) → number_of n (λ k. p (suc k)) < 2 ^ n → cond b 1 0 + 2 * number_of n (λ k. p (suc k)) < 2 ^ suc n
    go true h = rw pow-succ' (omega arith)
    go false h = rw pow-succ' (omega arith)

pub bit-number : (n : ℕ) (p : ℕ → Bool) (k : ℕ) → k < n → bit (number_of n p) k ≡ p k
unfolding number_of
bit-number zero p k l = absurd (omega arith)
bit-number (suc n) p zero l = bit-zero (number_of (suc n) p) ∙ go (p 0)
  where
    go : (b : Bool) → eqb ((cond b 1 0 + 2 * number_of n (λ k. p (suc k))) % 2) 1 ≡ b
    go true = ap (λ (x : ℕ). eqb x 1) (let e : (1 + 2 * number_of n (λ k. p (suc k))) % 2 ≡ 1 = omega arith in e)
    go false = ap (λ (x : ℕ). eqb x 1) (let e : (0 + 2 * number_of n (λ k. p (suc k))) % 2 ≡ 0 = omega arith in e)
bit-number (suc n) p (suc k) l =
    bit-suc (number_of (suc n) p) k ∙ ap (λ (x : ℕ). bit x k) (go (p 0)) ∙ bit-number n (λ i. p (suc i)) k (omega arith)
  where
    go : (b : Bool) → (cond b 1 0 + 2 * number_of n (λ k. p (suc k))) / 2 ≡ number_of n (λ k. p (suc k))
    go true = omega arith
    go false = omega arith

-- the lowest digit says what the remainder is
odd-equal : (x y : ℕ) → bit x 0 ≡ bit y 0 → x % 2 ≡ y % 2
odd-equal x y e = go (x % 2) (y % 2) (mod-lt x (zero-lt-suc 1)) (mod-lt y (zero-lt-suc 1)) (sym (bit-zero x) ∙ e ∙ bit-zero y)
  where
    go : (a b : ℕ) → a < 2 → b < 2 → eqb a 1 ≡ eqb b 1 → a ≡ b
    go zero zero la lb q = refl
    go zero (suc zero) la lb q = clash q refl
    go zero (suc (suc b)) la lb q = absurd (omega arith)
    go (suc zero) zero la lb q = clash refl q
    go (suc zero) (suc zero) la lb q = refl
    go (suc zero) (suc (suc b)) la lb q = absurd (omega arith)
    go (suc (suc a)) b la lb q = absurd (omega arith)

pub bits-equal : (n x y : ℕ) → x < 2 ^ n → y < 2 ^ n → ((k : ℕ) → k < n → bit x k ≡ bit y k) → x ≡ y
bits-equal zero x y lx ly h = omega arith
bits-equal (suc n) x y lx ly h =
    let e : 2 ^ suc n ≡ 2 * 2 ^ n = pow-succ' 2 n in
    let low : x % 2 ≡ y % 2 = odd-equal x y (h 0 (zero-lt-suc n)) in
    let high : x / 2 ≡ y / 2 = bits-equal n (x / 2) (y / 2) (omega arith) (omega arith) (λ k l. sym (bit-suc x k) ∙ h (suc k) (omega arith) ∙ bit-suc y k) in
    omega arith

-- ---- the place of a remainder

module _ (b a : ℕ) (bp : 0 < b) where
  pub place-from : (r : ℕ) → a ≤ place b a r
  unfolding place
  place-from r = omega arith

  pub place-to : (r : ℕ) → place b a r < a + b
  unfolding place
  place-to r = let h : (r + (b - a % b)) % b < b = mod-lt (r + (b - a % b)) bp in omega arith

  pub place-mod : (r : ℕ) → r < b → place b a r % b ≡ r
  unfolding place
  place-mod r l =
      add-mod-mod a (r + (b - a % b)) b
      ∙ ap (λ (x : ℕ). x % b) shape
      ∙ add-mul-mod_self_right r (suc (a / b)) b
      ∙ mod-eq_of_lt l
    where
      shape : a + (r + (b - a % b)) ≡ r + suc (a / b) * b
      shape =
          let e : a / b * b + a % b ≡ a = div-add-mod' a b in
          let f : suc (a / b) * b ≡ a / b * b + b = suc-mul (a / b) b in
          let g : a % b < b = mod-lt a bp in
          omega arith

  -- two numbers of the run with the same remainder are one
  same_place : (x y : ℕ) → a ≤ x → y < a + b → x % b ≡ y % b → y / b ≤ x / b
  same_place x y fx ty e = go (dec_lt (x / b) (y / b))
    where
      go : Dec (x / b < y / b) → y / b ≤ x / b
      go (yes l) =
          let m : suc (x / b) * b ≤ y / b * b = mul-le-mul_right b l in
          let f : suc (x / b) * b ≡ x / b * b + b = suc-mul (x / b) b in
          let ex : x / b * b + x % b ≡ x = div-add-mod' x b in
          let ey : y / b * b + y % b ≡ y = div-add-mod' y b in
          omega arith
      go (no l) = omega arith

  pub place-unique : (x y : ℕ) → a ≤ x → x < a + b → a ≤ y → y < a + b → x % b ≡ y % b → x ≡ y
  place-unique x y fx tx fy ty e =
      let u : y / b ≤ x / b = same_place x y fx ty e in
      let v : x / b ≤ y / b = same_place y x fy tx (sym e) in
      let q : x / b ≡ y / b = omega arith in
      sym (div-add-mod' x b) ∙ ap₂ (λ (q r : ℕ). q * b + r) q e ∙ div-add-mod' y b

  pub place_is : (x : ℕ) → a ≤ x → x < a + b → place b a (x % b) ≡ x
  place_is x f t =
      place-unique (place b a (x % b)) x (place-from (x % b)) (place-to (x % b)) f t (place-mod (x % b) (mod-lt x bp))
