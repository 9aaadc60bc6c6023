-- Small laws of truth values:
--
--   and_left, and_right, and_both   a conjunction is true exactly where both parts are
--   and-true, and-false, and_comm   a conjunction with a known second part; its parts exchanged
--   or_cases, or_left, or_right     a disjunction is true exactly where one part is
--   or-false                        and false where both are
--   or-none, or_assoc               a disjunction with false; three parts in one
--   same_truth                      two values are equal if each is true where the other is
--   both, either                    a true conjunction and a true disjunction taken apart
--   true-or-false                   every value is one or the other, with the equation
--   clash, never                    no value is both
--   xor-equal, xor-none, xor-dark, xor-light, xor_self, xor-back, xor_comm, xor_assoc   differences of truth values
--   eqb_comm                                  a test of two numbers, exchanged
--   both_equal, equal-both                    two equations as one test
--   within-from, within-to, in_within         the numbers of a run
--
-- Assumes nothing.
use mathlib.Core.Path.{◌≡◌, refl, sym, ◌∙◌}
use mathlib.Core.Bool.{Bool, true, false, not, ◌&&◌, ◌||◌, xor, true≢false}
use mathlib.Core.Logic.{◌⊎◌, inl, inr}
use Prim.Native.Nat.{ℕ, ◌+◌, ◌≤◌, ◌<◌}
use lib.Dec.{leb, ltb, eqb}
use borrow.Author.Tests.{leb-true, ltb-true, eqb-true, le-leb, lt-ltb, eq-eqb}
use Rattle.finite.specs.Search.{within}

-- a truth value, with its equation, to split on
pub data Truth (b : Bool) : Type 0 where
  is_true : b ≡ true → Truth b
  is_false : b ≡ false → Truth b

pub true-or-false : (b : Bool) → Truth b
true-or-false true = is_true refl
true-or-false false = is_false refl

pub clash {ℓ} : {A : Type ℓ} {b : Bool} → b ≡ true → b ≡ false → A
clash p q = absurd (true≢false (sym p ∙ q))

-- true and false are different
pub never : (b : Bool) → b ≡ true → b ≡ false → ⊥
never b p q = clash p q

pub both : (a b : Bool) → (a && b) ≡ true → (a ≡ true) × (b ≡ true)
both true b e = (refl, e)
both false b e = clash e refl

pub either : (a b : Bool) → (a || b) ≡ true → (a ≡ true) ⊎ (b ≡ true)
either true b e = inl refl
either false b e = inr e

pub and_left : (a b : Bool) → (a && b) ≡ true → a ≡ true
and_left true b e = refl
and_left false b e = e

pub and_right : (a b : Bool) → (a && b) ≡ true → b ≡ true
and_right true b e = e
and_right false b e = clash e refl

pub and_both : (a b : Bool) → a ≡ true → b ≡ true → (a && b) ≡ true
and_both true b p q = q
and_both false b p q = p

pub and_comm : (a b : Bool) → (a && b) ≡ (b && a)
and_comm true true = refl
and_comm true false = refl
and_comm false true = refl
and_comm false false = refl

pub and-true : (a : Bool) → (a && true) ≡ a
and-true true = refl
and-true false = refl

pub and-false : (a : Bool) → (a && false) ≡ false
and-false true = refl
and-false false = refl

pub or_left : (a b : Bool) → a ≡ true → (a || b) ≡ true
or_left true b p = refl
or_left false b p = clash p refl

pub or_right : (a b : Bool) → b ≡ true → (a || b) ≡ true
or_right true b p = refl
or_right false b p = p

pub or_cases {ℓ} : {A : Type ℓ} (a b : Bool) → (a || b) ≡ true → (a ≡ true → A) → (b ≡ true → A) → A
or_cases true b e f g = f refl
or_cases false b e f g = g e

-- a disjunction that is false: both parts are
pub or-false : (a b : Bool) → (a || b) ≡ false → (a ≡ false) × (b ≡ false)
or-false true b e = clash refl e
or-false false b e = (refl, e)

pub not-true : (a : Bool) → (a ≡ true → ⊥) → a ≡ false
not-true true h = absurd (h refl)
not-true false h = refl

pub same_truth : (a b : Bool) → (a ≡ true → b ≡ true) → (b ≡ true → a ≡ true) → a ≡ b
same_truth true b f g = sym (f refl)
same_truth false true f g = g refl
same_truth false false f g = refl

pub or-none : (a : Bool) → (a || false) ≡ a
or-none true = refl
or-none false = refl

pub or_assoc : (a b c : Bool) → ((a || b) || c) ≡ (a || (b || c))
or_assoc true b c = refl
or_assoc false b c = refl

pub eqb_comm : (x y : ℕ) → eqb x y ≡ eqb y x
eqb_comm x y = same_truth (eqb x y) (eqb y x) (λ e. eq-eqb y x (sym (eqb-true x y e))) (λ e. eq-eqb x y (sym (eqb-true y x e)))

pub xor-equal : (a b : Bool) → xor a b ≡ false → a ≡ b
unfolding xor
xor-equal true true e = refl
xor-equal true false e = e
xor-equal false true e = sym e
xor-equal false false e = refl

pub xor-none : (a : Bool) → xor a false ≡ a
unfolding xor
xor-none true = refl
xor-none false = refl

pub xor-dark : (a : Bool) → xor a true ≡ not a
unfolding xor
xor-dark true = refl
xor-dark false = refl

pub xor-light : (a : Bool) → xor false a ≡ a
unfolding xor
xor-light true = refl
xor-light false = refl

pub xor_self : (a : Bool) → xor a a ≡ false
unfolding xor
xor_self true = refl
xor_self false = refl

pub xor-back : (a b : Bool) → xor (xor a b) b ≡ a
unfolding xor
xor-back true true = refl
xor-back true false = refl
xor-back false true = refl
xor-back false false = refl

pub xor_comm : (a b : Bool) → xor a b ≡ xor b a
unfolding xor
xor_comm true true = refl
xor_comm true false = refl
xor_comm false true = refl
xor_comm false false = refl

pub xor_assoc : (a b c : Bool) → xor (xor a b) c ≡ xor a (xor b c)
unfolding xor
xor_assoc true true true = refl
xor_assoc true true false = refl
xor_assoc true false true = refl
xor_assoc true false false = refl
xor_assoc false true true = refl
xor_assoc false true false = refl
xor_assoc false false true = refl
xor_assoc false false false = refl

pub xor-cases {ℓ} : {A : Type ℓ} (a b : Bool) → xor a b ≡ true → (a ≡ true → A) → (b ≡ true → A) → A
unfolding xor
xor-cases true b e f g = f refl
xor-cases false true e f g = g refl
xor-cases false false e f g = clash e refl

pub within-from : (a m x : ℕ) → within a m x ≡ true → a ≤ x
unfolding within
within-from a m x e = leb-true a x (and_left (leb a x) (ltb x (a + m)) e)

pub within-to : (a m x : ℕ) → within a m x ≡ true → x < a + m
unfolding within
within-to a m x e = ltb-true x (a + m) (and_right (leb a x) (ltb x (a + m)) e)

pub in_within : (a m x : ℕ) → a ≤ x → x < a + m → within a m x ≡ true
unfolding within
in_within a m x f t = and_both (leb a x) (ltb x (a + m)) (le-leb a x f) (lt-ltb x (a + m) t)

-- two equations as one test
pub both_equal : (a b v h : ℕ) → (eqb a v && eqb b h) ≡ true → (a ≡ v) × (b ≡ h)
both_equal a b v h t = (eqb-true a v (and_left (eqb a v) (eqb b h) t), eqb-true b h (and_right (eqb a v) (eqb b h) t))

pub equal-both : (a b v h : ℕ) → a ≡ v → b ≡ h → (eqb a v && eqb b h) ≡ true
equal-both a b v h p q = and_both (eqb a v) (eqb b h) (eq-eqb a v p) (eq-eqb b h q)
