-- Laws of counts, and the two ways between the places at which p holds and their numbers:
--
--   count-equal, count_none, count-or, count-single, count-not, count-le    counts of related predicates
--   count-split, count-run   counts over a + b places, and of a predicate that holds in a run only
--   count-turned     the last m of n places counted downward, and those before them
--   count-more       what holds more often counts more
--   count-rise       counts rise past a place at which p holds
--   select n p d     the place below n at which p holds and which has d such places before it
--   select-count     the place with number (count_below t p) is t
--   few-any, few-most, most-few, few-less   what few says where t is 0 and where it is not; less than a few are few
--   select-below, select-holds, select-number     for d below the count: where the place stands, that p holds, its number
--
-- Assumes nothing.
use mathlib.Core.Path.{◌≡◌, refl, sym, ap, ap₂, ◌∙◌}
use mathlib.Core.Bool.{Bool, true, false, cond, ◌&&◌, ◌||◌, not}
use Prim.Native.Nat.{ℕ, zero, suc, ◌+◌, ◌-◌, ◌≤◌, ◌<◌}
use native.Mathlib.Nat.{lt-suc_self, add-zero, add-suc, add_assoc}
use native.Mathlib.Decide.{ℕ_discrete, dec_lt}
use native.Mathlib.Omega.{arith}
use lib.Dec.{eqb, leb}
use borrow.Author.Tests.{eqb-true, eq-eqb, ne_eqb, leb-true, le-leb}
use Rattle.finite.specs.Search.{count_below, few, least}
use Rattle.finite.proofs.Truth.{Truth, is_true, is_false, true-or-false, and_both, or_left, or_right, or_cases, clash}
use Rattle.finite.proofs.Search.{least-is}

pub count-equal : (n : ℕ) (p q : ℕ → Bool) → ((k : ℕ) → k < n → p k ≡ q k) → count_below n p ≡ count_below n q
unfolding count_below
count-equal zero p q h = refl
count-equal (suc n) p q h =
    ap₂ (λ (x : ℕ) (b : Bool). x + cond b 1 0) (count-equal n p q (λ k l. h k (omega arith))) (h n (lt-suc_self n))

pub count_none : (n : ℕ) (p : ℕ → Bool) → ((k : ℕ) → k < n → p k ≡ false) → count_below n p ≡ 0
unfolding count_below
count_none zero p h = refl
count_none (suc n) p h =
    ap₂ (λ (x : ℕ) (b : Bool). x + cond b 1 0) (count_none n p (λ k l. h k (omega arith))) (h n (lt-suc_self n))

-- of two predicates that never hold together
pub count-or : (n : ℕ) (p q : ℕ → Bool) → ((k : ℕ) → k < n → p k ≡ true → q k ≡ true → ⊥)
    → count_below n (λ k. p k || q k) ≡ count_below n p + count_below n q
unfolding count_below
count-or zero p q h = refl
count-or (suc n) p q h = go (p n) (q n) (h n (lt-suc_self n)) (count-or n p q (λ k l. h k (omega arith)))
  where
    go : (a b : Bool) → (a ≡ true → b ≡ true → ⊥) → count_below n (λ k. p k || q k) ≡ count_below n p + count_below n q
        → count_below n (λ k. p k || q k) + cond (a || b) 1 0 ≡ count_below n p + cond a 1 0 + (count_below n q + cond b 1 0)
    go true true d e = absurd (d refl refl)
    go true false d e = omega arith
    go false true d e = omega arith
    go false false d e = omega arith

pub count-not : (n : ℕ) (p : ℕ → Bool) → count_below n p + count_below n (λ k. not (p k)) ≡ n
unfolding count_below
count-not zero p = refl
count-not (suc n) p = go (p n) (count-not n p)
  where
    go : (b : Bool) → count_below n p + count_below n (λ k. not (p k)) ≡ n
        → count_below n p + cond b 1 0 + (count_below n (λ k. not (p k)) + cond (not b) 1 0) ≡ suc n
    go true e = omega arith
    go false e = omega arith

pub count-single : (n a : ℕ) → a < n → count_below n (λ t. eqb a t) ≡ 1
unfolding count_below
count-single zero a l = absurd (omega arith)
count-single (suc n) a l = go (ℕ_discrete a n) (count-single n a)
  where
    go : Dec (a ≡ n) → (a < n → count_below n (λ t. eqb a t) ≡ 1) → count_below n (λ t. eqb a t) + cond (eqb a n) 1 0 ≡ 1
    go (yes e) ih =
        ap₂ (λ (x : ℕ) (b : Bool). x + cond b 1 0) (count_none n (λ t. eqb a t) (λ k lk. ne_eqb a k (λ q. omega arith))) (eq-eqb a n e)
    go (no ne) ih = ap₂ (λ (x : ℕ) (b : Bool). x + cond b 1 0) (ih (omega arith)) (ne_eqb a n ne)

pub count-le : (n : ℕ) (p : ℕ → Bool) → count_below n p ≤ n
count-le n p = let e : count_below n p + count_below n (λ k. not (p k)) ≡ n = count-not n p in omega arith

pub count-split : (a b : ℕ) (p : ℕ → Bool) → count_below (a + b) p ≡ count_below a p + count_below b (λ k. p (a + k))
unfolding count_below
count-split a zero p = ap (λ (n : ℕ). count_below n p) (add-zero a) ∙ sym (add-zero (count_below a p))
count-split a (suc b) p =
    ap (λ (n : ℕ). count_below n p) (add-suc a b) ∙ ap (λ (x : ℕ). x + cond (p (a + b)) 1 0) (count-split a b p)
    ∙ add_assoc (count_below a p) (count_below b (λ k. p (a + k))) (cond (p (a + b)) 1 0)

pub count-turned : (n m : ℕ) (p : ℕ → Bool) → m ≤ n → count_below m (λ k. p (n - 1 - k)) + count_below (n - m) p ≡ count_below n p
unfolding count_below
count-turned n zero p l =
    let z : n - 0 ≡ n = omega arith in
    let e : count_below (n - 0) p ≡ count_below n p = ap (λ (x : ℕ). count_below x p) z in
    omega arith
count-turned n (suc m) p l = go (n - suc m) (omega arith) (omega arith) (count-turned n m p (omega arith))
  where
    go : (x : ℕ) → n - 1 - m ≡ x → n - m ≡ suc x → count_below m (λ k. p (n - 1 - k)) + count_below (n - m) p ≡ count_below n p
        → count_below m (λ k. p (n - 1 - k)) + cond (p (n - 1 - m)) 1 0 + count_below x p ≡ count_below n p
    go x e f ih =
        let q : count_below (n - m) p ≡ count_below x p + cond (p (n - 1 - m)) 1 0 =
        ap (λ (y : ℕ). count_below y p) f ∙ ap (λ (y : ℕ). count_below x p + cond (p y) 1 0) (sym e) in
        omega arith

-- of a predicate that holds in a run of m numbers only: also by the numbers counted so far
pub count-run : (a m : ℕ) (p : ℕ → Bool) → ((k : ℕ) → p k ≡ true → a ≤ k) → ((k : ℕ) → p k ≡ true → k < a + m) → (n : ℕ)
    → (count_below n p ≤ n - a) × (count_below n p ≤ m)
unfolding count_below
count-run a m p from to zero = omega arith
count-run a m p from to (suc n) = go (p n) refl (count-run a m p from to n)
  where
    go : (b : Bool) → p n ≡ b → (count_below n p ≤ n - a) × (count_below n p ≤ m)
        → (count_below n p + cond b 1 0 ≤ suc n - a) × (count_below n p + cond b 1 0 ≤ m)
    go true e ih =
        let f : a ≤ n = from n e in
        let t : n < a + m = to n e in
        omega arith
    go false e ih = omega arith

pub count-more : (n : ℕ) (p q : ℕ → Bool) → ((k : ℕ) → k < n → p k ≡ true → q k ≡ true) → count_below n p ≤ count_below n q
unfolding count_below
count-more zero p q h = omega arith
count-more (suc n) p q h = go (p n) (q n) (h n (lt-suc_self n)) (count-more n p q (λ k l. h k (omega arith)))
  where
    go : (a b : Bool) → (a ≡ true → b ≡ true) → count_below n p ≤ count_below n q → count_below n p + cond a 1 0 ≤ count_below n q + cond b 1 0
    go true true f l = omega arith
    go true false f l = clash (f refl) refl
    go false true f l = omega arith
    go false false f l = omega arith

-- ---- few

pub few-any : (t n : ℕ) → t ≡ 0 → few t n ≡ true
unfolding few
few-any t n e = or_left (eqb t 0) (leb n t) (eq-eqb t 0 e)

pub most-few : (t n : ℕ) → n ≤ t → few t n ≡ true
unfolding few
most-few t n l = or_right (eqb t 0) (leb n t) (le-leb n t l)

pub few-most : (t n : ℕ) → 1 ≤ t → few t n ≡ true → n ≤ t
unfolding few
few-most t n l f = or_cases (eqb t 0) (leb n t) f (λ e. let z : t ≡ 0 = eqb-true t 0 e in absurd (omega arith)) (λ e. leb-true n t e)

pub few-when : (t n : ℕ) → (1 ≤ t → n ≤ t) → few t n ≡ true
few-when t n h = go (ℕ_discrete t 0)
  where
    go : Dec (t ≡ 0) → few t n ≡ true
    go (yes e) = few-any t n e
    go (no e) = most-few t n (h (omega arith))

pub few-less : (t n m : ℕ) → n ≤ m → few t m ≡ true → few t n ≡ true
few-less t n m l f = few-when t n (λ u. let w : m ≤ t = few-most t m u f in omega arith)

-- counts never fall, and rise past a place at which p holds
pub count-rise : (m n : ℕ) (p : ℕ → Bool) → p m ≡ true → m < n → count_below m p < count_below n p
unfolding count_below
count-rise m zero p e l = absurd (omega arith)
count-rise m (suc n) p e l = go (ℕ_discrete m n) (count-rise m n p e)
  where
    go : Dec (m ≡ n) → (m < n → count_below m p < count_below n p) → count_below m p < count_below n p + cond (p n) 1 0
    go (yes q) ih =
        let a : count_below m p ≡ count_below n p = ap (λ (k : ℕ). count_below k p) q in
        let b : ◌≡◌ {A = ℕ} (cond (p n) 1 0) 1 = ap (λ (b : Bool). cond b 1 0) (ap p (sym q) ∙ e) in
        omega arith
    go (no q) ih = let a : count_below m p < count_below n p = ih (omega arith) in omega arith

-- the place with number d
unfoldable pub select : ℕ → (ℕ → Bool) → ℕ → ℕ
select n p d = least n (λ t. p t && eqb (count_below t p) d)

count-reach : (n : ℕ) (p : ℕ → Bool) (d : ℕ) → d < count_below n p → (t : ℕ) × (t < n) × (p t ≡ true) × (count_below t p ≡ d)
unfolding count_below
count-reach zero p d l = absurd (omega arith)
count-reach (suc n) p d l = go (p n) refl (dec_lt d (count_below n p)) l (count-reach n p d)
  where
    go : (b : Bool) → p n ≡ b → Dec (d < count_below n p) → d < count_below n p + cond b 1 0
        → (d < count_below n p → (t : ℕ) × (t < n) × (p t ≡ true) × (count_below t p ≡ d))
        → (t : ℕ) × (t < suc n) × (p t ≡ true) × (count_below t p ≡ d)
    go b e (yes m) h ih = let w = ih m in (w.0, omega arith, w.2, w.3)
    go true e (no m) h ih = (n, lt-suc_self n, e, omega arith)
    go false e (no m) h ih = absurd (omega arith)

pub select-count : (n : ℕ) (p : ℕ → Bool) (t : ℕ) → t < n → p t ≡ true → select n p (count_below t p) ≡ t
unfolding select
select-count n p t l e =
    least-is n (λ u. p u && eqb (count_below u p) (count_below t p)) t l
    (and_both (p t) (eqb (count_below t p) (count_below t p)) e (eq-eqb (count_below t p) (count_below t p) refl))
    (λ u lu. earlier u lu (true-or-false (p u)))
  where
    earlier : (u : ℕ) → u < t → Truth (p u) → (p u && eqb (count_below u p) (count_below t p)) ≡ false
    earlier u lu (is_false f) = ap (λ (b : Bool). b && eqb (count_below u p) (count_below t p)) f
    earlier u lu (is_true f) =
        let r : count_below u p < count_below t p = count-rise u t p f lu in
        ap₂ ◌&&◌ f (ne_eqb (count_below u p) (count_below t p) (λ q. omega arith))

module _ (n : ℕ) (p : ℕ → Bool) (d : ℕ) (l : d < count_below n p) where
  found : (select n p d < n) × (p (select n p d) ≡ true) × (count_below (select n p d) p ≡ d)
  found =
      let w = count-reach n p d l in
      let e : select n p d ≡ w.0 = ap (λ (x : ℕ). select n p x) (sym w.3) ∙ select-count n p w.0 w.1 w.2 in
      (omega (arith, w.1), ap p e ∙ w.2, ap (λ (t : ℕ). count_below t p) e ∙ w.3)

  pub select-below : select n p d < n
  select-below = found.0

  pub select-holds : p (select n p d) ≡ true
  select-holds = found.1

  pub select-number : count_below (select n p d) p ≡ d
  select-number = found.2
