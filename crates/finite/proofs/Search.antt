-- Laws of the searches of specs/Search.antt:
--
--   least-le, least-found, least_first, least-most, least-is, least-none, least-equal   the first place at which p holds
--   least-last                                                                          with one place more
--   search-finds, search-ends                                                           what a loop that tries them in turn has
--   any_found, any_here, any_none, none_any, any-equal                                  some place at which p holds
--   first-is, first-none, first-equal                                                   the first, or 0
--   past-le, past-above, past-last, past-none, past_equal                               one more than the last, or 0
--
-- Assumes nothing.
use mathlib.Core.Path.{◌≡◌, refl, sym, ap, ap₂, ◌∙◌}
use mathlib.Core.Bool.{Bool, true, false, cond, ◌||◌}
use Prim.Native.Nat.{ℕ, zero, suc, ◌≤◌, ◌<◌}
use native.Mathlib.Nat.{zero-lt-suc, lt-suc_self}
use native.Mathlib.Decide.{ℕ_discrete, dec_lt}
use native.Mathlib.Omega.{arith}
use lib.Dec.{eqb, eqb-zero-suc, eqb-suc-suc}
use Rattle.finite.specs.Search.{least, any_below, first_of, past_of}
use Rattle.finite.proofs.Truth.{clash, not-true, or_left, or_right, or_cases}

pub least-le : (n : ℕ) (p : ℕ → Bool) → least n p ≤ n
unfolding least
least-le zero p = omega arith
least-le (suc n) p = go (p 0) (least-le n (λ k. p (suc k)))
  where
    go : (b : Bool) → least n (λ k. p (suc k)) ≤ n → cond b 0 (suc (least n (λ k. p (suc k)))) ≤ suc n
    go true h = omega arith
    go false h = omega arith

pub least-found : (n : ℕ) (p : ℕ → Bool) → least n p < n → p (least n p) ≡ true
unfolding least
least-found zero p h = absurd (omega arith)
least-found (suc n) p h = go (p 0) refl (least-found n (λ k. p (suc k))) h
  where
    go : (b : Bool) → p 0 ≡ b → (least n (λ k. p (suc k)) < n → p (suc (least n (λ k. p (suc k)))) ≡ true)
        → cond b 0 (suc (least n (λ k. p (suc k)))) < suc n → p (cond b 0 (suc (least n (λ k. p (suc k))))) ≡ true
    go true e ih l = e
    go false e ih l = ih (omega arith)

pub least_first : (n : ℕ) (p : ℕ → Bool) (k : ℕ) → k < least n p → p k ≡ false
unfolding least
least_first zero p k h = absurd (omega arith)
least_first (suc n) p k h = go (p 0) refl k (λ j. least_first n (λ i. p (suc i)) j) h
  where
    go : (b : Bool) → p 0 ≡ b → (j : ℕ) → ((i : ℕ) → i < least n (λ i. p (suc i)) → p (suc i) ≡ false)
        → j < cond b 0 (suc (least n (λ i. p (suc i)))) → p j ≡ false
    go true e j ih l = absurd (omega arith)
    go false e zero ih l = e
    go false e (suc j) ih l = ih j (omega arith)

-- a place at which p holds is not before the first
pub least-most : (n : ℕ) (p : ℕ → Bool) (k : ℕ) → p k ≡ true → least n p ≤ k
least-most n p k e = go (dec_lt k (least n p))
  where
    go : Dec (k < least n p) → least n p ≤ k
    go (yes l) = clash e (least_first n p k l)
    go (no h) = omega arith

pub least-is : (n : ℕ) (p : ℕ → Bool) (k : ℕ) → k < n → p k ≡ true → ((j : ℕ) → j < k → p j ≡ false) → least n p ≡ k
least-is n p k l e h = go (dec_lt (least n p) k)
  where
    go : Dec (least n p < k) → least n p ≡ k
    go (yes m) = clash (least-found n p (omega arith)) (h (least n p) m)
    go (no m) = let u : least n p ≤ k = least-most n p k e in omega arith

pub least-none : (n : ℕ) (p : ℕ → Bool) → ((k : ℕ) → k < n → p k ≡ false) → least n p ≡ n
least-none n p h = go (dec_lt (least n p) n)
  where
    go : Dec (least n p < n) → least n p ≡ n
    go (yes m) = clash (least-found n p m) (h (least n p) m)
    go (no m) = let u : least n p ≤ n = least-le n p in omega arith

pub least-equal : (n : ℕ) (p q : ℕ → Bool) → ((k : ℕ) → k < n → p k ≡ q k) → least n p ≡ least n q
unfolding least
least-equal zero p q h = refl
least-equal (suc n) p q h =
    ap₂ (λ (b : Bool) (x : ℕ). cond b 0 (suc x)) (h 0 (zero-lt-suc n))
    (least-equal n (λ k. p (suc k)) (λ k. q (suc k)) (λ k l. h (suc k) (omega arith)))

pub any_found : (n : ℕ) (p : ℕ → Bool) → any_below n p ≡ true → (k : ℕ) × (k < n) × (p k ≡ true)
unfolding any_below
any_found zero p e = clash e refl
any_found (suc n) p e =
    or_cases (any_below n p) (p n) e
    (λ f. let r = any_found n p f in (r.0, omega arith, r.2))
    (λ f. (n, lt-suc_self n, f))

pub any_here : (n : ℕ) (p : ℕ → Bool) (k : ℕ) → k < n → p k ≡ true → any_below n p ≡ true
unfolding any_below
any_here zero p k l e = absurd (omega arith)
any_here (suc n) p k l e = go (ℕ_discrete k n) (any_here n p k)
  where
    go : Dec (k ≡ n) → (k < n → p k ≡ true → any_below n p ≡ true) → (any_below n p || p n) ≡ true
    go (yes q) ih = or_right (any_below n p) (p n) (ap p (sym q) ∙ e)
    go (no q) ih = or_left (any_below n p) (p n) (ih (omega arith) e)

pub any_none : (n : ℕ) (p : ℕ → Bool) → any_below n p ≡ false → (k : ℕ) → k < n → p k ≡ false
any_none n p e k l = not-true (p k) (λ t. clash (any_here n p k l t) e)

pub none_any : (n : ℕ) (p : ℕ → Bool) → ((k : ℕ) → k < n → p k ≡ false) → any_below n p ≡ false
none_any n p h = not-true (any_below n p) (λ t. let r = any_found n p t in clash r.2 (h r.0 r.1))

pub any-equal : (n : ℕ) (p q : ℕ → Bool) → ((k : ℕ) → k < n → p k ≡ q k) → any_below n p ≡ any_below n q
unfolding any_below
any-equal zero p q h = refl
any-equal (suc n) p q h = ap₂ ◌||◌ (any-equal n p q (λ k l. h k (omega arith))) (h n (lt-suc_self n))

-- what first_of gives where p holds somewhere: a place at which p holds, and none before it
pub record First (n : ℕ) (p : ℕ → Bool) (k : ℕ) : Type 0 where
  pub below : k < n
  pub holds : p k ≡ true
  pub least : (j : ℕ) → p j ≡ true → k ≤ j

pub first-is : (n : ℕ) (p : ℕ → Bool) → any_below n p ≡ true → First n p (first_of n p)
unfolding first_of any_below
first-is zero p e = clash e refl
first-is (suc n) p e = go (any_below n p) refl (p n) refl e (first-is n p)
  where
    go : (a : Bool) → any_below n p ≡ a → (b : Bool) → p n ≡ b → (a || b) ≡ true → (any_below n p ≡ true → First n p (first_of n p))
        → First (suc n) p (cond a (first_of n p) (cond b n 0))
    go true ea b eb t ih =
        let f = ih ea in
        let l : first_of n p < n = f.below in
        record { below = omega arith; holds = f.holds; least = f.least }
    go false ea true eb t ih = record { below = lt-suc_self n; holds = eb; least = λ j ej. later j ej (dec_lt j n) }
      where
        later : (j : ℕ) → p j ≡ true → Dec (j < n) → n ≤ j
        later j ej (yes l) = clash ej (any_none n p ea j l)
        later j ej (no l) = omega arith
    go false ea false eb t ih = clash t refl

pub first-none : (n : ℕ) (p : ℕ → Bool) → any_below n p ≡ false → first_of n p ≡ 0
unfolding first_of
first-none zero p e = refl
first-none (suc n) p e =
    ap₂ (λ (a b : Bool). cond a (first_of n p) (cond b n 0))
    (none_any n p (λ k l. any_none (suc n) p e k (omega arith))) (any_none (suc n) p e n (lt-suc_self n))

pub first-equal : (n : ℕ) (p q : ℕ → Bool) → ((k : ℕ) → k < n → p k ≡ q k) → first_of n p ≡ first_of n q
unfolding first_of
first-equal zero p q h = refl
first-equal (suc n) p q h =
    ap₂ (λ (a : Bool) (x : ℕ). cond a x (cond (p n) n 0)) (any-equal n p q (λ k l. h k (omega arith))) (first-equal n p q (λ k l. h k (omega arith)))
    ∙ ap (λ (b : Bool). cond (any_below n q) (first_of n q) (cond b n 0)) (h n (lt-suc_self n))

-- what past_of gives: p holds nowhere from there on, and just before it, if it is not 0
pub past-le : (n : ℕ) (p : ℕ → Bool) → past_of n p ≤ n
unfolding past_of
past-le zero p = omega arith
past-le (suc n) p = go (p n) (past-le n p)
  where
    go : (b : Bool) → past_of n p ≤ n → cond b (suc n) (past_of n p) ≤ suc n
    go true h = omega arith
    go false h = omega arith

pub past-above : (n : ℕ) (p : ℕ → Bool) (k : ℕ) → k < n → p k ≡ true → k < past_of n p
unfolding past_of
past-above zero p k l e = absurd (omega arith)
past-above (suc n) p k l e = go (p n) refl (ℕ_discrete k n) (past-above n p k)
  where
    go : (b : Bool) → p n ≡ b → Dec (k ≡ n) → (k < n → p k ≡ true → k < past_of n p) → k < cond b (suc n) (past_of n p)
    go true eb d ih = l
    go false eb (yes q) ih = clash e (ap p q ∙ eb)
    go false eb (no q) ih = ih (omega arith) e

pub past-last : (n : ℕ) (p : ℕ → Bool) → 0 < past_of n p → (k : ℕ) × (past_of n p ≡ suc k) × (p k ≡ true)
unfolding past_of
past-last zero p h = absurd (omega arith)
past-last (suc n) p h = go (p n) refl h (past-last n p)
  where
    go : (b : Bool) → p n ≡ b → 0 < cond b (suc n) (past_of n p) → (0 < past_of n p → (k : ℕ) × (past_of n p ≡ suc k) × (p k ≡ true))
        → (k : ℕ) × (cond b (suc n) (past_of n p) ≡ suc k) × (p k ≡ true)
    go true e l ih = (n, refl, e)
    go false e l ih = ih l

pub past-none : (n : ℕ) (p : ℕ → Bool) → any_below n p ≡ false → past_of n p ≡ 0
past-none n p e = go (dec_lt 0 (past_of n p))
  where
    go : Dec (0 < past_of n p) → past_of n p ≡ 0
    go (yes l) =
        let r = past-last n p l in
        let h : past_of n p ≡ suc r.0 = r.1 in
        let m : past_of n p ≤ n = past-le n p in
        clash r.2 (any_none n p e r.0 (omega arith))
    go (no l) = omega arith

pub past_equal : (n : ℕ) (p q : ℕ → Bool) → ((k : ℕ) → k < n → p k ≡ q k) → past_of n p ≡ past_of n q
unfolding past_of
past_equal zero p q h = refl
past_equal (suc n) p q h =
    ap₂ (λ (b : Bool) (x : ℕ). cond b (suc n) x) (h n (lt-suc_self n)) (past_equal n p q (λ k l. h k (omega arith)))

-- a loop that tries k = 0, 1, … has found the first, or come to the end
pub search-finds : (n : ℕ) (p : ℕ → Bool) (k : ℕ) → k < n → ((j : ℕ) → j < k → p j ≡ false) → p k ≡ true → k ≡ least n p
search-finds n p k l before here = sym (least-is n p k l here before)

pub search-ends : (n : ℕ) (p : ℕ → Bool) (k : ℕ) → k ≤ n → n ≤ k → ((j : ℕ) → j < k → p j ≡ false) → k ≡ least n p
search-ends n p k l m before = sym (least-none n p (λ j lj. before j (omega arith)) ∙ omega arith)

-- with one number more: the same if it was found, else that number or none
pub least-last : (n : ℕ) (p : ℕ → Bool) → least (suc n) p ≡ cond (eqb (least n p) n) (cond (p n) n (suc n)) (least n p)
unfolding least
least-last zero p = refl
least-last (suc n) p =
    go (p 0) (ap suc (least-last n (λ k. p (suc k))))
  where
    go : (t : Bool)
        → suc (least (suc n) (λ k. p (suc k))) ≡ suc (cond (eqb (least n (λ k. p (suc k))) n) (cond (p (suc n)) n (suc n)) (least n (λ k. p (suc k))))
        → cond t 0 (suc (least (suc n) (λ k. p (suc k))))
        ≡ cond (eqb (cond t 0 (suc (least n (λ k. p (suc k))))) (suc n)) (cond (p (suc n)) (suc n) (suc (suc n))) (cond t 0 (suc (least n (λ k. p (suc k)))))
    go true ih = rw (eqb-zero-suc n)
    go false ih = ih ∙ rw (eqb-suc-suc (least n (λ k. p (suc k))) n) (split (eqb (least n (λ k. p (suc k))) n) (p (suc n)))
      where
        split : (s t : Bool) → suc (cond s (cond t n (suc n)) (least n (λ k. p (suc k))))
            ≡ cond s (cond t (suc n) (suc (suc n))) (suc (least n (λ k. p (suc k))))
        split true true = refl
        split true false = refl
        split false t = refl
