-- Laws of independence: the computing forms against the definitions.
--
--   spanned-chosen    a spanned number is the sum of a choice of members
--   chosen-spanned    the sum of a choice of members is spanned
--   free-independent, independent-free    `free` is independence
--   independent-equal   equal values are independent together
--
-- Assumes nothing.
use mathlib.Core.Path.{◌≡◌, refl, sym, ap, ap₂, ◌∙◌}
use mathlib.Core.Bool.{Bool, true, false, ◌&&◌, not, cond}
use mathlib.Core.Logic.{⊎_elim}
use Prim.Native.Nat.{ℕ, zero, suc, ◌<◌}
use native.Mathlib.Nat.{lt-suc_self}
use native.Mathlib.Decide.{ℕ_discrete}
use native.Mathlib.Omega.{arith}
use borrow.Author.Tests.{eqb-true, eq-eqb, ne_eqb}
use lib.Dec.{eqb}
use Rattle.gf2.specs.Xor.{◌⊕◌, pick}
use Rattle.gf2.specs.Sum.{chosen_sum}
use Rattle.gf2.specs.Independence.{Within, Independent, spanned, free}
use Rattle.finite.proofs.Truth.{never, both, either, or_left, or_right, not-true}
use Rattle.gf2.proofs.Xor.{xor_zero_right, xor_self, xor-back, xor-cancel}
use Rattle.gf2.proofs.Sum.{sum-none, sum-next, sum-equal}

-- the choice m, with t at the place n
placed : (ℕ → Bool) → ℕ → Bool → ℕ → Bool
placed m n t k = cond (eqb k n) t (m k)

placed_at : (m : ℕ → Bool) (n : ℕ) (t : Bool) → placed m n t n ≡ t
unfolding placed
placed_at m n t = rw (eq-eqb n n refl)

placed-other : (m : ℕ → Bool) (n : ℕ) (t : Bool) (k : ℕ) → k < n → placed m n t k ≡ m k
unfolding placed
placed-other m n t k l = rw (ne_eqb k n (λ e. omega arith))

placed-sum : (n : ℕ) (m : ℕ → Bool) (t : Bool) (f : ℕ → ℕ) → chosen_sum (suc n) (placed m n t) f ≡ chosen_sum n m f ⊕ pick t (f n)
placed-sum n m t f =
    sum-next n (λ k. pick (placed m n t k) (f k))
    ∙ ap₂ ◌⊕◌ (sum-equal n (λ k. pick (placed m n t k) (f k)) (λ k. pick (m k) (f k)) (λ k l. ap (λ (b : Bool). pick b (f k)) (placed-other m n t k l)))
    (ap (λ (b : Bool). pick b (f n)) (placed_at m n t))

placed-within : (m member : ℕ → Bool) (n : ℕ) (t : Bool) → Within m member → (t ≡ true → member n ≡ true) → Within (placed m n t) member
unfolding placed
placed-within m member n t w h k e = go (ℕ_discrete k n)
  where
    go : Dec (k ≡ n) → member k ≡ true
    go (yes p) = ap member p ∙ h (sym (placed_at m n t) ∙ ap (placed m n t) (sym p) ∙ e)
    go (no p) = w k (rw (ne_eqb k n p) at e)

pub pick_true : (a : ℕ) → pick true a ≡ a
unfolding pick
pick_true a = refl

pub pick-false : (a : ℕ) → pick false a ≡ 0
unfolding pick
pick-false a = refl

pub spanned-chosen :
    (n : ℕ) (member : ℕ → Bool) (f : ℕ → ℕ) (x : ℕ) → spanned n member f x ≡ true
    → (m : ℕ → Bool) × Within m member × (chosen_sum n m f ≡ x)
unfolding spanned
spanned-chosen zero member f x e =
    ((λ k. false), (λ k p. absurd (never false p refl)), sum-none (λ k. pick false (f k)) ∙ sym (eqb-true x 0 e))
spanned-chosen (suc n) member f x e =
    ⊎_elim
    (λ p. let c = spanned-chosen n member f x p in (
      placed c.0 n false,
      placed-within c.0 member n false c.1 (λ q. absurd (never false q refl)),
      placed-sum n c.0 false f ∙ ap₂ ◌⊕◌ c.2 (pick-false (f n)) ∙ xor_zero_right x,
    ))
    (λ p. let q = both (member n) (spanned n member f (x ⊕ f n)) p in let c = spanned-chosen n member f (x ⊕ f n) q.1 in (
      placed c.0 n true,
      placed-within c.0 member n true c.1 (λ r. q.0),
      placed-sum n c.0 true f ∙ ap₂ ◌⊕◌ c.2 (pick_true (f n)) ∙ xor-back x (f n),
    ))
    (either (spanned n member f x) (member n && spanned n member f (x ⊕ f n)) e)

-- the last one is chosen, or it is not
chosen-in : (n : ℕ) (m : ℕ → Bool) (f : ℕ → ℕ) → m n ≡ true → chosen_sum (suc n) m f ≡ chosen_sum n m f ⊕ f n
chosen-in n m f p =
    sum-next n (λ k. pick (m k) (f k))
    ∙ ap (λ (x : ℕ). chosen_sum n m f ⊕ x) (ap (λ (b : Bool). pick b (f n)) p ∙ pick_true (f n))

chosen-out : (n : ℕ) (m : ℕ → Bool) (f : ℕ → ℕ) → m n ≡ false → chosen_sum (suc n) m f ≡ chosen_sum n m f
chosen-out n m f p =
    sum-next n (λ k. pick (m k) (f k))
    ∙ ap (λ (x : ℕ). chosen_sum n m f ⊕ x) (ap (λ (b : Bool). pick b (f n)) p ∙ pick-false (f n)) ∙ xor_zero_right (chosen_sum n m f)

pub chosen-spanned :
    (n : ℕ) (member : ℕ → Bool) (f : ℕ → ℕ) (x : ℕ) (m : ℕ → Bool) → Within m member → chosen_sum n m f ≡ x
    → spanned n member f x ≡ true
unfolding spanned
chosen-spanned zero member f x m w e = eq-eqb x 0 (sym e ∙ sum-none (λ k. pick (m k) (f k)))
chosen-spanned (suc n) member f x m w e = go (m n) refl (λ y. chosen-spanned n member f y m w)
  where
    go : (t : Bool) → m n ≡ t → ((y : ℕ) → chosen_sum n m f ≡ y → spanned n member f y ≡ true) → spanned (suc n) member f x ≡ true
    go true p ih =
        let s : chosen_sum n m f ⊕ f n ≡ x = sym (chosen-in n m f p) ∙ e in
        or_right (spanned n member f x) (member n && spanned n member f (x ⊕ f n))
        (rw (w n p, ih (x ⊕ f n) (sym (xor-back (chosen_sum n m f) (f n)) ∙ ap (λ (a : ℕ). a ⊕ f n) s)))
    go false p ih =
        or_left (spanned n member f x) (member n && spanned n member f (x ⊕ f n)) (ih x (sym (chosen-out n m f p) ∙ e))

pub free-independent : (n : ℕ) (member : ℕ → Bool) (f : ℕ → ℕ) → free n member f ≡ true → Independent n member f
unfolding free
free-independent zero member f h m w e k l = absurd (omega arith)
free-independent (suc n) member f h m w e k l =
    go (m n) refl (both (free n member f) (not (member n && spanned n member f (f n))) h) (ℕ_discrete k n)
    (λ p q. free-independent n member f p m w q k)
  where
    go : (t : Bool) → m n ≡ t → (free n member f ≡ true) × (not (member n && spanned n member f (f n)) ≡ true) → Dec (k ≡ n)
        → (free n member f ≡ true → chosen_sum n m f ≡ 0 → k < n → m k ≡ false) → m k ≡ false
    go true p b d ih =
        absurd (never (not (member n && spanned n member f (f n))) b.1
        (rw (w n p, chosen-spanned n member f (f n) m w (xor-cancel (chosen_sum n m f) (f n) (sym (chosen-in n m f p) ∙ e)))))
    go false p b (yes q) ih = ap m q ∙ p
    go false p b (no q) ih = ih b.0 (sym (chosen-out n m f p) ∙ e) (omega arith)

pub independent-free : (n : ℕ) (member : ℕ → Bool) (f : ℕ → ℕ) → Independent n member f → free n member f ≡ true
unfolding free
independent-free zero member f h = refl
independent-free (suc n) member f h =
    rw (independent-free n member f before) (ap not (not-true (member n && spanned n member f (f n)) last))
  where
    before : Independent n member f
    before m w e k l =
        sym (placed-other m n false k l)
        ∙ h (placed m n false) (placed-within m member n false w (λ q. absurd (never false q refl)))
        (placed-sum n m false f ∙ ap₂ ◌⊕◌ e (pick-false (f n)) ∙ xor_self 0) k (omega arith)

    last : (member n && spanned n member f (f n)) ≡ true → ⊥
    last e =
        let q = both (member n) (spanned n member f (f n)) e in
        let c = spanned-chosen n member f (f n) q.1 in
        never (placed c.0 n true n) (placed_at c.0 n true)
        (h (placed c.0 n true) (placed-within c.0 member n true c.1 (λ r. q.0))
        (placed-sum n c.0 true f ∙ ap₂ ◌⊕◌ c.2 (pick_true (f n)) ∙ xor_self (f n)) n (lt-suc_self n))

-- equal values are independent together
pub independent-equal : (n : ℕ) (member : ℕ → Bool) (f g : ℕ → ℕ) → ((k : ℕ) → k < n → f k ≡ g k) → Independent n member f → Independent n member g
independent-equal n member f g e I m within z =
    I m within (sum-equal n (λ k. pick (m k) (f k)) (λ k. pick (m k) (g k)) (λ k l. ap (pick (m k)) (e k l)) ∙ z)
