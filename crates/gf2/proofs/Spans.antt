-- Laws of `spans`, the exclusive-ors of some vectors of a list.
--
--   spans-zero, spans-xor, spans-head, spans-more   0, sums, the first vector, and one vector more
--   spans-known       a vector that is spanned already adds nothing
--   spans-moved       what is spanned moves by a spanned number
--   spans-exchange    a vector may be exchanged for one that differs from it by a spanned number
--   spans-under       lists that span the same span the same under one vector more
--   spans-swap, spans-middle, spans-turned          the order does not matter
--
-- Assumes nothing.
use mathlib.Core.Path.{◌≡◌, refl, sym, ap, ap₂, ◌∙◌}
use mathlib.Core.Bool.{Bool, true, false, ◌||◌, or_self}
use mathlib.Core.List.{List, [], ◌∷◌, ◌++◌, reverse_aux}
use mathlib.Core.Logic.{⊎_elim}
use Prim.Native.Nat.{ℕ}
use borrow.Author.Tests.{eqb-true, eq-eqb}
use Rattle.gf2.specs.Xor.{◌⊕◌}
use Rattle.gf2.specs.Vectors.{spans}
use Rattle.finite.proofs.Truth.{either, or_left, or_right, same_truth}
use Rattle.gf2.proofs.Xor.{xor_assoc, xor_comm, xor_self, xor-back, xor-again}

pub spans-more : (vs : List ℕ) (v x : ℕ) → spans vs x ≡ true → spans (v ∷ vs) x ≡ true
unfolding spans
spans-more vs v x e = or_left (spans vs x) (spans vs (x ⊕ v)) e

pub spans-zero : (vs : List ℕ) → spans vs 0 ≡ true
unfolding spans
spans-zero [] = refl
spans-zero (v ∷ vs) = or_left (spans vs 0) (spans vs (0 ⊕ v)) (spans-zero vs)

pub spans-head : (vs : List ℕ) (v : ℕ) → spans (v ∷ vs) v ≡ true
unfolding spans
spans-head vs v = or_right (spans vs v) (spans vs (v ⊕ v)) (ap (spans vs) (xor_self v) ∙ spans-zero vs)

-- (x ⊕ v) ⊕ y and x ⊕ (y ⊕ v) are (x ⊕ y) ⊕ v
move : (x y v : ℕ) → (x ⊕ v) ⊕ y ≡ (x ⊕ y) ⊕ v
move x y v = xor_assoc x v y ∙ ap (λ (a : ℕ). x ⊕ a) (xor_comm v y) ∙ sym (xor_assoc x y v)

pub spans-xor : (vs : List ℕ) (x y : ℕ) → spans vs x ≡ true → spans vs y ≡ true → spans vs (x ⊕ y) ≡ true
unfolding spans
spans-xor [] x y p q = eq-eqb (x ⊕ y) 0 (ap₂ ◌⊕◌ (eqb-true x 0 p) (eqb-true y 0 q) ∙ xor_self 0)
spans-xor (v ∷ vs) x y p q =
    ⊎_elim
    (λ a. ⊎_elim
    (λ b. or_left (spans vs (x ⊕ y)) (spans vs ((x ⊕ y) ⊕ v)) (spans-xor vs x y a b))
    (λ b. or_right (spans vs (x ⊕ y)) (spans vs ((x ⊕ y) ⊕ v)) (ap (spans vs) (xor_assoc x y v) ∙ spans-xor vs x (y ⊕ v) a b))
    (either (spans vs y) (spans vs (y ⊕ v)) q))
    (λ a. ⊎_elim
    (λ b. or_right (spans vs (x ⊕ y)) (spans vs ((x ⊕ y) ⊕ v)) (ap (spans vs) (sym (move x y v)) ∙ spans-xor vs (x ⊕ v) y a b))
    (λ b. or_left (spans vs (x ⊕ y)) (spans vs ((x ⊕ y) ⊕ v))
    (ap (spans vs) (sym (xor-back (x ⊕ y) v) ∙ ap (λ (w : ℕ). w ⊕ v) (sym (move x y v)) ∙ xor_assoc (x ⊕ v) y v) ∙ spans-xor vs (x ⊕ v) (y ⊕ v) a b))
    (either (spans vs y) (spans vs (y ⊕ v)) q))
    (either (spans vs x) (spans vs (x ⊕ v)) p)

pub spans-moved : (vs : List ℕ) (x v : ℕ) → spans vs v ≡ true → spans vs (x ⊕ v) ≡ spans vs x
spans-moved vs x v e =
    same_truth (spans vs (x ⊕ v)) (spans vs x) (λ p. ap (spans vs) (sym (xor-back x v)) ∙ spans-xor vs (x ⊕ v) v p e)
    (λ p. spans-xor vs x v p e)

pub spans-known : (vs : List ℕ) (v x : ℕ) → spans vs v ≡ true → spans (v ∷ vs) x ≡ spans vs x
unfolding spans
spans-known vs v x e = ap (λ (b : Bool). spans vs x || b) (spans-moved vs x v e) ∙ or_self (spans vs x)

pub spans-under : (vs ws : List ℕ) → ((x : ℕ) → spans vs x ≡ spans ws x) → (v x : ℕ) → spans (v ∷ vs) x ≡ spans (v ∷ ws) x
unfolding spans
spans-under vs ws h v x = ap₂ ◌||◌ (h x) (h (x ⊕ v))

pub spans-swap : (vs : List ℕ) (a b x : ℕ) → spans (a ∷ b ∷ vs) x ≡ spans (b ∷ a ∷ vs) x
unfolding spans
spans-swap vs a b x = rw (move x a b) (go (spans vs x) (spans vs (x ⊕ b)) (spans vs (x ⊕ a)) (spans vs ((x ⊕ a) ⊕ b)))
  where
    go : (p q r s : Bool) → (p || q || (r || s)) ≡ (p || r || (q || s))
    go true q r s = refl
    go false true true s = refl
    go false true false s = refl
    go false false true s = refl
    go false false false s = refl

pub spans-middle : (ms vs : List ℕ) (m x : ℕ) → spans (ms ++ m ∷ vs) x ≡ spans (m ∷ (ms ++ vs)) x
spans-middle [] vs m x = refl
spans-middle (a ∷ ms) vs m x = spans-under (ms ++ m ∷ vs) (m ∷ (ms ++ vs)) (spans-middle ms vs m) a x ∙ spans-swap (ms ++ vs) a m x

pub spans-turned : (ms vs : List ℕ) (x : ℕ) → spans (reverse_aux ms vs) x ≡ spans (ms ++ vs) x
spans-turned [] vs x = refl
spans-turned (m ∷ ms) vs x = spans-turned ms (m ∷ vs) x ∙ spans-middle ms vs m x

-- a vector may be exchanged for one that differs from it by a spanned number
pub spans-exchange : (vs : List ℕ) (a b x : ℕ) → spans vs (a ⊕ b) ≡ true → spans (a ∷ vs) x ≡ spans (b ∷ vs) x
unfolding spans
spans-exchange vs a b x e =
    ap (λ (t : Bool). spans vs x || t)
    (sym (spans-moved vs (x ⊕ a) (a ⊕ b) e) ∙ ap (spans vs) (xor_assoc x a (a ⊕ b) ∙ ap (λ (y : ℕ). x ⊕ y) (xor-again a b)))
