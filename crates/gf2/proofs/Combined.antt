-- Laws of `combined`, which gathers the combinations of the words that `reduced` takes off.
--
--   combined-more, combined-done    as reduced-more and reduced-done
--   combined-sum      the gathered combination makes what was taken off
--   combined-below    a bound by a power of two
--
-- Assumes nothing.
use mathlib.Core.Path.{◌≡◌, refl, ap, ap₂, ◌∙◌}
use mathlib.Core.Bool.{Bool, true, false, cond}
use mathlib.Core.List.{List}
use Prim.Native.Nat.{ℕ, zero, suc, ◌^◌, ◌≤◌, ◌<◌}
use native.Mathlib.Nat.{le_refl}
use native.Mathlib.Omega.{arith}
use borrow.Author.Tests.{ltb-true, lt-ltb, le-ltb}
use lib.Dec.{ltb}
use lib.ListN.{get_or}
use Rattle.gf2.specs.Xor.{◌⊕◌}
use Rattle.gf2.specs.Basis.{top, lowered, settled, reduced}
use Rattle.gf2.specs.Solver.{combination, gathered, combined}
use Rattle.gf2.proofs.Xor.{xor_assoc, xor_comm, xor-again, xor_below}
use Rattle.gf2.proofs.Combination.{combination-xor}

gathered-enough : (f g : ℕ) (b c : List ℕ) (v y : ℕ) → v ≤ f → v ≤ g → gathered f b c v y ≡ gathered g b c v y
unfolding gathered
gathered-enough zero zero b c v y p q = refl
gathered-enough zero (suc g) b c v y p q = rw (le-ltb (lowered b v) v (omega arith))
gathered-enough (suc f) zero b c v y p q = rw (le-ltb (lowered b v) v (omega arith))
gathered-enough (suc f) (suc g) b c v y p q = go (ltb (lowered b v) v) refl (gathered-enough f g b c (lowered b v) (y ⊕ get_or c (top v) 0))
  where
    go : (t : Bool) → ltb (lowered b v) v ≡ t
        → (lowered b v ≤ f → lowered b v ≤ g → gathered f b c (lowered b v) (y ⊕ get_or c (top v) 0) ≡ gathered g b c (lowered b v) (y ⊕ get_or c (top v) 0))
        → cond t (gathered f b c (lowered b v) (y ⊕ get_or c (top v) 0)) y ≡ cond t (gathered g b c (lowered b v) (y ⊕ get_or c (top v) 0)) y
    go true e ih = let l = ltb-true (lowered b v) v e in ih (omega arith) (omega arith)
    go false e ih = refl

pub combined-more : (b c : List ℕ) (v y : ℕ) → lowered b v < v → combined b c v y ≡ combined b c (lowered b v) (y ⊕ get_or c (top v) 0)
unfolding combined
combined-more b c zero y l = absurd (omega arith)
combined-more b c (suc n) y l =
    let e : gathered (suc n) b c (suc n) y ≡ gathered n b c (lowered b (suc n)) (y ⊕ get_or c (top (suc n)) 0) =
    unfold gathered in rw (lt-ltb (lowered b (suc n)) (suc n) l) in
    e ∙ gathered-enough n (lowered b (suc n)) b c (lowered b (suc n)) (y ⊕ get_or c (top (suc n)) 0) (omega arith) (le_refl (lowered b (suc n)))

pub combined-done : (b c : List ℕ) (v y : ℕ) → v ≤ lowered b v → combined b c v y ≡ y
unfolding combined gathered
combined-done b c zero y l = refl
combined-done b c (suc n) y l = rw (le-ltb (lowered b (suc n)) (suc n) l)

-- the combinations c of vs make the words b
abbrev pub Makes : List ℕ → List ℕ → List ℕ → Type 0
Makes vs b c = (k : ℕ) → combination vs (get_or c k 0) ≡ get_or b k 0

gathered-sum :
    (f : ℕ) (vs b c : List ℕ) (v y : ℕ) → Makes vs b c
    → combination vs (gathered f b c v y) ⊕ settled f b v ≡ combination vs y ⊕ v
unfolding gathered settled
gathered-sum zero vs b c v y h = refl
gathered-sum (suc f) vs b c v y h = go (ltb (lowered b v) v) (gathered-sum f vs b c (lowered b v) (y ⊕ get_or c (top v) 0) h)
  where
    go : (t : Bool)
        → combination vs (gathered f b c (lowered b v) (y ⊕ get_or c (top v) 0)) ⊕ settled f b (lowered b v) ≡ combination vs (y ⊕ get_or c (top v) 0) ⊕ lowered b v
        → combination vs (cond t (gathered f b c (lowered b v) (y ⊕ get_or c (top v) 0)) y) ⊕ cond t (settled f b (lowered b v)) v ≡ combination vs y ⊕ v
    go true ih =
        ih ∙ ap₂ ◌⊕◌ (combination-xor vs y (get_or c (top v) 0) ∙ ap (λ (x : ℕ). combination vs y ⊕ x) (h (top v))) lowered_is
        ∙ xor_assoc (combination vs y) (get_or b (top v) 0) (get_or b (top v) 0 ⊕ v)
        ∙ ap (λ (x : ℕ). combination vs y ⊕ x) (xor-again (get_or b (top v) 0) v)
      where
        lowered_is : lowered b v ≡ get_or b (top v) 0 ⊕ v
        lowered_is = unfold lowered in xor_comm v (get_or b (top v) 0)
    go false ih = refl

pub combined-sum : (vs b c : List ℕ) (v y : ℕ) → Makes vs b c → combination vs (combined b c v y) ⊕ reduced b v ≡ combination vs y ⊕ v
unfolding combined reduced
combined-sum vs b c v y h = gathered-sum v vs b c v y h

gathered-below : (f n : ℕ) (b c : List ℕ) (v y : ℕ) → ((k : ℕ) → get_or c k 0 < 2 ^ n) → y < 2 ^ n → gathered f b c v y < 2 ^ n
unfolding gathered
gathered-below zero n b c v y h l = l
gathered-below (suc f) n b c v y h l =
    go (ltb (lowered b v) v) (gathered-below f n b c (lowered b v) (y ⊕ get_or c (top v) 0) h (xor_below n y (get_or c (top v) 0) l (h (top v))))
  where
    go : (t : Bool) → gathered f b c (lowered b v) (y ⊕ get_or c (top v) 0) < 2 ^ n → cond t (gathered f b c (lowered b v) (y ⊕ get_or c (top v) 0)) y < 2 ^ n
    go true ih = ih
    go false ih = l

pub combined-below : (n : ℕ) (b c : List ℕ) (v y : ℕ) → ((k : ℕ) → get_or c k 0 < 2 ^ n) → y < 2 ^ n → combined b c v y < 2 ^ n
unfolding combined
combined-below n b c v y h l = gathered-below v n b c v y h l
