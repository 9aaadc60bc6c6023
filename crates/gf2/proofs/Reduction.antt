-- Laws of `reduced`: what is left of a number when words of a list are taken off.
--
--   top-place            the place of the leading digit
--   log-top              it is what the code's `ilog2` gives
--   reduced-more         where the word at the leading digit makes the number smaller, it is taken off
--   reduced-done         where it does not, the number is left
--   reduced-stuck        of what is left, no word can be taken off
--   reduced-le           it is at most the number
--   reduced-differ       it differs from the number by a spanned one, so it is spanned where the number is (reduced-same)
--
-- Assumes nothing.
use mathlib.Core.Path.{◌≡◌, refl, sym, ap, ◌∙◌}
use mathlib.Core.Bool.{Bool, true, false, cond}
use mathlib.Core.List.{List, [], ◌∷◌}
use Prim.Native.Nat.{ℕ, zero, suc, ◌-◌, ◌*◌, ◌^◌, ◌≤◌, ◌<◌}
use native.Mathlib.Nat.{le_refl}
use Rattle.std.proofs.Math.Nat.{two-pow-succ}
use native.Mathlib.Omega.{arith}
use borrow.Author.Tests.{ltb-true, ltb-false, lt-ltb, le-ltb}
use lib.Count.{count_leading_zeros, leading_top}
use Rattle.std.specs.Int.Count.{leading_unique}
use lib.Dec.{ltb}
use lib.ListN.{get_or}
use Rattle.gf2.specs.Xor.{◌⊕◌}
use Rattle.gf2.specs.Vectors.{spans}
use Rattle.gf2.specs.Basis.{top, lowered, settled, reduced}
use Rattle.gf2.proofs.Xor.{xor_self, xor_assoc, xor-back, xor-again}
use Rattle.gf2.proofs.Spans.{spans-zero, spans-head, spans-more, spans-moved}

pub record Place (v k : ℕ) : Type 0 where
  pub inside : k < 64
  pub low : 2 ^ k ≤ v
  pub high : v < 2 ^ suc k

pub top-place : (v : ℕ) → 0 < v → v < 2 ^ 64 → Place v (top v)
unfolding top
top-place v p h =
    let t = leading_top 64 v p h in
    let e : t.0 ≡ 63 - count_leading_zeros 64 v = omega (arith, t.1) in
    rw (← e) (record { inside = omega (arith, t.1); low = t.2; high = t.3 })

-- what the code's `ilog2` gives
pub log-top : (v k : ℕ) → 2 ^ k ≤ v → v < 2 * 2 ^ k → k < 64 → k ≡ top v
unfolding top
log-top v k low high l =
    let d = two-pow-succ k in
    let e = leading_unique 64 v (63 - k) (suc k) (omega arith) (omega arith) (omega arith) in
    omega arith

-- enough steps are as good as more
settled-enough : (f g : ℕ) (b : List ℕ) (v : ℕ) → v ≤ f → v ≤ g → settled f b v ≡ settled g b v
unfolding settled
settled-enough zero zero b v p q = refl
settled-enough zero (suc g) b v p q = rw (le-ltb (lowered b v) v (omega arith))
settled-enough (suc f) zero b v p q = rw (le-ltb (lowered b v) v (omega arith))
settled-enough (suc f) (suc g) b v p q = go (ltb (lowered b v) v) refl (settled-enough f g b (lowered b v))
  where
    go : (t : Bool) → ltb (lowered b v) v ≡ t → (lowered b v ≤ f → lowered b v ≤ g → settled f b (lowered b v) ≡ settled g b (lowered b v))
        → cond t (settled f b (lowered b v)) v ≡ cond t (settled g b (lowered b v)) v
    go true e ih = let l = ltb-true (lowered b v) v e in ih (omega arith) (omega arith)
    go false e ih = refl

pub reduced-more : (b : List ℕ) (v : ℕ) → lowered b v < v → reduced b v ≡ reduced b (lowered b v)
unfolding reduced
reduced-more b zero l = absurd (omega arith)
reduced-more b (suc n) l =
    let e : settled (suc n) b (suc n) ≡ settled n b (lowered b (suc n)) = unfold settled in rw (lt-ltb (lowered b (suc n)) (suc n) l) in
    e ∙ settled-enough n (lowered b (suc n)) b (lowered b (suc n)) (omega arith) (le_refl (lowered b (suc n)))

pub reduced-done : (b : List ℕ) (v : ℕ) → v ≤ lowered b v → reduced b v ≡ v
unfolding reduced settled
reduced-done b zero l = refl
reduced-done b (suc n) l = rw (le-ltb (lowered b (suc n)) (suc n) l)

settled-stuck : (f : ℕ) (b : List ℕ) (v : ℕ) → v ≤ f → settled f b v ≤ lowered b (settled f b v)
unfolding settled
settled-stuck zero b v p = omega arith
settled-stuck (suc f) b v p = go (ltb (lowered b v) v) refl (settled-stuck f b (lowered b v))
  where
    go : (t : Bool) → ltb (lowered b v) v ≡ t → (lowered b v ≤ f → settled f b (lowered b v) ≤ lowered b (settled f b (lowered b v)))
        → cond t (settled f b (lowered b v)) v ≤ lowered b (cond t (settled f b (lowered b v)) v)
    go true e ih = let l = ltb-true (lowered b v) v e in ih (omega arith)
    go false e ih = ltb-false (lowered b v) v e

pub reduced-stuck : (b : List ℕ) (v : ℕ) → reduced b v ≤ lowered b (reduced b v)
unfolding reduced
reduced-stuck b v = settled-stuck v b v (le_refl v)

settled-le : (f : ℕ) (b : List ℕ) (v : ℕ) → settled f b v ≤ v
unfolding settled
settled-le zero b v = le_refl v
settled-le (suc f) b v = go (ltb (lowered b v) v) refl (settled-le f b (lowered b v))
  where
    go : (t : Bool) → ltb (lowered b v) v ≡ t → settled f b (lowered b v) ≤ lowered b v → cond t (settled f b (lowered b v)) v ≤ v
    go true e ih = let l = ltb-true (lowered b v) v e in omega arith
    go false e ih = le_refl v

pub reduced-le : (b : List ℕ) (v : ℕ) → reduced b v ≤ v
unfolding reduced
reduced-le b v = settled-le v b v

-- a list spans each of its elements, and 0
pub spans-at : (b : List ℕ) (k : ℕ) → spans b (get_or b k 0) ≡ true
spans-at [] k = spans-zero []
spans-at (w ∷ b) zero = spans-head b w
spans-at (w ∷ b) (suc k) = spans-more b w (get_or b k 0) (spans-at b k)

-- the word put back
lowered-back : (b : List ℕ) (v : ℕ) → lowered b v ⊕ get_or b (top v) 0 ≡ v
unfolding lowered
lowered-back b v = xor-back v (get_or b (top v) 0)

settled-differ : (f : ℕ) (b : List ℕ) (v : ℕ) → spans b (settled f b v ⊕ v) ≡ true
unfolding settled
settled-differ zero b v = ap (spans b) (xor_self v) ∙ spans-zero b
settled-differ (suc f) b v = go (ltb (lowered b v) v) (settled-differ f b (lowered b v))
  where
    go : (t : Bool) → spans b (settled f b (lowered b v) ⊕ lowered b v) ≡ true → spans b (cond t (settled f b (lowered b v)) v ⊕ v) ≡ true
    go true ih =
        ap (spans b)
        (ap (λ (y : ℕ). settled f b (lowered b v) ⊕ y) (sym (lowered-back b v))
        ∙ sym (xor_assoc (settled f b (lowered b v)) (lowered b v) (get_or b (top v) 0)))
        ∙ spans-moved b (settled f b (lowered b v) ⊕ lowered b v) (get_or b (top v) 0) (spans-at b (top v)) ∙ ih
    go false ih = ap (spans b) (xor_self v) ∙ spans-zero b

pub reduced-differ : (b : List ℕ) (v : ℕ) → spans b (reduced b v ⊕ v) ≡ true
unfolding reduced
reduced-differ b v = settled-differ v b v

pub reduced-same : (b : List ℕ) (v : ℕ) → spans b (reduced b v) ≡ spans b v
reduced-same b v = sym (spans-moved b (reduced b v) (reduced b v ⊕ v) (reduced-differ b v)) ∙ ap (spans b) (xor-again (reduced b v) v)
