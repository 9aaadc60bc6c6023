-- Laws that follow the loop of `keep`, and what its result is good for.
--
--   Keeping ms ws i    the words ws are those of the first i of ms, and all of these count
--   keeping_start, keeping-next, keeping-stop, keeping-end
--   LastSwept, last-start, last-next, swept-last   sweeping by the older words and then by the last is sweeping by all
--   kept-sweeps        the words of `keep` take off what the members that were taken span
--   kept_append        one list after another: keep the first, and ask of the second as the words leave it
--
-- Assumes nothing.
use mathlib.Core.Path.{◌≡◌, refl, sym, ap, ◌∙◌}
use mathlib.Core.Bool.{Bool, true, false, ◌&&◌, cond}
use mathlib.Core.List.{List, [], ◌∷◌, ◌++◌, reverse_aux, map, reverse_aux-append}
use Prim.Native.Nat.{ℕ, suc, ◌+◌, ◌≤◌, ◌<◌, min}
use native.Mathlib.Decide.{dec_le, ℕ_discrete}
use native.Mathlib.Numerals.{add-one}
use native.Mathlib.Omega.{arith}
use borrow.Author.Tests.{eqb-true, eq-eqb, ne_eqb}
use lib.Dec.{eqb}
use lib.ListN.{length, get_or, take, drop, set, drop_of_length-le}
use lib.Seq.{take-suc, take-suc-set, take-set-le, take-length, drop-cons}
use Rattle.gf2.specs.Xor.{◌⊕◌}
use Rattle.gf2.specs.Vectors.{taken_from, free_from}
use Rattle.gf2.specs.Swept.{swept, even_up, kept, KeptOf}
use Rattle.gf2.specs.declared.Kept.{Kept}
use Rattle.gf2.proofs.Xor.{xor_zero_right, xor-back}
use Rattle.gf2.proofs.Vectors.{taken_none, taken_more, free-append}
use Rattle.gf2.proofs.Swept.{SweepOf, sweep-none, sweep-kept, swept-append, swept-free}

pub record Keeping (ms ws : List ℕ) (i : ℕ) : Type 0 where
  pub words : ws ≡ kept [] (take i ms)
  pub count : taken_from [] ms ≡ i + taken_from (reverse_aux (take i ms) []) (drop i ms)

pub keeping_start : (ms : List ℕ) → Keeping ms [] 0
unfolding kept
keeping_start ms = record { words = refl; count = omega arith }

pub kept-last : (ms ws : List ℕ) (m : ℕ) → kept ws (ms ++ (m ∷ [])) ≡ kept ws ms ++ (swept (kept ws ms) m ∷ [])
unfolding kept
kept-last [] ws m = refl
kept-last (a ∷ ms) ws m = kept-last ms (ws ++ (swept ws a ∷ [])) m

module _ (ms ws : List ℕ) (i : ℕ) (K : Keeping ms ws i) where
  -- the words take off what the first i span
  keeping-sweeps : SweepOf (reverse_aux (take i ms) []) ws
  keeping-sweeps = rw K.words (sweep-kept (take i ms) [] [] sweep-none)

  module _ (inside : i < length ms) where
    step :
        taken_from [] ms
        ≡ i + cond (eqb (swept ws (get_or ms i 0)) 0) 0 (suc (taken_from (get_or ms i 0 ∷ reverse_aux (take i ms) []) (drop (suc i) ms)))
    step =
        K.count
        ∙ ap (λ (m : ℕ). i + m)
        (ap (taken_from (reverse_aux (take i ms) [])) (drop-cons ms i 0 inside)
        ∙ taken_more (reverse_aux (take i ms) []) (get_or ms i 0) (drop (suc i) ms)
        ∙ rw (← keeping-sweeps (get_or ms i 0)))

    pub keeping-stop : swept ws (get_or ms i 0) ≡ 0 → taken_from [] ms ≡ i
    keeping-stop e = step ∙ rw (eq-eqb (swept ws (get_or ms i 0)) 0 e) (omega arith)

    pub keeping-next : (swept ws (get_or ms i 0) ≡ 0 → ⊥) → Keeping ms (ws ++ (swept ws (get_or ms i 0) ∷ [])) (suc i)
    keeping-next e = record {
      words = rw (take-suc ms i 0 inside, kept-last (take i ms) [] (get_or ms i 0), ← K.words);
      count =
          rw (take-suc ms i 0 inside, reverse_aux-append (take i ms) (get_or ms i 0 ∷ []) [])
          (step ∙ rw (ne_eqb (swept ws (get_or ms i 0)) 0 e) (omega arith));
    }

  pub keeping-end : length ms ≤ i → taken_from [] ms ≡ i
  keeping-end l =
      K.count
      ∙ ap (λ (m : ℕ). i + m)
      (ap (taken_from (reverse_aux (take i ms) [])) (drop_of_length-le ms l) ∙ taken_none (reverse_aux (take i ms) []))
      ∙ omega arith

-- sweeping by the older words of t, and by one more where they are odd, and then by the last is sweeping by the first i
abbrev pub LastSwept : List ℕ → ℕ → ℕ → ℕ → Type 0
LastSwept t older last i = (x : ℕ) → min (swept (take (even_up older) t) x) (swept (take (even_up older) t) x ⊕ last) ≡ swept (take i t) x

pub last-start : (t : List ℕ) → LastSwept t 0 0 0
unfolding swept
last-start t x = rw (xor_zero_right x) (omega arith)

-- a word taken off twice
min-twice : (u w : ℕ) → min (min u (u ⊕ w)) (min u (u ⊕ w) ⊕ w) ≡ min u (u ⊕ w)
min-twice u w = go (dec_le u (u ⊕ w))
  where
    go : Dec (u ≤ u ⊕ w) → min (min u (u ⊕ w)) (min u (u ⊕ w) ⊕ w) ≡ min u (u ⊕ w)
    go (yes l) = let e : min u (u ⊕ w) ≡ u = omega arith in rw (e, e)
    go (no l) = let e : min u (u ⊕ w) ≡ u ⊕ w = omega arith in rw (e, xor-back u w) (omega arith)

-- a word stored after the first i is the last
pub last-next : (t : List ℕ) (i left : ℕ) → i < length t → LastSwept (set t i left) i left (i + 1)
last-next t i left l x = go (ℕ_discrete (even_up i) i)
  where
    all : swept (take (i + 1) (set t i left)) x ≡ min (swept (take i t) x) (swept (take i t) x ⊕ left)
    all = rw (add-one i, take-suc-set t i left l) (swept-append (take i t) left x)

    go : Dec (even_up i ≡ i)
        → min (swept (take (even_up i) (set t i left)) x) (swept (take (even_up i) (set t i left)) x ⊕ left) ≡ swept (take (i + 1) (set t i left)) x
    go (yes e) = rw (e, take-set-le i t i left (omega arith)) (sym all)
    go (no d) = let e : even_up i ≡ i + 1 = omega arith in rw (e, all) (min-twice (swept (take i t) x) left)

-- a number swept by the older words, and then by the last
pub swept-last : (t : List ℕ) (older last i x : ℕ) {s r : ℕ} → LastSwept t older last i → s ≡ swept (take (even_up older) t) x → r ≡ min s (s ⊕ last)
    → r ≡ swept (take i t) x
swept-last t older last i x h e f = f ∙ ap (λ (y : ℕ). min y (y ⊕ last)) e ∙ h x

pub kept-sweeps : (ms : List ℕ) (r : Kept) → KeptOf ms r → SweepOf (reverse_aux (take r.taken ms) []) (take r.taken r.words)
kept-sweeps ms r k = rw k.words (sweep-kept (take r.taken ms) [] [] sweep-none)

pub kept_append :
    (ms ms' : List ℕ) (r : Kept) → KeptOf ms r
    → free_from [] (ms ++ ms') ≡ (eqb r.taken (length ms) && free_from [] (map (swept (take r.taken r.words)) ms'))
unfolding free_from
kept_append ms ms' r k =
    free-append ms [] ms' ∙ ap (λ (b : Bool). b && free_from (reverse_aux ms []) ms') all
    ∙ go (eqb r.taken (length ms)) refl
  where
    all : free_from [] ms ≡ eqb r.taken (length ms)
    all = ap (λ (n : ℕ). eqb n (length ms)) (sym k.count)

    go : (t : Bool) → eqb r.taken (length ms) ≡ t
        → (t && free_from (reverse_aux ms []) ms') ≡ (t && free_from [] (map (swept (take r.taken r.words)) ms'))
    go true e =
        swept-free ms' (reverse_aux ms []) (take r.taken r.words)
        (rw (ap (λ (n : ℕ). take n ms) (eqb-true r.taken (length ms) e) ∙ take-length ms) at (kept-sweeps ms r k))
    go false e = refl
