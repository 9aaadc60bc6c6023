-- The basis by leading digit, and its laws.
--
--   Below w ms       the elements of ms are below 2 ^ w
--   BasisOf vs b     the words b are a basis of what vs span
--   basis-empty      64 zeros are a basis of no vectors
--   basis-reduces    a number is spanned exactly where it reduces to 0
--   basis-inserted   a vector that does not reduce to 0, put in
--
-- Assumes nothing.
use mathlib.Core.Path.{◌≡◌, refl, sym, ap, ◌∙◌}
use mathlib.Core.Bool.{true}
use mathlib.Core.List.{List, [], ◌∷◌, ◌++◌}
use mathlib.Core.Logic.{⊎_elim, inl, inr}
use Prim.Native.Nat.{ℕ, zero, suc, ◌^◌, ◌≤◌, ◌<◌}
use native.Mathlib.Decide.{ℕ_discrete}
use native.Mathlib.Omega.{arith}
use borrow.Author.Tests.{eqb-true, eq-eqb}
use lib.Dec.{eqb}
use lib.ListN.{length, get_or, take, drop, set, length-set, replicate, length-replicate, get_or-replicate}
use lib.Seq.{get_or-set_same, get_or-set_other, set_split, split_at}
use Rattle.gf2.specs.Vectors.{spans}
use Rattle.gf2.specs.Basis.{top, lowered, reduced, inserted}
use Rattle.finite.proofs.Truth.{same_truth}
use Rattle.gf2.proofs.Spans.{spans-zero, spans-known, spans-under, spans-middle, spans-exchange}
use Rattle.gf2.proofs.Reduction.{Place, top-place, reduced-stuck, reduced-le, reduced-differ, reduced-same}
use Rattle.gf2.proofs.Triangle.{Word, xor-clears, spanned-down, spanned-top, spanned-list}

abbrev pub Below : ℕ → List ℕ → Type 0
Below w ms = (k : ℕ) → k < length ms → get_or ms k 0 < 2 ^ w

pub record BasisOf (vs b : List ℕ) : Type 0 where
  pub size : length b ≡ 64
  pub shape : (k : ℕ) → k < 64 → Word k (get_or b k 0)
  pub same : (x : ℕ) → spans b x ≡ spans vs x

zeros-span : (n x : ℕ) → spans (replicate n 0) x ≡ spans [] x
zeros-span zero x = refl
zeros-span (suc n) x = spans-known (replicate n 0) 0 x (spans-zero (replicate n 0)) ∙ zeros-span n x

pub basis-empty : BasisOf [] (replicate 64 0)
basis-empty = record {
  size = length-replicate {A = ℕ} 64 0;
  shape = λ k l. inl (get_or-replicate 64 k 0 0 l);
  same = zeros-span 64;
}

-- a word put where there is none
set-span : (b : List ℕ) (k r x : ℕ) → k < length b → get_or b k 0 ≡ 0 → spans (set b k r) x ≡ spans (r ∷ b) x
set-span b k r x l z =
    ap (λ (s : List ℕ). spans s x) (set_split b k r l) ∙ spans-middle (take k b) (drop (suc k) b) r x
    ∙ spans-under (take k b ++ drop (suc k) b) b same r x
  where
    same : (y : ℕ) → spans (take k b ++ drop (suc k) b) y ≡ spans b y
    same y =
        sym
        (ap (λ (s : List ℕ). spans s y) (split_at b k 0 l) ∙ spans-middle (take k b) (drop (suc k) b) (get_or b k 0) y
        ∙ ap (λ (w : ℕ). spans (w ∷ (take k b ++ drop (suc k) b)) y) z
        ∙ spans-known (take k b ++ drop (suc k) b) 0 y (spans-zero (take k b ++ drop (suc k) b)))

set_words :
    (b : List ℕ) (p r : ℕ) → length b ≡ 64 → ((k : ℕ) → k < 64 → Word k (get_or b k 0)) → Word p r
    → (k : ℕ) → k < 64 → Word k (get_or (set b p r) k 0)
set_words b p r s h w k l = go (ℕ_discrete k p)
  where
    go : Dec (k ≡ p) → Word k (get_or (set b p r) k 0)
    go (yes e) = rw (e, get_or-set_same b p r 0 (omega arith)) w
    go (no d) = rw (get_or-set_other b p k r 0 d) (h k l)

module _ {vs b : List ℕ} (B : BasisOf vs b) where
  -- what is left of a number has its leading digit where there is no word
  pub left-place : (x : ℕ) → x < 2 ^ 64 → (reduced b x ≡ 0 → ⊥) → Place (reduced b x) (top (reduced b x))
  left-place x h ne = top-place (reduced b x) (omega arith) (omega (arith, reduced-le b x))

  pub left-free : (x : ℕ) → x < 2 ^ 64 → (reduced b x ≡ 0 → ⊥) → get_or b (top (reduced b x)) 0 ≡ 0
  left-free x h ne =
      let p = left-place x h ne in
      ⊎_elim (λ z. z)
      (λ w. absurd (omega (arith, clear p w, reduced-stuck b x)))
      (B.shape (top (reduced b x)) p.inside)
    where
      clear : Place (reduced b x) (top (reduced b x))
          → (2 ^ top (reduced b x) ≤ get_or b (top (reduced b x)) 0) × (get_or b (top (reduced b x)) 0 < 2 ^ suc (top (reduced b x)))
          → lowered b (reduced b x) < reduced b x
      clear p w =
          let l : lowered b (reduced b x) < 2 ^ top (reduced b x) =
          unfold lowered in xor-clears (top (reduced b x)) (reduced b x) (get_or b (top (reduced b x)) 0) p.low p.high w.0 w.1 in
          omega arith

  pub basis-reduces : (x : ℕ) → x < 2 ^ 64 → eqb (reduced b x) 0 ≡ spans vs x
  basis-reduces x h = same_truth (eqb (reduced b x) 0) (spans vs x) there back
    where
      there : eqb (reduced b x) 0 ≡ true → spans vs x ≡ true
      there e = sym (B.same x) ∙ sym (reduced-same b x) ∙ ap (spans b) (eqb-true (reduced b x) 0 e) ∙ spans-zero b

      words : (k n : ℕ) → n ≤ 64 → k < n → Word k (get_or b k 0)
      words k n l u = B.shape k (omega arith)

      go : spans b (reduced b x) ≡ true → Dec (reduced b x ≡ 0) → reduced b x ≡ 0
      go s (yes e) = e
      go s (no ne) =
          let p = left-place x h ne in
          absurd
          (spanned-top (λ k. get_or b k 0) (top (reduced b x)) (reduced b x) (λ k l. words k (suc (top (reduced b x))) p.inside l) p.low
          (spanned-down (λ k. get_or b k 0) (suc (top (reduced b x))) 64 (reduced b x) p.inside B.shape p.high
          (spanned-list 64 b (reduced b x) B.size ∙ s))
          (left-free x h ne))

      back : spans vs x ≡ true → eqb (reduced b x) 0 ≡ true
      back s = eq-eqb (reduced b x) 0 (go (reduced-same b x ∙ B.same x ∙ s) (ℕ_discrete (reduced b x) 0))

  pub basis-inserted : (m : ℕ) → m < 2 ^ 64 → (reduced b m ≡ 0 → ⊥) → BasisOf (m ∷ vs) (inserted b (reduced b m))
  unfolding inserted
  basis-inserted m h ne =
      let p = left-place m h ne in
      record {
        size = length-set b (top (reduced b m)) (reduced b m) ∙ B.size;
        shape = set_words b (top (reduced b m)) (reduced b m) B.size B.shape (inr (p.low, p.high));
        same = λ x.
            set-span b (top (reduced b m)) (reduced b m) x (omega (arith, B.size, p.inside)) (left-free m h ne)
            ∙ spans-exchange b (reduced b m) m x (reduced-differ b m) ∙ spans-under b vs B.same m x;
      }
