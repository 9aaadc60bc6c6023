-- A linear map keeps independence, but for what it sends to 0.
--
--   Linear g        g of an exclusive-or is the exclusive-or of the values
--   free-mapped     where g sends to 0 exactly what vs span, vectors are free over vs exactly where their values are free
--   free-injective  an injective linear map keeps independence
--
-- Assumes nothing.
use mathlib.Core.Path.{◌≡◌, sym, ap, ap₂, ◌∙◌}
use mathlib.Core.Bool.{Bool, ◌||◌, cond}
use mathlib.Core.List.{List, [], ◌∷◌, ◌++◌, map}
use Prim.Native.Nat.{ℕ, suc}
use lib.Dec.{eqb}
use lib.ListN.{length-map}
use Rattle.gf2.specs.Xor.{◌⊕◌}
use Rattle.gf2.specs.Vectors.{spans, taken_from, free_from}
use Rattle.gf2.proofs.Vectors.{taken_none, taken_more}

abbrev pub Linear : (ℕ → ℕ) → Type 0
Linear g = (x y : ℕ) → g (x ⊕ y) ≡ g x ⊕ g y

module _ (g : ℕ → ℕ) (linear : Linear g) (vs : List ℕ) (kernel : (x : ℕ) → eqb (g x) 0 ≡ spans vs x) where
  -- what vectors us over vs span
  spans-mapped : (us : List ℕ) (x : ℕ) → spans (us ++ vs) x ≡ spans (map g us) (g x)
  unfolding spans
  spans-mapped [] x = sym (kernel x)
  spans-mapped (u ∷ us) x = ap₂ ◌||◌ (spans-mapped us x) (spans-mapped us (x ⊕ u) ∙ ap (spans (map g us)) (linear x u))

  taken-mapped : (ms us : List ℕ) → taken_from (us ++ vs) ms ≡ taken_from (map g us) (map g ms)
  taken-mapped [] us = taken_none (us ++ vs) ∙ sym (taken_none (map g us))
  taken-mapped (m ∷ ms) us =
      taken_more (us ++ vs) m ms
      ∙ ap₂ (λ (t : Bool) (n : ℕ). cond t 0 (suc n)) (spans-mapped us m) (taken-mapped ms (m ∷ us))
      ∙ sym (taken_more (map g us) (g m) (map g ms))

  pub free-mapped : (ms : List ℕ) → free_from vs ms ≡ free_from [] (map g ms)
  unfolding free_from
  free-mapped ms = ap₂ eqb (taken-mapped ms []) (sym (length-map ms g))

pub free-injective : (g : ℕ → ℕ) → Linear g → ((x : ℕ) → eqb (g x) 0 ≡ eqb x 0) → (ms : List ℕ) → free_from [] ms ≡ free_from [] (map g ms)
unfolding spans
free-injective g linear injective = free-mapped g linear [] injective
