-- The order of vectors does not matter for their being free.
--
--   free-same   over vectors that span the same, the same are free
--   free-swap   two neighbours exchanged
--   free_move   one vector moved behind others
--   free-turn   two lists exchanged
--
-- Assumes nothing.
use mathlib.Core.Path.{◌≡◌, refl, sym, ap, ap₂, ◌∙◌}
use mathlib.Core.Bool.{Bool, true, false, ◌&&◌, ◌||◌, not}
use mathlib.Core.List.{List, [], ◌∷◌, ◌++◌, append-nil}
use Prim.Native.Nat.{ℕ}
use Rattle.gf2.specs.Xor.{◌⊕◌}
use Rattle.gf2.specs.Vectors.{spans, free_from}
use Rattle.gf2.proofs.Xor.{xor_comm}
use Rattle.gf2.proofs.Spans.{spans-under, spans-swap}
use Rattle.gf2.proofs.Vectors.{free-none, free_more}

pub free-same : (ms vs ws : List ℕ) → ((x : ℕ) → spans vs x ≡ spans ws x) → free_from vs ms ≡ free_from ws ms
free-same [] vs ws h = free-none vs ∙ sym (free-none ws)
free-same (m ∷ ms) vs ws h =
    free_more vs m ms ∙ ap₂ (λ (p q : Bool). not p && q) (h m) (free-same ms (m ∷ vs) (m ∷ ws) (spans-under vs ws h m))
    ∙ sym (free_more ws m ms)

spans-two : (vs : List ℕ) (a b : ℕ) → spans (a ∷ vs) b ≡ (spans vs b || spans vs (a ⊕ b))
unfolding spans
spans-two vs a b = ap (λ (x : ℕ). spans vs b || spans vs x) (xor_comm b a)

pub free-swap : (vs : List ℕ) (a b : ℕ) (ms : List ℕ) → free_from vs (a ∷ b ∷ ms) ≡ free_from vs (b ∷ a ∷ ms)
free-swap vs a b ms =
    two a b ∙ go (spans vs a) (spans vs b) (spans vs (a ⊕ b))
    ∙ ap (λ (f : Bool). not (spans vs b) && (not (spans vs a || spans vs (a ⊕ b)) && f))
    (free-same ms (b ∷ a ∷ vs) (a ∷ b ∷ vs) (spans-swap vs b a))
    ∙ sym (two' b a)
  where
    two : (a b : ℕ) → free_from vs (a ∷ b ∷ ms) ≡ (not (spans vs a) && (not (spans vs b || spans vs (a ⊕ b)) && free_from (b ∷ a ∷ vs) ms))
    two a b =
        free_more vs a (b ∷ ms) ∙ ap (λ (f : Bool). not (spans vs a) && f) (free_more (a ∷ vs) b ms)
        ∙ ap (λ (f : Bool). not (spans vs a) && (not f && free_from (b ∷ a ∷ vs) ms)) (spans-two vs a b)

    two' : (b a : ℕ) → free_from vs (b ∷ a ∷ ms) ≡ (not (spans vs b) && (not (spans vs a || spans vs (a ⊕ b)) && free_from (a ∷ b ∷ vs) ms))
    two' b a =
        two b a ∙ ap (λ (x : ℕ). not (spans vs b) && (not (spans vs a || spans vs x) && free_from (a ∷ b ∷ vs) ms)) (xor_comm b a)

    go : (p q r : Bool) → (not p && (not (q || r) && free_from (b ∷ a ∷ vs) ms)) ≡ (not q && (not (p || r) && free_from (b ∷ a ∷ vs) ms))
    go true true r = refl
    go true false r = refl
    go false true r = refl
    go false false r = refl

pub free_move : (ms vs : List ℕ) (a : ℕ) (ns : List ℕ) → free_from vs (a ∷ (ms ++ ns)) ≡ free_from vs (ms ++ a ∷ ns)
free_move [] vs a ns = refl
free_move (m ∷ ms) vs a ns =
    free-swap vs a m (ms ++ ns) ∙ free_more vs m (a ∷ (ms ++ ns))
    ∙ ap (λ (f : Bool). not (spans vs m) && f) (free_move ms (m ∷ vs) a ns)
    ∙ sym (free_more vs m (ms ++ a ∷ ns))

pub free-turn : (xs vs ys : List ℕ) → free_from vs (xs ++ ys) ≡ free_from vs (ys ++ xs)
free-turn [] vs ys = ap (free_from vs) (sym (append-nil ys))
free-turn (x ∷ xs) vs ys =
    free_more vs x (xs ++ ys) ∙ ap (λ (f : Bool). not (spans vs x) && f) (free-turn xs (x ∷ vs) ys)
    ∙ sym (free_more vs x (ys ++ xs)) ∙ free_move ys vs x xs
