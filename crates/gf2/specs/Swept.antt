-- Vectors taken off a number one after another, each where that makes it smaller.
--
--   swept ws v       what is left of v after the words ws, the first first
--   even_up n        n, or n + 1 where n is odd
--   kept ws ms       the words ws, and each of ms as the words before it leave it
--   KeptOf ms r      what the function `keep` gives for ms: how many come before the first that those before it span, and their words
--
-- Taking a word off where that makes a number smaller clears the word's leading digit, so it is linear, whatever the word.
-- The words kept of a list take off what the list spans. This needs no table by leading digit. The laws are in proofs/Swept.antt.
use Rattle.std.specs.Prelude.{ℕ, ◌+◌, ◌*◌, ◌/◌, min, ◌≡◌, List, [], ◌∷◌, ◌++◌, length, take}
use Rattle.gf2.specs.Xor.{◌⊕◌}
use Rattle.gf2.specs.Vectors.{taken_from}
use Rattle.gf2.specs.declared.Kept.{Kept}

unfoldable pub swept : List ℕ → ℕ → ℕ
swept [] v = v
swept (w ∷ ws) v = swept ws (min v (v ⊕ w))

abbrev pub even_up : ℕ → ℕ
even_up n = (n + 1) / 2 * 2

unfoldable pub kept : List ℕ → List ℕ → List ℕ
kept ws [] = ws
kept ws (m ∷ ms) = kept (ws ++ (swept ws m ∷ [])) ms

pub record KeptOf (ms : List ℕ) (r : Kept) : Type 0 where
  pub size : length r.words ≡ 64
  pub count : r.taken ≡ taken_from [] ms
  pub words : take r.taken r.words ≡ kept [] (take r.taken ms)
