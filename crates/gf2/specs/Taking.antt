-- Places taken in their order, each if its value is no exclusive-or of those taken (02, request a: check cells).
--
--   taken_below f n     the places below n that are taken, in rising order
--   first_taken f w n   the first w of them, or all where there are fewer
--   TakenIn f w n words places count   how the code holds these: their number, the places, and the words of a basis of their values
use Rattle.std.specs.Prelude.{ℕ, zero, suc, ◌≡◌, cond, List, [], ◌∷◌, ◌++◌, map, length, take}
use Rattle.gf2.specs.Vectors.{spans}
use Rattle.gf2.specs.Swept.{kept}

unfoldable pub taken_below : (ℕ → ℕ) → ℕ → List ℕ
taken_below f zero = []
taken_below f (suc n) = let ts = taken_below f n in ts ++ cond (spans (map f ts) (f n)) [] (n ∷ [])

unfoldable pub first_taken : (ℕ → ℕ) → ℕ → ℕ → List ℕ
first_taken f w n = take w (taken_below f n)

pub record TakenIn (f : ℕ → ℕ) (w n : ℕ) (words places : List ℕ) (count : ℕ) : Type 0 where
  pub words_size : length words ≡ 64
  pub places_size : length places ≡ 64
  pub number : count ≡ length (first_taken f w n)
  pub held : take count places ≡ first_taken f w n
  pub basis : take count words ≡ kept [] (map f (first_taken f w n))
