-- Lists of numbers as vectors over the field of two elements.
--
--   spans vs x          x is the exclusive-or of some of vs
--   taken_from vs ms    how many of ms come before the first that is spanned by vs and those before it
--   free_from vs ms     none of ms is spanned by vs and those before it
--   listed n member f   the values at the members below n, in rising order
--   run f a n           the n values of f from place a on
--   part a b t          the elements of a table at the places from a up to b, b left out, as the code's `&t[a..b]`
--
-- The vectors seen so far stand in the list vs with the last in front: after ms they are `reverse_aux ms vs`.
use Rattle.std.specs.Prelude.{ℕ, zero, suc, ◌+◌, ◌-◌, Bool, true, ◌||◌, cond, List, [], ◌∷◌, ◌++◌, eqb, length, take, drop}
use Rattle.gf2.specs.Xor.{◌⊕◌}

unfoldable pub spans : List ℕ → ℕ → Bool
spans [] x = eqb x 0
spans (v ∷ vs) x = spans vs x || spans vs (x ⊕ v)

unfoldable pub taken_from : List ℕ → List ℕ → ℕ
taken_from vs [] = 0
taken_from vs (m ∷ ms) = cond (spans vs m) 0 (suc (taken_from (m ∷ vs) ms))

unfoldable pub free_from : List ℕ → List ℕ → Bool
free_from vs ms = eqb (taken_from vs ms) (length ms)

unfoldable pub listed : ℕ → (ℕ → Bool) → (ℕ → ℕ) → List ℕ
listed zero member f = []
listed (suc n) member f = listed n member f ++ cond (member n) (f n ∷ []) []

unfoldable pub run : (ℕ → ℕ) → ℕ → ℕ → List ℕ
run f a n = listed n (λ k. true) (λ k. f (a + k))

abbrev pub part : ℕ → ℕ → List ℕ → List ℕ
part a b t = take (b - a) (drop a t)
