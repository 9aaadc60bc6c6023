-- Independence, as document 01 words it, and a definition that computes it.
--
--   Within m member            the places that m chooses are members
--   Independent n member f     no nonempty subset of the members below n has exclusive-or 0 (01: "independent")
--   spanned n member f x       x is the exclusive-or of some of the members below n
--   free n member f            no member below n is the exclusive-or of members before it
--
-- A family is a function f on places, and a predicate says which places are members. Equal values at different places
-- are different members. free is the computing form of Independent: the laws are in proofs/Independence.antt.
use Rattle.std.specs.Prelude.{ℕ, zero, suc, ◌<◌, ◌≡◌, Bool, true, false, ◌&&◌, ◌||◌, not, eqb}
use Rattle.gf2.specs.Xor.{◌⊕◌}
use Rattle.gf2.specs.Sum.{chosen_sum}

-- m chooses members only
abbrev pub Within : (ℕ → Bool) → (ℕ → Bool) → Type 0
Within m member = (k : ℕ) → m k ≡ true → member k ≡ true

-- every subset of the members whose exclusive-or is 0 is empty
abbrev pub Independent : ℕ → (ℕ → Bool) → (ℕ → ℕ) → Type 0
Independent n member f =
    (m : ℕ → Bool) → Within m member → chosen_sum n m f ≡ 0 → (k : ℕ) → k < n → m k ≡ false

-- x is the exclusive-or of a subset of the members below n, possibly the empty one
unfoldable pub spanned : ℕ → (ℕ → Bool) → (ℕ → ℕ) → ℕ → Bool
spanned zero member f x = eqb x 0
spanned (suc n) member f x = spanned n member f x || (member n && spanned n member f (x ⊕ f n))

-- no member is the exclusive-or of earlier members
unfoldable pub free : ℕ → (ℕ → Bool) → (ℕ → ℕ) → Bool
free zero member f = true
free (suc n) member f = free n member f && not (member n && spanned n member f (f n))
