-- Exclusive-ors of families of numbers.
--
--   xor_sum n f        f 0 ⊕ f 1 ⊕ … ⊕ f (n - 1)
--   chosen_sum n m f   the exclusive-or of those f k, k below n, that m chooses
--   run_sum n f a b    f a ⊕ … ⊕ f (b - 1), of the places below n
use Rattle.std.specs.Prelude.{ℕ, zero, suc, ◌+◌, ◌-◌, min, Bool}
use Rattle.gf2.specs.Xor.{◌⊕◌, pick}

-- the exclusive-or of the first n values of f
unfoldable pub xor_sum : ℕ → (ℕ → ℕ) → ℕ
xor_sum zero f = 0
xor_sum (suc n) f = xor_sum n f ⊕ f n

-- the exclusive-or of a subset, given by the places that m chooses
abbrev pub chosen_sum : ℕ → (ℕ → Bool) → (ℕ → ℕ) → ℕ
chosen_sum n m f = xor_sum n (λ k. pick (m k) (f k))

-- the exclusive-or over the run from place a up to but not including place b. Places from n on add nothing, and where b is at or
-- below a there are none: the subtraction stops at 0
unfoldable pub run_sum : ℕ → (ℕ → ℕ) → ℕ → ℕ → ℕ
run_sum n f a b = xor_sum (min b n - a) (λ k. f (a + k))
