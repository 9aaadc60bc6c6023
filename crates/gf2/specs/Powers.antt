-- Tables of powers: each word is z times the one before, modulo one polynomial (02, request a: "entry k is z to the power k modulo
-- that polynomial"). A polynomial is a number, digit i for the power i.
--
--   times_z p x         z times x modulo p: twice x, with p taken off where that makes it smaller
--   polynomial d low    the polynomial of degree d whose coefficients below that are the digits of low
--   power p k           z to the power k modulo p
--   powers_from p x n   a table of n words: the first is x, and each after it is z times the one before, modulo p
--   PowersIn p n ws vs  the words vs are as many as ws, and the first n of them are the powers of z from 1 on
--   first_break p ws    the first place k after which word k + 1 is not z times word k, or the place of the last word
--   modulus_of ws       a polynomial by which ws may be powers: what is taken off after the first break in doubling; 1 where there is none
--   are_powers ws       that polynomial has constant term 1, and each word is z times the one before
--   Digits32 ws         the words have at most 32 digits
use Rattle.std.specs.Prelude.{ℕ, zero, suc, ◌+◌, ◌-◌, ◌*◌, ◌%◌, ◌^◌, ◌<◌, min, ◌≡◌, Bool, ◌&&◌, not, cond, List, [], ◌∷◌, eqb, leb, length, get_or}
use Rattle.finite.specs.Search.{least}
use Rattle.gf2.specs.Xor.{◌⊕◌}

unfoldable pub times_z : ℕ → ℕ → ℕ
times_z p x = min (2 * x) (2 * x ⊕ p)

unfoldable pub polynomial : ℕ → ℕ → ℕ
polynomial d low = 2 ^ d + low

unfoldable pub power : ℕ → ℕ → ℕ
power p zero = 1
power p (suc k) = times_z p (power p k)

unfoldable pub powers_from : ℕ → ℕ → ℕ → List ℕ
powers_from p x zero = []
powers_from p x (suc n) = x ∷ powers_from p (times_z p x) n

pub record PowersIn (p n : ℕ) (ws vs : List ℕ) : Type 0 where
  pub size : length vs ≡ length ws
  pub value : (k : ℕ) → k < n → get_or vs k 0 ≡ power p k

-- word k + 1 is not z times word k
unfoldable pub breaks_at : ℕ → List ℕ → ℕ → Bool
breaks_at p ws k = not (eqb (times_z p (get_or ws k 0)) (get_or ws (k + 1) 0))

unfoldable pub first_break : ℕ → List ℕ → ℕ
first_break p ws = least (length ws - 1) (breaks_at p ws)

unfoldable pub modulus_of : List ℕ → ℕ
modulus_of ws =
    let k = first_break 0 ws in
    cond (leb (length ws) (k + 1)) 1 (2 * get_or ws k 0 ⊕ get_or ws (k + 1) 0)

unfoldable pub are_powers : List ℕ → Bool
are_powers ws = let p = modulus_of ws in eqb (p % 2) 1 && leb (length ws) (first_break p ws + 1)

abbrev pub Digits32 : List ℕ → Type 0
Digits32 ws = (k : ℕ) → k < length ws → get_or ws k 0 < 4294967296
