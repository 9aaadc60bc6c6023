-- Where two strings of bytes of one length differ.
--
--   differ_at s t k      byte k of s is not byte k of t
--   first_different s t  the first byte at which s and t differ, or their length
--   agree s t            no byte differs
--   AgreeUpTo s t k      s has k bytes, and none of these differs
use Rattle.std.specs.Prelude.{ℕ, ◌≤◌, ◌<◌, ◌≡◌, Bool, false, not, List, eqb, length, get_or}
use Rattle.finite.specs.Search.{least}

unfoldable pub differ_at : List ℕ → List ℕ → ℕ → Bool
differ_at s t k = not (eqb (get_or s k 0) (get_or t k 0))

unfoldable pub first_different : List ℕ → List ℕ → ℕ
first_different s t = least (length s) (differ_at s t)

unfoldable pub agree : List ℕ → List ℕ → Bool
agree s t = eqb (first_different s t) (length s)

pub record AgreeUpTo (s t : List ℕ) (k : ℕ) : Type 0 where
  pub most : k ≤ length s
  pub same : (j : ℕ) → j < k → differ_at s t j ≡ false
