-- Strings of bytes one after the other.
--
--   joined n f   n strings: f 0, f 1, and so on up to f (n - 1)
use Rattle.std.specs.Prelude.{ℕ, zero, suc, List, [], ◌++◌}

unfoldable pub joined : ℕ → (ℕ → List ℕ) → List ℕ
joined zero f = []
joined (suc n) f = joined n f ++ f n
