-- Numbers in a list of bytes, low byte first.
--
--   u16_at s o, u32_at s o  the number of 16 and of 32 bits at place o (a byte past the end counts 0)
--   Number16, Number32      what the functions that read them promise: the value, and that it fits its bits
--   low_bytes n x           n bytes of x, low byte first
--   overwritten s o xs      the bytes s with xs from place o on
use Rattle.std.specs.Prelude.{ℕ, zero, suc, ◌+◌, ◌*◌, ◌/◌, ◌%◌, ◌<◌, ◌≡◌, List, [], ◌∷◌, get_or, set}

unfoldable pub u16_at : List ℕ → ℕ → ℕ
u16_at s o = get_or s o 0 + 256 * get_or s (o + 1) 0

unfoldable pub u32_at : List ℕ → ℕ → ℕ
u32_at s o = u16_at s o + 65536 * u16_at s (o + 2)

pub record Number16 (s : List ℕ) (o r : ℕ) : Type 0 where
  pub value : r ≡ u16_at s o
  pub below : r < 65536

pub record Number32 (s : List ℕ) (o r : ℕ) : Type 0 where
  pub value : r ≡ u32_at s o
  pub below : r < 4294967296

unfoldable pub low_bytes : ℕ → ℕ → List ℕ
low_bytes zero x = []
low_bytes (suc n) x = x % 256 ∷ low_bytes n (x / 256)

unfoldable pub overwritten : List ℕ → ℕ → List ℕ → List ℕ
overwritten s o [] = s
overwritten s o (x ∷ xs) = overwritten (set s o x) (o + 1) xs
