-- Numbers of cells:
--
--   pair-most   the number of a pair of 16-bit numbers fits
--   rows_next   the cells of one row more
--
-- Assumes nothing.
use mathlib.Core.Path.{◌≡◌, ap, ◌∙◌}
use Prim.Native.Nat.{ℕ, ◌+◌, ◌*◌, ◌≤◌, ◌<◌}
use native.Mathlib.Nat.{mul-le-mul, suc-mul}
use native.Mathlib.Numerals.{add-one}
use native.Mathlib.Omega.{arith}
use Rattle.plan.specs.Header.{Small}
use Rattle.plan.specs.declared.header.Header.{Header}

pub pair-most : (h : Header) → Small h → (row : ℕ) → row < 65536 → row * h.n2 ≤ 45744128
pair-most h S row l = let m : row * h.n2 ≤ 65536 * 698 = mul-le-mul (let w : row ≤ 65536 = omega arith in w) S.n2_most in m

pub rows_next : (i n : ℕ) → (i + 1) * n ≡ i * n + n
rows_next i n = ap (λ (x : ℕ). x * n) (add-one i) ∙ suc-mul i n
