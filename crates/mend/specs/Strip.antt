-- A pattern laid on a strip of b2 consecutive columns.
--
--   BurstSize b1 b2   sizes of a burst: from 1 to 4
--   laid_sum           the H sum of pattern x of the window at row i, laid on the strip at column a, by a table of H entries
--   laid_cell, laid_row, laid_line   what a cell adds to it, and what a row adds
--   fits_on            the H sum on a strip is the one that is asked for
--   laid_digit b2 a x  the digits of the pattern by columns: digit r × b2 + d is that of row r and the remainder of column a + d
--   box_pattern        the number with these digits
--   on_strips          the burst on the first strip on which the pattern has the H sum, or None
use Rattle.std.specs.Prelude.{ℕ, ◌+◌, ◌-◌, ◌*◌, ◌/◌, ◌%◌, ◌≤◌, Bool, cond, Option, Some, None, eqb, ltb}
use Rattle.gf2.specs.Xor.{pick}
use Rattle.gf2.specs.Sum.{xor_sum}
use Rattle.finite.specs.Search.{bit, least, number_of}
use Rattle.plan.specs.declared.header.Header.{Header}
use Rattle.mend.specs.declared.found.Burst.{Burst}

pub record BurstSize (b1 b2 : ℕ) : Type 0 where
  pub b1_pos : 1 ≤ b1
  pub b1_most : b1 ≤ 4
  pub b2_pos : 1 ≤ b2
  pub b2_most : b2 ≤ 4

-- of column a + d. u is the row's remainder modulo b1, and its digits begin at first
unfoldable pub laid_cell : ℕ → ℕ → (ℕ → ℕ) → ℕ → ℕ → ℕ → ℕ → ℕ → ℕ
laid_cell b1 b2 entry u first a x d = pick (bit x (first + (a + d) % b2)) (entry ((a + d) * b1 + u))

unfoldable pub laid_row : ℕ → ℕ → (ℕ → ℕ) → ℕ → ℕ → ℕ → ℕ → ℕ
laid_row b1 b2 entry u first a x = xor_sum b2 (laid_cell b1 b2 entry u first a x)

-- of row i + r
unfoldable pub laid_line : ℕ → ℕ → (ℕ → ℕ) → ℕ → ℕ → ℕ → ℕ → ℕ
laid_line b1 b2 entry i a x r = laid_row b1 b2 entry ((i + r) % b1) (r * b2) a x

unfoldable pub laid_sum : ℕ → ℕ → (ℕ → ℕ) → ℕ → ℕ → ℕ → ℕ
laid_sum b1 b2 entry i a x = xor_sum b1 (laid_line b1 b2 entry i a x)

-- the pattern has the H sum s on the strip at column a
unfoldable pub fits_on : ℕ → ℕ → (ℕ → ℕ) → ℕ → ℕ → ℕ → ℕ → Bool
fits_on b1 b2 entry i x s a = eqb (laid_sum b1 b2 entry i a x) s

unfoldable pub laid_digit : ℕ → ℕ → ℕ → ℕ → Bool
laid_digit b2 a x k = bit x (k / b2 * b2 + (a + k % b2) % b2)

unfoldable pub box_pattern : ℕ → ℕ → ℕ → ℕ → ℕ
box_pattern b1 b2 a x = number_of (b1 * b2) (laid_digit b2 a x)

unfoldable pub on_strips : Header → (ℕ → ℕ) → ℕ → ℕ → ℕ → Option Burst
on_strips h entry i x s =
    let n = h.n2 - h.b2 + 1 in
    let a = least n (fits_on h.b1 h.b2 entry i x s) in
    cond (ltb a n) (Some (record { top = i; left = a; pattern = box_pattern h.b1 h.b2 a x })) None
