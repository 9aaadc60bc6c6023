-- The first failing pair of two starts, as the nested search of document 01 finds it.
--
--   in_row ok i j m rest      of the m pairs (i, j), (i, j + 1), … the first at which ok is false, else rest
--   from_row ok start n i m   the same over the m rows from i on; row i has the pairs from start i on, below n
--   first_failing ok start n  the first failing pair of all
--   pair_verdict number       the pair as an answer: its check's number with the two starts, or accepted where there is none
use Rattle.std.specs.Prelude.{ℕ, zero, suc, ◌-◌, Bool, cond, Option, Some, None}
use Rattle.plan.specs.declared.verdict.Verdict.{Verdict}
use Rattle.plan.specs.Verdict.{accepted, refusal}

unfoldable pub in_row : (ℕ → ℕ → Bool) → ℕ → ℕ → ℕ → Option (ℕ × ℕ) → Option (ℕ × ℕ)
in_row ok i j zero rest = rest
in_row ok i j (suc m) rest = cond (ok i j) (in_row ok i (suc j) m rest) (Some (i, j))

unfoldable pub from_row : (ℕ → ℕ → Bool) → (ℕ → ℕ) → ℕ → ℕ → ℕ → Option (ℕ × ℕ)
from_row ok start n i zero = None
from_row ok start n i (suc m) = in_row ok i (start i) (n - start i) (from_row ok start n (suc i) m)

unfoldable pub first_failing : (ℕ → ℕ → Bool) → (ℕ → ℕ) → ℕ → Option (ℕ × ℕ)
first_failing ok start n = from_row ok start n 0 n

abbrev pub pair_verdict : ℕ → Option (ℕ × ℕ) → Verdict
pair_verdict number (Some (i, j)) = refusal number i j
pair_verdict number None = accepted
