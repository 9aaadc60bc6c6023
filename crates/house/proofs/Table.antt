-- The rule of the house table, carried to each entry.
--
--   house-entry              entry k is z to the power k, modulo the house polynomial
--   house-first, house-next  the first entry is 1, and each after it is z times the one before
--
-- Assumes nothing.
use mathlib.Core.Path.{◌≡◌, sym, ap, ◌∙◌}
use Prim.Native.Nat.{ℕ, suc, ◌<◌}
use native.Mathlib.Omega.{arith}
use lib.ListN.{get_or}
use Rattle.gf2.specs.Powers.{times_z, power}
use Rattle.gf2.proofs.PowerTable.{table-entry}
use Rattle.house.specs.House.{house_polynomial, house_entries, house_columns}

pub house-entry : (k : ℕ) → k < 2094 → get_or house_columns k 0 ≡ power house_polynomial k
unfolding house_columns
house-entry k l = table-entry house_polynomial house_entries k l

pub house-first : get_or house_columns 0 0 ≡ 1
unfolding power
house-first = house-entry 0 (omega arith)

pub house-next : (k : ℕ) → suc k < 2094 → get_or house_columns (suc k) 0 ≡ times_z house_polynomial (get_or house_columns k 0)
unfolding power
house-next k l = house-entry (suc k) l ∙ ap (times_z house_polynomial) (sym (house-entry k (omega arith)))
