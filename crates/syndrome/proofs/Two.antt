-- Two sums at once:
--
--   two_none    the sums of no cell
--   two-same    the same sums, told in another way
--   two-added   the sums of two sets of cells together
--
-- Assumes nothing.
use mathlib.Core.Path.{◌≡◌, sym, ap₂, ◌∙◌}
use Prim.Native.Nat.{ℕ}
use native.Mathlib.Omega.{arith}
use lib.Bits.{bit_xor}
use Rattle.gf2.specs.Xor.{◌⊕◌}
use Rattle.gf2.proofs.Xor.{xor_is, xor_below}
use Rattle.syndrome.specs.declared.sums.Sums.{Sums}
use Rattle.syndrome.specs.Gather.{TwoSums}

pub two_none : (v h : ℕ) → v ≡ 0 → h ≡ 0 → TwoSums v h (record { row = 0; column = 0 })
two_none v h ev eh = record { row = sym ev; column = sym eh; row_below = omega arith; column_below = omega arith }

pub two-same : (v h v' h' : ℕ) (r : Sums) → v ≡ v' → h ≡ h' → TwoSums v h r → TwoSums v' h' r
two-same v h v' h' r ev eh R = record { row = R.row ∙ ev; column = R.column ∙ eh; row_below = R.row_below; column_below = R.column_below }

pub two-added : (v h v' h' : ℕ) (a r : Sums) → TwoSums v h a → TwoSums v' h' r
    → TwoSums (v ⊕ v') (h ⊕ h') (record { row = bit_xor a.row r.row; column = bit_xor a.column r.column })
two-added v h v' h' a r A R = record {
  row = xor_is a.row r.row ∙ ap₂ ◌⊕◌ A.row R.row;
  column = xor_is a.column r.column ∙ ap₂ ◌⊕◌ A.column R.column;
  row_below = rw (xor_is a.row r.row) (xor_below 32 a.row r.row A.row_below R.row_below);
  column_below = rw (xor_is a.column r.column) (xor_below 32 a.column r.column A.column_below R.column_below);
}
