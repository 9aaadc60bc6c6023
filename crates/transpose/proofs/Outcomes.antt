-- The outcome of turning a sheet into the other layout:
--
--   turn-refused   where a check fails
--   turn-done      where the checks gave 0
--
-- Assumes nothing.
use mathlib.Core.Path.{◌≡◌}
use mathlib.Core.List.{List}
use Prim.Native.Nat.{ℕ}
use borrow.Author.Tests.{eq-eqb, ne_eqb}
use Rattle.layout.specs.declared.stored.Layout.{Layout}
use Rattle.buffers.specs.Buffers.{transpose_checks}
use Rattle.transpose.specs.Transpose.{turned_sheet, turned_over, turn_over}

module _ (lay : Layout) (plan source target : List ℕ) where
  pub turn-refused : ((transpose_checks lay plan source target).number ≡ 0 → ⊥)
      → turn_over lay plan source target ≡ turned_over (transpose_checks lay plan source target) target
  unfolding turn_over
  turn-refused h = rw (ne_eqb (transpose_checks lay plan source target).number 0 h)

  pub turn-done : (transpose_checks lay plan source target).number ≡ 0
      → turn_over lay plan source target ≡ turned_over (transpose_checks lay plan source target) (turned_sheet lay plan source)
  unfolding turn_over
  turn-done e = rw (eq-eqb (transpose_checks lay plan source target).number 0 e)
