-- What mending rests on. Nothing but this is used of the conditions on rows and columns.
--
--   Separated     bursts with equal V sums have the same pattern; bursts with the same pattern and equal H sums are the same cells:
--                 for any two windows and any two strips
--   unique        two bursts with equal sums are the same cells
--   fits-unique   two bursts that fit a sheet are the same cells
--
-- Assumes nothing.
use mathlib.Core.Path.{◌≡◌, sym, ◌∙◌}
use Prim.Native.Nat.{ℕ}
use Rattle.boxcode.specs.Code.{Code}
use Rattle.boxcode.specs.Syndrome.{Cells, row_syndrome, column_syndrome, SameCells}
use Rattle.boxcode.specs.Burst.{Burst, Fits}
use Rattle.boxcode.proofs.Burst.{burst-on, same-everywhere, fits-row, fits-column}
use Rattle.boxcode.proofs.Pattern.{SamePattern}

pub record Separated (c : Code) : Type 0 where
  pub rows : (e e' : Cells) (B : Burst c e) (B' : Burst c e') → row_syndrome c e ≡ row_syndrome c e'
      → SamePattern c B.left e B'.left e'
  pub columns : (e e' : Cells) (B : Burst c e) (B' : Burst c e') → SamePattern c B.left e B'.left e'
      → column_syndrome c e ≡ column_syndrome c e' → SameCells c e e'

module _ (c : Code) (S : Separated c) where
  pub unique : (e e' : Cells) → Burst c e → Burst c e' → row_syndrome c e ≡ row_syndrome c e' → column_syndrome c e ≡ column_syndrome c e'
      → (i j : ℕ) → e i j ≡ e' i j
  unique e e' B B' p q = same-everywhere c e e' (burst-on c e B) (burst-on c e' B') (S.columns e e' B B' (S.rows e e' B B' p) q)

  pub fits-unique : (s e e' : Cells) → Burst c e → Burst c e' → Fits c s e → Fits c s e' → (i j : ℕ) → e i j ≡ e' i j
  fits-unique s e e' B B' f f' =
      unique e e' B B' (sym (fits-row c s e f) ∙ fits-row c s e' f') (sym (fits-column c s e f) ∙ fits-column c s e' f')
