-- What the reader makes of a sheet:
--
--   mendable                   some burst, possibly empty, brings both sums to 0
--   fits-mendable              a sheet that some burst fits is mendable
--   change-burst, change-fits  the change of a mendable sheet is a burst that fits
--   mendable-iff               a sheet is mendable exactly where some burst fits it
--   change-is                  under separation the change is the burst that fits
--
-- Assumes nothing.
use mathlib.Core.Path.{◌≡◌, sym}
use mathlib.Core.Logic.{◌↔◌}
use mathlib.Core.Bool.{Bool, true}
use Prim.Native.Nat.{ℕ}
use Rattle.boxcode.specs.Code.{Code, Formed}
use Rattle.boxcode.specs.Syndrome.{Cells, row_syndrome, column_syndrome}
use Rattle.boxcode.specs.Burst.{Burst, Fits, has_burst}
use Rattle.boxcode.specs.Reader.{change}
use Rattle.boxcode.proofs.Separated.{Separated, fits-unique}
use Rattle.boxcode.proofs.Burst.{fits-row, fits-column, sums-fit}
use Rattle.boxcode.proofs.Trial.{BurstWith, found, has-burst}

unfoldable pub mendable : Code → Cells → Bool
mendable c s = has_burst c (row_syndrome c s) (column_syndrome c s)

module _ (c : Code) (F : Formed c) (s : Cells) where
  pub fits-mendable : (e : Cells) → Burst c e → Fits c s e → mendable c s ≡ true
  unfolding mendable
  fits-mendable e B f =
      has-burst c F (row_syndrome c s) (column_syndrome c s) e
      (record { burst = B; row = sym (fits-row c s e f); column = sym (fits-column c s e f) })

  change-found : mendable c s ≡ true → BurstWith c (row_syndrome c s) (column_syndrome c s) (change c s)
  unfolding mendable change
  change-found t = found c F (row_syndrome c s) (column_syndrome c s) t

  pub change-burst : mendable c s ≡ true → Burst c (change c s)
  change-burst t = (change-found t).burst

  pub change-fits : mendable c s ≡ true → Fits c s (change c s)
  change-fits t = sums-fit c s (change c s) (sym (change-found t).row) (sym (change-found t).column)

  -- 01: "it answers 14 to those that no blot fits and takes all others"
  pub mendable-iff : (mendable c s ≡ true) ↔ ((e : Cells) × Burst c e × Fits c s e)
  mendable-iff = (λ t. (change c s, change-burst t, change-fits t), λ w. fits-mendable w.0 w.1 w.2)

  pub change-is : Separated c → (e : Cells) → Burst c e → Fits c s e → (i j : ℕ) → change c s i j ≡ e i j
  change-is S e B f =
      let t = fits-mendable e B f in
      fits-unique c S s (change c s) e (change-burst t) B (change-fits t) f
