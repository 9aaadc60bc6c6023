-- `sheet::sheet_plan_make` meets its contract: the maker's outcome, its number and places packed. Assumes nothing.
use native.Mathlib.Omega.{arith}
use Rattle.sheet.proofs.Ranges.{made_range, made-packed}
use Rattle.sheet.proofs.sheet_plan_make.Goals as goal

pub pack_told-requires : goal.pack_told-requires
pack_told-requires c = made_range _ _ c.make.ensures

pub returns : goal.returns
returns c = rw c.pack_told.ensures (made-packed _ _ (rw (c.from.ensures, c.from-2.ensures) at c.make.ensures))
