-- `sheet::sheet_house_plan` meets its contract: the maker's outcome of the house numbers, its number and places packed. Assumes nothing.
use native.Mathlib.Omega.{arith}
use Rattle.sheet.proofs.Ranges.{made_range, made-packed}
use Rattle.sheet.proofs.sheet_house_plan.Goals as goal

pub pack_told-requires : goal.pack_told-requires
pack_told-requires c = made_range _ _ c.make_house.ensures

pub returns : goal.returns
returns c = rw c.pack_told.ensures (made-packed _ _ c.make_house.ensures)
