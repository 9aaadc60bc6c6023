-- The house plan, proved: one declaration for each theorem of specs/House.antt, of that type.
--
--   house-rule, house-table, house-refused
--
-- Assumes nothing.
use Rattle.gf2.proofs.PowerTable.{table-length}
use Rattle.house.specs.House.{house_polynomial, house_entries, house_columns}
use Rattle.house.proofs.Table.{house-first, house-next}
use Rattle.houseplan.proofs.House as house
use Rattle.promise.specs.House as promise

pub house-rule : promise.HouseRule
unfolding house_columns
house-rule = record { size = table-length house_polynomial 1 house_entries; first = house-first; next = house-next }

pub house-table : promise.HouseTable
house-table = house.house-column

pub house-refused : promise.HouseRefused
house-refused = house.house-refused
