-- `houseplan::make_checked` meets its contract: both tables are those that the maker would lay out. Assumes nothing.
use mathlib.Core.Path.{refl}
use native.Mathlib.Omega.{arith}
use Rattle.house.specs.House.{house_polynomial}
use Rattle.maker.proofs.Tabled.{tables-filled}
use Rattle.houseplan.specs.HousePlan.{house_parameters}
use Rattle.houseplan.proofs.make_checked.Goals as goal

pub overflow_mul-g : goal.overflow_mul-g
overflow_mul-g c = rw c.parameters-g.ensures (omega arith)

pub fill_powers-requires : goal.fill_powers-requires
fill_powers-requires c = rw c.parameters-g.ensures (record { le_degree = (omega arith, omega arith, omega arith); count_in_bounds = omega arith })

pub make_filled-requires : goal.make_filled-requires
unfolding house_polynomial
make_filled-requires c =
    let e = c.parameters-g.ensures in
    rw e (record { plan_value = c.requires; power_tables = tables-filled house_parameters _ _ _ _ refl refl (rw e at c.fill_powers.ensures) c.lay_columns.ensures })

pub returns : goal.returns
returns c = rw c.parameters-g.ensures at c.make_filled.ensures
