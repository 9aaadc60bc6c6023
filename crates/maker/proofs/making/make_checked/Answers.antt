-- `maker::making::make_checked` meets its contract: both tables are laid out, each in the room that its size needs. Assumes nothing.
use mathlib.Core.Path.{refl}
use Prim.Native.Nat.{◌*◌, ◌≤◌}
use native.Mathlib.Omega.{arith}
use lib.ListN.{length}
use Rattle.plan.specs.Header.{ruled}
use Rattle.maker.proofs.Given.{Good, given-good}
use Rattle.maker.proofs.Tabled.{tables-filled}
use Rattle.maker.proofs.making.make_checked.Goals as goal

pub overflow_mul-g : goal.overflow_mul-g
unfolding ruled
overflow_mul-g c =
    let good : Good c.args.g (length c.args.plan.now) = given-good _ _ c.requires in
    let room : let g = c.args.g in (g.n1 * g.b2 ≤ 2048) × (g.n2 * g.b1 ≤ 2792) = let p = good.small in (p.row_positions, p.column_positions) in
    omega (arith, room.0)

pub fill_powers-requires : goal.fill_powers-requires
unfolding ruled
fill_powers-requires c =
    let good : Good c.args.g (length c.args.plan.now) = given-good _ _ c.requires in
    let room : let g = c.args.g in (g.n1 * g.b2 ≤ 2048) × (g.n2 * g.b1 ≤ 2792) = let p = good.small in (p.row_positions, p.column_positions) in
    let d = good.degrees in
    record { le_degree = (d.rv_pos, d.rv_most, d.v_below); count_in_bounds = omega (arith, room.0) }

pub overflow_mul-g-2 : goal.overflow_mul-g-2
unfolding ruled
overflow_mul-g-2 c =
    let good : Good c.args.g (length c.args.plan.now) = given-good _ _ c.requires in
    let room : let g = c.args.g in (g.n1 * g.b2 ≤ 2048) × (g.n2 * g.b1 ≤ 2792) = let p = good.small in (p.row_positions, p.column_positions) in
    omega (arith, room.1)

pub fill_powers-requires-2 : goal.fill_powers-requires-2
unfolding ruled
fill_powers-requires-2 c =
    let good : Good c.args.g (length c.args.plan.now) = given-good _ _ c.requires in
    let room : let g = c.args.g in (g.n1 * g.b2 ≤ 2048) × (g.n2 * g.b1 ≤ 2792) = let p = good.small in (p.row_positions, p.column_positions) in
    let d = good.degrees in
    record { le_degree = (d.rh_pos, d.rh_most, d.h_below); count_in_bounds = omega (arith, room.1) }

pub make_filled-requires : goal.make_filled-requires
make_filled-requires c = record { plan_value = c.requires; power_tables = tables-filled c.args.g _ _ _ _ refl refl c.fill_powers.ensures c.fill_powers-2.ensures }
