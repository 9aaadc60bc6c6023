-- `position::find::data_cell` meets its contract: the cell is found from its row and the ends of the row's bits. Assumes nothing.
use Prim.Native.Nat.{◌/◌}
use native.Mathlib.Omega.{arith}
use Rattle.plan.specs.Bytes.{code_with}
use Rattle.position.specs.Placed.{Follows}
use Rattle.position.proofs.Size.{pair-most}
use Rattle.position.proofs.Placed.{row_on, bit-room, bit_below, holds_at}
use Rattle.position.proofs.find.data_cell.Goals as goal

pub overflow_mul-row : goal.overflow_mul-row
overflow_mul-row c =
    let m = c.args.view.framed.small in
    let l = row_on _ c.requires.formed _ _ c.data_after.ensures in
    omega (arith, pair-most _ m (c.data_after.result / c.args.view.header.n2) (omega arith))

pub row_ends-requires : goal.row_ends-requires
row_ends-requires c =
    let p = c.requires in
    let l = row_on _ p.formed _ _ c.data_after.ensures in
    record { formed = p.formed; row_le_n1 = omega arith; check_value = c.checks_before-check.ensures }

pub bit-place-requires : goal.bit-place-requires
bit-place-requires c = rw c.row_ends.ensures (bit-room _ c.requires.formed _ _ c.data_after.ensures)

pub data_after-requires-2 : goal.data_after-requires-2
data_after-requires-2 c =
    let p = c.requires in
    let e = rw c.row_ends.ensures at c.bit-place.ensures in
    record { formed = p.formed; count_bound = omega (arith, e, p.d_bound, bit_below _ p.formed _ _ c.data_after.ensures) }

pub returns : goal.returns
returns c =
    let S : Follows (code_with c.args.view.plan.now c.args.view.header) c.bit-place.result c.data_after-2.result = c.data_after-2.ensures in
    holds_at _ c.requires.formed _ _ c.data_after.ensures _ (rw (c.bit-place.ensures, c.row_ends.ensures) at S)
