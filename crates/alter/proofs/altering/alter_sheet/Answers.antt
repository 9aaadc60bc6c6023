-- `alter::altering::alter_sheet` meets its contract: the joint entry of the cell that was turned over is the joint sum to bring to 0. Assumes nothing.
use Prim.Native.Nat.{◌<◌}
use native.Mathlib.Omega.{arith}
use Rattle.layout.proofs.Form.{byte_inside}
use Rattle.layout.proofs.Turned.{turned-form}
use Rattle.boxcode.proofs.One.{row_on, column-on}
use Rattle.plan.specs.Bytes.{code_with}
use Rattle.alter.proofs.Turned.{turned-joint, turned-altered}
use Rattle.alter.proofs.altering.alter_sheet.Goals as goal

pub joint_entry-joint-requires : goal.joint_entry-joint-requires
joint_entry-joint-requires c =
    let on_sheet : let h = c.args.accepted.view.header in (c.data_cell-cell.result.row < h.n1) × (c.data_cell-cell.result.column < h.n2) = let p = c.requires in
    let e = c.data_cell-cell.ensures in
    (omega (arith, e.row, row_on _ c.args.accepted.accepted.formed _ p.position_bound), omega (arith, e.column, column-on _ c.args.accepted.accepted.formed _ p.position_bound)) in
    let A = c.args.accepted.accepted in record { formed = A.formed; i_lt_n1 = on_sheet }

pub turn-requires : goal.turn-requires
turn-requires c =
    let on_sheet : let h = c.args.accepted.view.header in (c.data_cell-cell.result.row < h.n1) × (c.data_cell-cell.result.column < h.n2) = let p = c.requires in
    let e = c.data_cell-cell.ensures in
    (omega (arith, e.row, row_on _ c.args.accepted.accepted.formed _ p.position_bound), omega (arith, e.column, column-on _ c.args.accepted.accepted.formed _ p.position_bound)) in
    let p = c.requires in
    let b = byte_inside _ _ on_sheet.1 _ _ on_sheet.0 in
    (omega (arith, c.args.accepted.accepted.formed.n2_most), omega (arith, p.right_form.size))

pub balance-requires : goal.balance-requires
balance-requires c =
    let on_sheet : let h = c.args.accepted.view.header in (c.data_cell-cell.result.row < h.n1) × (c.data_cell-cell.result.column < h.n2) = let p = c.requires in
    let e = c.data_cell-cell.ensures in
    (omega (arith, e.row, row_on _ c.args.accepted.accepted.formed _ p.position_bound), omega (arith, e.column, column-on _ c.args.accepted.accepted.formed _ p.position_bound)) in
    let p = c.requires in
    let f = p.right_form in
    let i = on_sheet.0 in
    let j = on_sheet.1 in
    record {
      form_in = rw c.turn.ensures (turned-form _ _ _ f _ _ i j);
      joint_sum = rw c.turn.ensures (turned-joint _ c.args.accepted.accepted.formed _ f _ _ _ i j p.belongs c.joint_entry-joint.ensures);
    }

pub returns : goal.returns
returns c =
    let e = c.data_cell-cell.ensures in
    let A = c.args.accepted.accepted in
    turned-altered (code_with c.args.accepted.view.plan.now c.args.accepted.view.header) A.formed _ c.requires.right_form c.args.position c.requires.position_bound A.conditions _ _
    (rw (e.row, e.column) at c.turn.ensures) c.balance.ensures
