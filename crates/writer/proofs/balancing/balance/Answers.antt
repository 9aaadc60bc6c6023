-- `writer::balancing::balance` meets its contract: the check cells are turned over that bring the joint sum to 0. Assumes nothing.
use Rattle.layout.proofs.Layouts.{in_size}
use Rattle.plan.specs.Bytes.{code_with}
use Rattle.writer.proofs.Balanced.{turned-written}
use Rattle.writer.proofs.balancing.balance.Goals as goal

pub check_digits-y-requires : goal.check_digits-y-requires
check_digits-y-requires c =
    let p = c.requires in
    record { formed = c.args.accepted.accepted.formed; conditions = c.args.accepted.accepted.conditions; target_bound = p.joint_sum.below }

pub turn_checks-requires : goal.turn_checks-requires
turn_checks-requires c =
    let a = c.args in
    let p = c.requires in
    record { formed = c.args.accepted.accepted.formed; sheet_len = in_size a.lay a.accepted.view.header.n1 a.accepted.view.header.n2 a.sheet.now p.form_in }

pub returns : goal.returns
returns c =
    let A = c.args.accepted.accepted in
    turned-written c.args.lay (code_with c.args.accepted.view.plan.now c.args.accepted.view.header) A.formed A.conditions _ _ _ _ c.requires.form_in c.requires.joint_sum
    c.check_digits-y.ensures c.turn_checks.ensures
