-- `writer::writing::write_sheet` meets its contract: the sheet that holds the data is brought up to date. Assumes nothing.
use mathlib.Core.Path.{◌∙◌}
use Rattle.layout.proofs.Layouts.{laws}
use Rattle.boxcode.specs.Check.{data_size, fill}
use Rattle.plan.specs.Bytes.{code_with}
use Rattle.writer.specs.Write.{data_bits}
use Rattle.writer.proofs.Balanced.{filled-written}
use Rattle.writer.proofs.writing.write_sheet.Goals as goal

pub put-requires : goal.put-requires
put-requires c =
    let p = c.requires in
    record { formed = c.args.accepted.accepted.formed; bits_len = p.bits_len; sheet_len = p.sheet_len }

pub joint_sum-sum-requires : goal.joint_sum-sum-requires
joint_sum-sum-requires c =
    let p = c.requires in
    record { formed = c.args.accepted.accepted.formed; unpacked = p.unpacked; sheet_len = c.put.auto.sheet ∙ p.sheet_len }

pub balance-requires : goal.balance-requires
balance-requires c =
    let a = c.args in
    let code = code_with a.accepted.view.plan.now a.accepted.view.header in
    let filled = (laws a.lay a.accepted.view.header.n1 a.accepted.view.header.n2).form (fill code (data_bits (data_size code) a.bits.now) 0) in
    record { form_in = rw c.put.ensures filled; joint_sum = c.joint_sum-sum.ensures }

pub returns : goal.returns
returns c =
    let A = c.args.accepted.accepted in
    let code = code_with c.args.accepted.view.plan.now c.args.accepted.view.header in
    filled-written c.args.lay code A.formed A.conditions (data_bits (data_size code) c.args.bits.now) _ _
    c.put.ensures c.balance.ensures
