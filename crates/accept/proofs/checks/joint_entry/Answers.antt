-- `accept::checks::joint_entry` meets its contract: the two entries of the cell, joined. Assumes nothing.
use mathlib.Core.Path.{◌≡◌}
use Prim.Native.Nat.{◌+◌, ◌*◌, ◌^◌}
use native.Mathlib.Omega.{arith}
use Rattle.plan.specs.Bytes.{code_with}
use Rattle.accept.proofs.JointEntries.{joint-of}
use Rattle.accept.proofs.checks.joint_entry.Goals as goal

pub joined-requires : goal.joined-requires
joined-requires c =
    let v = c.row_weight.ensures.below in
    let w = c.column_weight.ensures.below in
    (c.args.view.framed.small.rv_most, omega arith, omega arith)

pub returns : goal.returns
returns c =
    let e : c.joined.result ≡ c.row_weight.result + 2 ^ c.args.view.header.rv * c.column_weight.result = c.joined.ensures in
    rw e
    (joint-of (code_with c.args.view.plan.now c.args.view.header) c.requires.formed c.args.i c.args.j _ _ c.requires.i_lt_n1.0 c.requires.i_lt_n1.1
    c.row_weight.ensures.value c.column_weight.ensures.value)
