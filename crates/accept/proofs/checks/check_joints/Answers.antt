use Rattle.std.proofs.Common.{◌≡◌, ◌+◌, length-set, refl, sym, ◌∙◌, arith}
use Rattle.boxcode.specs.Code.{check_joint}
use Rattle.plan.specs.Bytes.{code_with}
use Rattle.accept.specs.Joints.{joints_of}
use Rattle.accept.proofs.JointEntries.{joints-none, joints-next}
use Rattle.accept.proofs.checks.check_joints.Goals as goal

pub loop-k-init : goal.loop-k-init
loop-k-init c = (refl, sym (joints-none (code_with c.args.view.plan.now c.args.view.header)))

pub loop-k-preserved : goal.loop-k-preserved
unfolding check_joint
loop-k-preserved c =
    let l = c.loop-k in
    let s = c.args in
    let e : c.joint_entry.result ≡ check_joint (code_with s.view.plan.now s.view.header) l.k =
    rw c.check_cell-cell.ensures.value at c.joint_entry.ensures.value in (
      length-set l.joints l.k c.joint_entry.result ∙ l.invariant.0,
      joints-next (code_with s.view.plan.now s.view.header) l.joints l.k c.joint_entry.result (omega arith) l.invariant.1 e,
    )

pub returns : goal.returns
unfolding joints_of
returns c =
    let e : c.loop-k.k ≡ c.args.view.header.rv + c.args.view.header.rh = omega arith in
    record { size = c.loop-k.invariant.0; few = omega arith; held = rw e at c.loop-k.invariant.1 }
