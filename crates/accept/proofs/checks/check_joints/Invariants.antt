-- `accept::checks::check_joints` meets its contract. The invariant: the first k words are the joint entries of the first k check cells.
-- Assumes nothing.
use Rattle.std.proofs.Common.{◌≡◌, length, take}
use Rattle.gf2.specs.Vectors.{listed}
use Rattle.boxcode.specs.Code.{check_joint}
use Rattle.boxcode.specs.Condition.{everyone}
use Rattle.plan.specs.Bytes.{code_with}
use Rattle.accept.proofs.checks.check_joints.Given as goal

abbrev pub invariant-loop-k : goal.invariant-loop-k
invariant-loop-k l = (length l.joints ≡ 64) × (take l.k l.joints ≡ listed l.k everyone (check_joint (code_with l.view.plan.now l.view.header)))
