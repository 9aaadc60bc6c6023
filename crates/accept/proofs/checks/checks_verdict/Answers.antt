-- `accept::checks::checks_verdict` meets its contract: the basis stops at the first dependent entry. Assumes nothing.
use mathlib.Core.List.{[]}
use mathlib.Core.Path.{◌≡◌, sym, ap, ◌∙◌}
use Prim.Native.Nat.{◌+◌}
use native.Mathlib.Omega.{arith}
use lib.ListN.{length-take}
use lib.Seq.{length-take-le}
use Rattle.finite.specs.Search.{least}
use Rattle.gf2.specs.Independence.{spanned}
use Rattle.gf2.specs.Vectors.{taken_from}
use Rattle.boxcode.specs.Code.{check_joint}
use Rattle.boxcode.specs.Condition.{everyone}
use Rattle.plan.specs.Bytes.{code_with}
use Rattle.accept.specs.Verdict.{checks_verdict}
use Rattle.accept.proofs.JointEntries.{joints-taken}
use Rattle.accept.proofs.checks.checks_verdict.Goals as goal

pub slice_bounds-keep-end : goal.slice_bounds-keep-end
slice_bounds-keep-end c =
    let j = c.check_joints-joints.ensures in
    sym (length-take-le _ _ (omega arith))

pub keep-taken-requires : goal.keep-taken-requires
keep-taken-requires c =
    let s = c.args in
    let j = c.check_joints-joints.ensures in
    omega (arith, length-take (s.view.header.rv + s.view.header.rh) c.check_joints-joints.result, j.few)

pub returns : goal.returns
unfolding checks_verdict
returns c =
    let code = code_with c.args.view.plan.now c.args.view.header in
    let j = c.check_joints-joints.ensures in
    let t : c.keep-taken.result.taken ≡ least (code.rv + code.rh) (λ k. spanned k everyone (check_joint code) (check_joint code k)) =
    c.keep-taken.ensures.count ∙ ap (taken_from []) j.held ∙ joints-taken code c.requires in
    rw (← t) c.refuse_if.ensures
