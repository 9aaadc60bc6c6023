-- `alter::checks::belong_verdict` meets its contract. Assumes nothing.
use mathlib.Core.Path.{◌≡◌, ap, ◌∙◌}
use mathlib.Core.Bool.{Bool, not}
use lib.Dec.{eqb}
use Rattle.layout.specs.Cells.{cell_of}
use Rattle.plan.specs.Verdict.{refusal, verdict_if, told}
use Rattle.plan.specs.Bytes.{code_with}
use Rattle.alter.specs.Alter.{belong_verdict}
use Rattle.alter.proofs.Passing.{joint-test}
use Rattle.alter.proofs.checks.belong_verdict.Goals as goal

pub returns : goal.returns
unfolding belong_verdict
returns c =
    let code = code_with c.args.view.plan.now c.args.view.header in
    let sum = c.joint_sum in
    let e : told c.refuse_if.result ≡ verdict_if (not (eqb sum.result 0)) (refusal 18 0 0) = c.refuse_if.ensures in
    e
    ∙ ap (λ (b : Bool). verdict_if (not b) (refusal 18 0 0))
    (joint-test code c.requires.formed (cell_of c.args.view.header.n2 c.args.sheet.now) sum.result sum.ensures)
