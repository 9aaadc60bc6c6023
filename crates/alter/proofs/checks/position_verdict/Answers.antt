-- `alter::checks::position_verdict` meets its contract. Assumes nothing.
use mathlib.Core.Path.{◌≡◌, ◌∙◌}
use lib.Dec.{leb}
use Rattle.plan.specs.Verdict.{refusal, verdict_if, told}
use Rattle.alter.specs.Alter.{position_verdict}
use Rattle.alter.proofs.checks.position_verdict.Goals as goal

pub returns : goal.returns
unfolding position_verdict
returns c =
    let d = c.args.position in
    let e : told c.refuse_if.result ≡ verdict_if (leb c.data_size.result d) (refusal 17 0 0) = c.refuse_if.ensures in
    e ∙ rw c.data_size.ensures
