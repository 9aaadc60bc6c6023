-- `plan::form::offsets_verdict` meets its contract. Assumes nothing.
use Rattle.plan.specs.Form.{offsets_verdict}
use Rattle.plan.proofs.form.offsets_verdict.Goals as goal

pub returns : goal.returns
unfolding offsets_verdict
returns c = rw (← c.bad_offsets.ensures) c.refuse_if.ensures
