-- `plan::form::list_verdict` meets its contract: the search found the place or ran to its end. Assumes nothing.
use Rattle.plan.specs.Form.{list_verdict}
use Rattle.plan.proofs.form.list_verdict.Goals as goal

pub returns : goal.returns
unfolding list_verdict
returns c = rw (← c.first_bad_pair-k.ensures) c.refuse_if.ensures
