-- `plan::form::entries_verdict` meets its contract: V is asked, and then H. Assumes nothing.
use Rattle.plan.specs.Form.{entries_verdict}
use Rattle.plan.proofs.Sequence.{stops, goes-on}
use Rattle.plan.proofs.form.entries_verdict.Goals as goal

pub returns-in_err-table_verdict : goal.returns-in_err-table_verdict
unfolding entries_verdict
returns-in_err-table_verdict c = stops _ _ _ c.from_residual.ensures.1 c.in_err-table_verdict.ensures

pub returns : goal.returns
unfolding entries_verdict
returns c = goes-on c.in_ok-table_verdict.ensures c.table_verdict-2.ensures
