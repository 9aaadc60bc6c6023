-- `plan::form::fields_verdict` meets its contract: the offsets are asked for where the sizes are in range. Assumes nothing.
use Rattle.plan.specs.Form.{fields_verdict}
use Rattle.plan.proofs.Framing.{sizes-small}
use Rattle.plan.proofs.Sequence.{passed, stops, goes-on}
use Rattle.plan.proofs.form.fields_verdict.Goals as goal

pub returns-in_err-sizes_verdict : goal.returns-in_err-sizes_verdict
unfolding fields_verdict
returns-in_err-sizes_verdict c = stops _ _ _ c.from_residual.ensures.1 c.in_err-sizes_verdict.ensures

pub offsets_verdict-requires : goal.offsets_verdict-requires
offsets_verdict-requires c = sizes-small _ (passed c.in_ok-sizes_verdict.ensures)

pub returns : goal.returns
unfolding fields_verdict
returns c = goes-on c.in_ok-sizes_verdict.ensures c.offsets_verdict.ensures
