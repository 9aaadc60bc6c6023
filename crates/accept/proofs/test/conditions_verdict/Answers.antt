-- `accept::test::conditions_verdict` meets its contract: each check is asked for only where those before it passed. Assumes nothing.
use Rattle.plan.proofs.Sequence.{stops, goes-on}
use Rattle.accept.specs.Verdict.{conditions_verdict}
use Rattle.accept.proofs.test.conditions_verdict.Goals as goal

pub returns-in_err-condition_verdict-clause-told : goal.returns-in_err-condition_verdict-clause-told
unfolding conditions_verdict
returns-in_err-condition_verdict-clause-told c = stops _ _ _ c.from_residual.ensures.1 c.in_err-condition_verdict.ensures.told

pub returns-in_err-condition_verdict-2-clause-told : goal.returns-in_err-condition_verdict-2-clause-told
unfolding conditions_verdict
returns-in_err-condition_verdict-2-clause-told c =
    let s = c.from_residual-in_err-condition_verdict-2.ensures.1 in
    goes-on c.in_ok-condition_verdict.ensures.told (stops _ _ _ s c.in_err-condition_verdict-2.ensures.told)

pub returns-clause-told : goal.returns-clause-told
unfolding conditions_verdict
returns-clause-told c =
    goes-on c.in_ok-condition_verdict.ensures.told (goes-on c.in_ok-condition_verdict-2.ensures.told c.checks_verdict.ensures)
