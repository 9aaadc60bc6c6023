-- `plan::form::form_verdict` meets its contract: each stage is asked for only where those before it passed. Assumes nothing.
use Rattle.plan.specs.Form.{form_verdict}
use Rattle.plan.proofs.Framing.{same-code}
use Rattle.plan.proofs.Sequence.{hands-on, stops, goes-on}
use Rattle.plan.proofs.form.form_verdict.Goals as goal

pub returns-in_err-view-clause-told : goal.returns-in_err-view-clause-told
unfolding form_verdict
returns-in_err-view-clause-told c = stops _ _ _ c.from_residual.ensures.1 c.in_err-view.ensures.told

pub returns-in_err-entries_verdict-clause-told : goal.returns-in_err-entries_verdict-clause-told
unfolding form_verdict
returns-in_err-entries_verdict-clause-told c =
    let s = c.from_residual-in_err-entries_verdict.ensures.1 in
    rw (← same-code c.in_ok-view.view.framed c.in_ok-view.ensures.view) (goes-on c.in_ok-view.ensures.told (stops _ _ _ s c.in_err-entries_verdict.ensures))

pub returns-in_err-list_verdict-clause-told : goal.returns-in_err-list_verdict-clause-told
unfolding form_verdict
returns-in_err-list_verdict-clause-told c =
    let s = c.from_residual-in_err-list_verdict.ensures.1 in
    rw (← same-code c.in_ok-view.view.framed c.in_ok-view.ensures.view)
    (goes-on c.in_ok-view.ensures.told (goes-on c.in_ok-entries_verdict.ensures (hands-on _ _ s c.in_err-list_verdict.ensures)))

pub returns-clause-told : goal.returns-clause-told
unfolding form_verdict
returns-clause-told c =
    rw (← same-code c.in_ok-view.view.framed c.in_ok-view.ensures.view)
    (goes-on c.in_ok-view.ensures.told (goes-on c.in_ok-entries_verdict.ensures c.in_ok-list_verdict.ensures))
