-- `putback::checks::back_checks` meets its contract: the answer is looked at where the sheet is of the right form. Assumes nothing.
use mathlib.Core.Path.{◌≡◌, refl, sym, ap, ◌∙◌}
use mathlib.Core.Bool.{Bool}
use Rattle.plan.specs.Verdict.{refusal, verdict_if}
use Rattle.plan.specs.Bytes.{code_of, code_with}
use Rattle.plan.proofs.Framing.{same-header}
use Rattle.plan.proofs.Sequence.{hands-on, stops, goes-on}
use Rattle.putback.specs.PutBack.{no_burst, burst_verdict, back_checks}
use Rattle.putback.proofs.checks.back_checks.Goals as goal

pub returns-in_err-accepted-clause-told : goal.returns-in_err-accepted-clause-told
unfolding back_checks
returns-in_err-accepted-clause-told c = stops _ _ _ c.from_residual.ensures.1 c.in_err-accepted.ensures.checked.verdict

pub returns-in_err-refuse_if-clause-told : goal.returns-in_err-refuse_if-clause-told
unfolding back_checks burst_verdict code_of
returns-in_err-refuse_if-clause-told c =
    let s = c.from_residual-in_err-refuse_if.ensures.1 in
    let v = c.in_ok-accepted.ensures.view in
    let e = same-header c.in_ok-accepted.accepted.view.framed v in
    goes-on c.in_ok-accepted.ensures.checked.verdict
    (hands-on _ _ s (rw (e, v) at (c.in_err-refuse_if.ensures ∙ ap (λ (t : Bool). verdict_if t (refusal 22 0 0)) c.no_burst.ensures)))

pub returns-clause-told : goal.returns-clause-told
unfolding back_checks burst_verdict code_of
returns-clause-told c =
    let v = c.in_ok-accepted.ensures.view in
    let e = same-header c.in_ok-accepted.accepted.view.framed v in
    goes-on c.in_ok-accepted.ensures.checked.verdict
    (rw (e, v) at (c.in_ok-refuse_if.ensures ∙ ap (λ (t : Bool). verdict_if t (refusal 22 0 0)) c.no_burst.ensures))
