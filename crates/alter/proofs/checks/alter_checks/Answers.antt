-- `alter::checks::alter_checks` meets its contract: the position and the sums are looked at where the sheet is of the right form. Assumes nothing.
use mathlib.Core.Path.{refl}
use Rattle.boxcode.specs.Check.{data_size}
use Rattle.boxcode.proofs.Check.{checks-fit}
use Rattle.plan.specs.Bytes.{code_of}
use Rattle.plan.proofs.Framing.{same-header}
use Rattle.plan.proofs.Sequence.{hands-on, stops, goes-on}
use Rattle.buffers.proofs.Passing.{form-zero, checked-passes}
use Rattle.alter.specs.Alter.{alter_checks}
use Rattle.alter.proofs.checks.alter_checks.Goals as goal

pub returns-in_err-accepted-clause-told : goal.returns-in_err-accepted-clause-told
unfolding alter_checks
returns-in_err-accepted-clause-told c = stops _ _ _ c.from_residual.ensures.1 c.in_err-accepted.ensures.checked.verdict

pub position_verdict-requires : goal.position_verdict-requires
unfolding code_of
position_verdict-requires c =
    let F = form-zero _ _ (checked-passes c.in_ok-accepted.ensures.checked) in
    rw (same-header c.in_ok-accepted.accepted.view.framed c.in_ok-accepted.ensures.view)
    (record { small = F.accepted.framed.small; rh_bound = checks-fit _ F.accepted.formed })

pub returns-in_err-position_verdict-clause-told : goal.returns-in_err-position_verdict-clause-told
unfolding alter_checks code_of data_size
returns-in_err-position_verdict-clause-told c =
    let s = c.from_residual-in_err-position_verdict.ensures.1 in
    let e = same-header c.in_ok-accepted.accepted.view.framed c.in_ok-accepted.ensures.view in
    goes-on c.in_ok-accepted.ensures.checked.verdict (stops _ _ _ s (rw e at c.in_err-position_verdict.ensures))

pub belong_verdict-requires : goal.belong_verdict-requires
unfolding code_of
belong_verdict-requires c =
    let C = c.in_ok-accepted.ensures.checked in
    let F = form-zero _ _ (checked-passes C) in
    let e = c.in_ok-accepted.ensures.view in
    rw (same-header c.in_ok-accepted.accepted.view.framed e, e)
    (record { formed = F.accepted.formed; unpacked = C.unpacked refl; sheet_len = F.form.size })

pub returns-in_err-belong_verdict-clause-told : goal.returns-in_err-belong_verdict-clause-told
unfolding alter_checks code_of data_size
returns-in_err-belong_verdict-clause-told c =
    let s = c.from_residual-in_err-belong_verdict.ensures.1 in
    let v = c.in_ok-accepted.ensures.view in
    let e = same-header c.in_ok-accepted.accepted.view.framed v in
    goes-on c.in_ok-accepted.ensures.checked.verdict
    (goes-on (rw e at c.in_ok-position_verdict.ensures) (hands-on _ _ s (rw (e, v) at c.in_err-belong_verdict.ensures)))

pub returns-clause-told : goal.returns-clause-told
unfolding alter_checks code_of data_size
returns-clause-told c =
    let v = c.in_ok-accepted.ensures.view in
    let e = same-header c.in_ok-accepted.accepted.view.framed v in
    goes-on c.in_ok-accepted.ensures.checked.verdict
    (goes-on (rw e at c.in_ok-position_verdict.ensures) (rw (e, v) at c.in_ok-belong_verdict.ensures))
