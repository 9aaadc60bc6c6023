-- `buffers::call::read_two_checks` meets its contract: the data's length and unused bits are asked for where both scans have the right length. Assumes nothing.
use Rattle.boxcode.specs.Check.{data_size}
use Rattle.boxcode.proofs.Check.{checks-fit}
use Rattle.plan.specs.Bytes.{code_of}
use Rattle.plan.proofs.Framing.{same-header}
use Rattle.plan.proofs.Sequence.{hands-on, stops, goes-on}
use Rattle.buffers.specs.Buffers.{read_two_checks}
use Rattle.buffers.proofs.Passing.{scans-fit, checked-passes, checked-stops, checked-goes-on}
use Rattle.buffers.proofs.call.read_two_checks.Goals as goal

pub returns-in_err-accepted-clause-checked : goal.returns-in_err-accepted-clause-checked
unfolding read_two_checks
returns-in_err-accepted-clause-checked c = checked-stops _ _ _ c.from_residual.ensures.1 c.in_err-accepted.ensures.checked

pub data_length-requires : goal.data_length-requires
unfolding code_of
data_length-requires c =
    let F = scans-fit _ _ _ (checked-passes c.in_ok-accepted.ensures.checked) in
    let e = same-header c.in_ok-accepted.accepted.view.framed c.in_ok-accepted.ensures.view in
    record { small = c.in_ok-accepted.accepted.view.framed.small; rh_bound = rw e (checks-fit _ F.accepted.formed) }

pub scans_unused-requires : goal.scans_unused-requires
unfolding code_of
scans_unused-requires c =
    let F = scans-fit _ _ _ (checked-passes c.in_ok-accepted.ensures.checked) in
    rw (same-header c.in_ok-accepted.accepted.view.framed c.in_ok-accepted.ensures.view)
    (record { small = F.accepted.framed.small; first_len = F.first_size; second_len = F.second_size })

pub returns-in_err-data_length-clause-checked : goal.returns-in_err-data_length-clause-checked
unfolding code_of data_size read_two_checks
returns-in_err-data_length-clause-checked c =
    let s = c.from_residual-in_err-data_length.ensures.1 in
    let e = same-header c.in_ok-accepted.accepted.view.framed c.in_ok-accepted.ensures.view in
    checked-goes-on c.in_ok-accepted.ensures.checked (stops _ _ _ s (rw e at c.in_err-data_length.ensures))

pub returns-in_err-scans_unused-clause-checked : goal.returns-in_err-scans_unused-clause-checked
unfolding code_of data_size read_two_checks
returns-in_err-scans_unused-clause-checked c =
    let s = c.from_residual-in_err-scans_unused.ensures.1 in
    let e = same-header c.in_ok-accepted.accepted.view.framed c.in_ok-accepted.ensures.view in
    checked-goes-on c.in_ok-accepted.ensures.checked (goes-on (rw e at c.in_ok-data_length.ensures) (hands-on _ _ s (rw e at c.in_err-scans_unused.ensures)))

pub returns-clause-checked : goal.returns-clause-checked
unfolding code_of data_size read_two_checks
returns-clause-checked c =
    let e = same-header c.in_ok-accepted.accepted.view.framed c.in_ok-accepted.ensures.view in
    checked-goes-on c.in_ok-accepted.ensures.checked (goes-on (rw e at c.in_ok-data_length.ensures) (rw e at c.in_ok-scans_unused.ensures))
