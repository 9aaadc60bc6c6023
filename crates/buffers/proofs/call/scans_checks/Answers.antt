-- `buffers::call::scans_checks` meets its contract: unused bits are looked for in scans of the right length. Assumes nothing.
use Rattle.plan.specs.Bytes.{code_of}
use Rattle.plan.proofs.Framing.{same-header}
use Rattle.plan.proofs.Sequence.{hands-on}
use Rattle.buffers.specs.Buffers.{scans_checks}
use Rattle.buffers.proofs.Passing.{scans-fit, checked-passes, checked-stops, checked-goes-on}
use Rattle.buffers.proofs.call.scans_checks.Goals as goal

pub returns-in_err-accepted-clause-checked : goal.returns-in_err-accepted-clause-checked
unfolding scans_checks
returns-in_err-accepted-clause-checked c = checked-stops _ _ _ c.from_residual.ensures.1 c.in_err-accepted.ensures.checked

pub scans_unused-requires : goal.scans_unused-requires
unfolding code_of
scans_unused-requires c =
    let F = scans-fit _ _ _ (checked-passes c.in_ok-accepted.ensures.checked) in
    rw (same-header c.in_ok-accepted.accepted.view.framed c.in_ok-accepted.ensures.view)
    (record { small = F.accepted.framed.small; first_len = F.first_size; second_len = F.second_size })

pub returns-in_err-scans_unused-clause-checked : goal.returns-in_err-scans_unused-clause-checked
unfolding code_of scans_checks
returns-in_err-scans_unused-clause-checked c =
    let s = c.from_residual-in_err-scans_unused.ensures.1 in
    let e = same-header c.in_ok-accepted.accepted.view.framed c.in_ok-accepted.ensures.view in
    checked-goes-on c.in_ok-accepted.ensures.checked (hands-on _ _ s (rw e at c.in_err-scans_unused.ensures))

pub returns-clause-checked : goal.returns-clause-checked
unfolding code_of scans_checks
returns-clause-checked c =
    let e = same-header c.in_ok-accepted.accepted.view.framed c.in_ok-accepted.ensures.view in
    checked-goes-on c.in_ok-accepted.ensures.checked (rw e at c.in_ok-scans_unused.ensures)
