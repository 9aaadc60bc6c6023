-- `buffers::call::length_checks` meets its contract: the data's length is asked for only where checks 1 to 11 passed. Assumes nothing.
use Rattle.boxcode.specs.Check.{data_size}
use Rattle.boxcode.proofs.Check.{checks-fit}
use Rattle.plan.specs.Bytes.{code_of}
use Rattle.plan.proofs.Framing.{same-header}
use Rattle.plan.proofs.Sequence.{hands-on}
use Rattle.buffers.specs.Buffers.{length_checks}
use Rattle.buffers.proofs.Passing.{sheet-zero, checked-passes, checked-stops, checked-goes-on}
use Rattle.buffers.proofs.call.length_checks.Goals as goal

pub returns-in_err-accepted-clause-checked : goal.returns-in_err-accepted-clause-checked
unfolding length_checks
returns-in_err-accepted-clause-checked c = checked-stops _ _ _ c.from_residual.ensures.1 c.in_err-accepted.ensures.checked

pub data_length-requires : goal.data_length-requires
unfolding code_of
data_length-requires c =
    let F = sheet-zero _ _ _ (checked-passes c.in_ok-accepted.ensures.checked) in
    let e = same-header c.in_ok-accepted.accepted.view.framed c.in_ok-accepted.ensures.view in
    record { small = c.in_ok-accepted.accepted.view.framed.small; rh_bound = rw e (checks-fit _ F.accepted.formed) }

pub returns-in_err-data_length-clause-checked : goal.returns-in_err-data_length-clause-checked
unfolding code_of data_size length_checks
returns-in_err-data_length-clause-checked c =
    let s = c.from_residual-in_err-data_length.ensures.1 in
    let e = same-header c.in_ok-accepted.accepted.view.framed c.in_ok-accepted.ensures.view in
    checked-goes-on c.in_ok-accepted.ensures.checked (hands-on _ _ s (rw e at c.in_err-data_length.ensures))

pub returns-clause-checked : goal.returns-clause-checked
unfolding code_of data_size length_checks
returns-clause-checked c =
    let e = same-header c.in_ok-accepted.accepted.view.framed c.in_ok-accepted.ensures.view in
    checked-goes-on c.in_ok-accepted.ensures.checked (rw e at c.in_ok-data_length.ensures)
