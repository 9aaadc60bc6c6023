-- `buffers::call::scan_lengths` meets its contract: the second scan's length is asked for only where checks 1 to 11 passed for the first. Assumes nothing.
use Rattle.plan.specs.Bytes.{code_of}
use Rattle.plan.proofs.Framing.{same-header}
use Rattle.plan.proofs.Sequence.{hands-on}
use Rattle.buffers.specs.Buffers.{scan_lengths}
use Rattle.buffers.proofs.Passing.{checked-stops, checked-goes-on}
use Rattle.buffers.proofs.call.scan_lengths.Goals as goal

pub returns-in_err-accepted-clause-checked : goal.returns-in_err-accepted-clause-checked
unfolding scan_lengths
returns-in_err-accepted-clause-checked c = checked-stops _ _ _ c.from_residual.ensures.1 c.in_err-accepted.ensures.checked

pub returns-in_err-sheet_length-clause-checked : goal.returns-in_err-sheet_length-clause-checked
unfolding code_of scan_lengths
returns-in_err-sheet_length-clause-checked c =
    let s = c.from_residual-in_err-sheet_length.ensures.1 in
    let e = same-header c.in_ok-accepted.accepted.view.framed c.in_ok-accepted.ensures.view in
    checked-goes-on c.in_ok-accepted.ensures.checked (hands-on _ _ s (rw e at c.in_err-sheet_length.ensures))

pub returns-clause-checked : goal.returns-clause-checked
unfolding code_of scan_lengths
returns-clause-checked c =
    let e = same-header c.in_ok-accepted.accepted.view.framed c.in_ok-accepted.ensures.view in
    checked-goes-on c.in_ok-accepted.ensures.checked (rw e at c.in_ok-sheet_length.ensures)
