-- `buffers::call::sums_checks` meets its contract: the room is asked for where the sheet is of the right form. Assumes nothing.
use Rattle.plan.proofs.Sequence.{hands-on}
use Rattle.buffers.specs.Buffers.{sums_checks}
use Rattle.buffers.proofs.Passing.{checked-stops, checked-goes-on}
use Rattle.buffers.proofs.call.sums_checks.Goals as goal

pub returns-in_err-accepted-clause-checked : goal.returns-in_err-accepted-clause-checked
unfolding sums_checks
returns-in_err-accepted-clause-checked c = checked-stops _ _ _ c.from_residual.ensures.1 c.in_err-accepted.ensures.checked

pub returns-in_err-sums_length-clause-checked : goal.returns-in_err-sums_length-clause-checked
unfolding sums_checks
returns-in_err-sums_length-clause-checked c =
    let s = c.from_residual-in_err-sums_length.ensures.1 in
    checked-goes-on c.in_ok-accepted.ensures.checked (hands-on _ _ s c.in_err-sums_length.ensures)

pub returns-clause-checked : goal.returns-clause-checked
unfolding sums_checks
returns-clause-checked c = checked-goes-on c.in_ok-accepted.ensures.checked c.in_ok-sums_length.ensures
