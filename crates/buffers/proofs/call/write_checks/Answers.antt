-- `buffers::call::write_checks` meets its contract: unused bits are looked for in a buffer of the right length. Assumes nothing.
use Rattle.boxcode.specs.Check.{data_size}
use Rattle.boxcode.proofs.Check.{checks-fit}
use Rattle.plan.specs.Bytes.{code_of}
use Rattle.plan.proofs.Framing.{same-header}
use Rattle.plan.proofs.Sequence.{hands-on}
use Rattle.buffers.specs.Buffers.{write_checks}
use Rattle.buffers.proofs.Passing.{length-zero, checked-passes, checked-stops, checked-goes-on}
use Rattle.buffers.proofs.call.write_checks.Goals as goal

pub returns-in_err-accepted-clause-checked : goal.returns-in_err-accepted-clause-checked
unfolding write_checks
returns-in_err-accepted-clause-checked c = checked-stops _ _ _ c.from_residual.ensures.1 c.in_err-accepted.ensures.checked

pub data_unused-requires : goal.data_unused-requires
unfolding code_of data_size
data_unused-requires c =
    let L = length-zero _ _ _ _ (checked-passes c.in_ok-accepted.ensures.checked) in
    let e = same-header c.in_ok-accepted.accepted.view.framed c.in_ok-accepted.ensures.view in
    rw e (record { small = L.accepted.framed.small; rh_bound = checks-fit _ L.accepted.formed; bits_len = L.bits_size })

pub returns-in_err-data_unused-clause-checked : goal.returns-in_err-data_unused-clause-checked
unfolding code_of data_size write_checks
returns-in_err-data_unused-clause-checked c =
    let s = c.from_residual-in_err-data_unused.ensures.1 in
    let e = same-header c.in_ok-accepted.accepted.view.framed c.in_ok-accepted.ensures.view in
    checked-goes-on c.in_ok-accepted.ensures.checked (hands-on _ _ s (rw e at c.in_err-data_unused.ensures))

pub returns-clause-checked : goal.returns-clause-checked
unfolding code_of data_size write_checks
returns-clause-checked c =
    let e = same-header c.in_ok-accepted.accepted.view.framed c.in_ok-accepted.ensures.view in
    checked-goes-on c.in_ok-accepted.ensures.checked (rw e at c.in_ok-data_unused.ensures)
