-- `buffers::call::form_checks` meets its contract: unused bits are looked for in a sheet of the right length. Assumes nothing.
use Rattle.plan.specs.Bytes.{code_of}
use Rattle.plan.proofs.Framing.{same-header}
use Rattle.plan.proofs.Sequence.{hands-on}
use Rattle.buffers.specs.Buffers.{form_checks}
use Rattle.buffers.proofs.Passing.{sheet-zero, checked-passes, checked-stops, checked-goes-on}
use Rattle.buffers.proofs.call.form_checks.Goals as goal

pub returns-in_err-accepted-clause-checked : goal.returns-in_err-accepted-clause-checked
unfolding form_checks
returns-in_err-accepted-clause-checked c = checked-stops _ _ _ c.from_residual.ensures.1 c.in_err-accepted.ensures.checked

pub sheet_unused-requires : goal.sheet_unused-requires
unfolding code_of
sheet_unused-requires c =
    let F = sheet-zero _ _ _ (checked-passes c.in_ok-accepted.ensures.checked) in
    rw (same-header c.in_ok-accepted.accepted.view.framed c.in_ok-accepted.ensures.view) (record { small = F.accepted.framed.small; sheet_len = F.sheet_len })

pub returns-in_err-sheet_unused-clause-checked : goal.returns-in_err-sheet_unused-clause-checked
unfolding code_of form_checks
returns-in_err-sheet_unused-clause-checked c =
    let s = c.from_residual-in_err-sheet_unused.ensures.1 in
    let e = same-header c.in_ok-accepted.accepted.view.framed c.in_ok-accepted.ensures.view in
    checked-goes-on c.in_ok-accepted.ensures.checked (hands-on _ _ s (rw e at c.in_err-sheet_unused.ensures))

pub returns-clause-checked : goal.returns-clause-checked
unfolding code_of form_checks
returns-clause-checked c =
    let e = same-header c.in_ok-accepted.accepted.view.framed c.in_ok-accepted.ensures.view in
    checked-goes-on c.in_ok-accepted.ensures.checked (rw e at c.in_ok-sheet_unused.ensures)
