-- `stack::checks::stack_checks` meets its contract: the buffers are looked at where the plan is accepted. Assumes nothing.
use mathlib.Core.Path.{refl}
use Rattle.plan.specs.Bytes.{code_of}
use Rattle.plan.proofs.Framing.{same-header}
use Rattle.plan.proofs.Sequence.{hands-on}
use Rattle.buffers.proofs.Passing.{checked-stops, checked-goes-on}
use Rattle.stack.specs.ReadStack.{stack_checks}
use Rattle.stack.proofs.checks.stack_checks.Goals as goal

pub returns-in_err-accepted-clause-checked : goal.returns-in_err-accepted-clause-checked
unfolding stack_checks
returns-in_err-accepted-clause-checked c = checked-stops _ _ _ c.from_residual.ensures.1 c.in_err-accepted.ensures.checked

pub returns-in_err-lent_checks-clause-checked : goal.returns-in_err-lent_checks-clause-checked
unfolding code_of stack_checks
returns-in_err-lent_checks-clause-checked c =
    let s = c.from_residual-in_err-lent_checks.ensures.1 in
    let v = c.in_ok-accepted.ensures.view in
    let e = same-header c.in_ok-accepted.accepted.view.framed v in
    checked-goes-on c.in_ok-accepted.ensures.checked (hands-on _ _ s (rw (e, v) at c.in_err-lent_checks.ensures))

pub returns-clause-checked : goal.returns-clause-checked
unfolding code_of stack_checks
returns-clause-checked c =
    let v = c.in_ok-accepted.ensures.view in
    let e = same-header c.in_ok-accepted.accepted.view.framed v in
    checked-goes-on c.in_ok-accepted.ensures.checked (rw (e, v) at c.in_ok-lent_checks.ensures)
