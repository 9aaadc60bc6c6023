-- `stack::reading::read_stack` meets its contract: what writes is reached only where the stack is taken. Assumes nothing.
use mathlib.Core.Path.{refl}
use Rattle.plan.specs.Bytes.{code_of}
use Rattle.plan.proofs.Framing.{same-header}
use Rattle.plan.proofs.Sequence.{refused, hands-on}
use Rattle.accept.proofs.Acceptance.{accepted-with}
use Rattle.buffers.proofs.Passing.{checked-passes}
use Rattle.stack.proofs.Passing.{stack-zero, refuses, reads}
use Rattle.stack.proofs.reading.read_stack.Goals as goal

pub returns-in_err-accepted : goal.returns-in_err-accepted
returns-in_err-accepted c =
    let s = c.from_residual.ensures.1 in
    refuses _ _ _ _ _ (hands-on _ _ s c.in_err-accepted.ensures.checked.verdict) (refused _ _ s)

pub count_of-count-requires : goal.count_of-count-requires
count_of-count-requires c = (stack-zero _ _ _ _ (checked-passes c.in_ok-accepted.ensures.checked)).whole.counted

pub read_each-requires : goal.read_each-requires
unfolding code_of
read_each-requires c =
    let C = c.in_ok-accepted.ensures.checked in
    let R = stack-zero _ _ _ _ (checked-passes C) in
    let e = c.in_ok-accepted.ensures.view in
    rw (same-header c.in_ok-accepted.accepted.view.framed e, e, c.count_of-count.ensures.0)
    (record {
      unpacked = C.unpacked refl;
      count_bound = (R.whole.most, refl);
      sized = record {
        stack_size = R.whole.long;
        numbers_len = R.numbers_len;
        bits_size = R.bits_size;
      };
    })

pub returns : goal.returns
returns c =
    reads _ _ _ _ _ c.in_ok-accepted.ensures.checked.verdict refl _ (rw c.in_ok-accepted.ensures.view at c.read_each.ensures)
