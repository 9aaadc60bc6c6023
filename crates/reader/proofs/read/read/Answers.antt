-- `reader::read::read` meets its contract: what writes is reached only where checks 1 to 12 pass. Assumes nothing.
use mathlib.Core.Path.{refl}
use Rattle.plan.specs.Bytes.{code_of}
use Rattle.plan.proofs.Framing.{same-header}
use Rattle.plan.proofs.Sequence.{turned-back}
use Rattle.accept.proofs.Acceptance.{accepted-with}
use Rattle.buffers.proofs.Passing.{length-zero, checked-passes}
use Rattle.reader.proofs.Outcome.{told-refusal, lengths-refuse}
use Rattle.reader.proofs.read.read.Goals as goal

pub returns-in_err-accepted : goal.returns-in_err-accepted
returns-in_err-accepted c =
    let e = c.in_err-accepted.ensures.checked.verdict in
    rw (told-refusal _ _ c.from_residual.ensures.1, e) (lengths-refuse _ _ _ _ (turned-back _ e))

pub read_lent-requires : goal.read_lent-requires
unfolding code_of
read_lent-requires c =
    let C = c.in_ok-accepted.ensures.checked in
    let R = length-zero _ _ _ _ (checked-passes C) in
    let e = c.in_ok-accepted.ensures.view in
    rw (same-header c.in_ok-accepted.accepted.view.framed e, e)
    (record { unpacked = C.unpacked refl; sheet_len = R.sheet_len; bits_len = R.bits_size })

pub returns : goal.returns
returns c = rw c.in_ok-accepted.ensures.view at c.read_lent.ensures
