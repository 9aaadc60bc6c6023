-- `sheet::sheet_read_stack` meets its contract: the outcome, its number and places packed. Assumes nothing.
use mathlib.Core.Path.{ap}
use native.Mathlib.Omega.{arith}
use Rattle.answer.specs.Answer.{InRange, packed}
use Rattle.stack.specs.ReadStack.{StackRead}
use Rattle.sheet.specs.Calls.{verdict_fields, read_stack_reply, read_stack_call}
use Rattle.sheet.proofs.Ranges.{stack-range}
use Rattle.sheet.proofs.sheet_read_stack.Goals as goal

pub pack_told-requires : goal.pack_told-requires
pack_told-requires c =
    let s = c.read_stack in
    rw (ap (λ (o : StackRead). verdict_fields o.verdict) s.ensures) (stack-range _ _ _ _)

pub returns : goal.returns
unfolding read_stack_call
returns c =
    let s = c.read_stack in
    rw c.pack_told.ensures (ap (λ (o : StackRead). read_stack_reply (packed (verdict_fields o.verdict)) o.left) s.ensures)
