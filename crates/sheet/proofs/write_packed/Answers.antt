-- `sheet::write_packed` meets its contract: the writer's outcome, its number and places packed. Assumes nothing.
use mathlib.Core.Path.{ap}
use native.Mathlib.Omega.{arith}
use Rattle.answer.specs.Answer.{InRange, packed}
use Rattle.writer.specs.Write.{Wrote}
use Rattle.sheet.specs.Calls.{verdict_fields, write_reply, write_call}
use Rattle.sheet.proofs.Ranges.{write-range}
use Rattle.sheet.proofs.write_packed.Goals as goal

pub pack_told-requires : goal.pack_told-requires
pack_told-requires c =
    let s = c.args in
    let w = c.write in
    rw (ap (λ (o : Wrote). verdict_fields o.verdict) w.ensures) (write-range s.lay s.plan.now s.bits.now s.sheet.now)

pub returns : goal.returns
unfolding write_call
returns c = rw c.pack_told.ensures (ap (λ (o : Wrote). write_reply (packed (verdict_fields o.verdict)) o.sheet) c.write.ensures)
