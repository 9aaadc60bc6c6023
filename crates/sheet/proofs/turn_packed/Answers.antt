-- `sheet::turn_packed` meets its contract: the outcome of turning, its number and places packed. Assumes nothing.
use mathlib.Core.Path.{ap}
use native.Mathlib.Omega.{arith}
use Rattle.answer.specs.Answer.{InRange, packed}
use Rattle.transpose.specs.Transpose.{TurnedOver}
use Rattle.sheet.specs.Calls.{verdict_fields, turn_reply, turn_call}
use Rattle.sheet.proofs.Ranges.{turn-range}
use Rattle.sheet.proofs.turn_packed.Goals as goal

pub pack_told-requires : goal.pack_told-requires
pack_told-requires c =
    let s = c.args in
    let w = c.turn_over in
    rw (ap (λ (o : TurnedOver). verdict_fields o.verdict) w.ensures) (turn-range s.lay s.plan.now s.source.now s.target.now)

pub returns : goal.returns
unfolding turn_call
returns c =
    rw c.pack_told.ensures
    (ap (λ (o : TurnedOver). turn_reply (packed (verdict_fields o.verdict)) o.target) c.turn_over.ensures)
