-- `sheet::sheet_alter` meets its contract: the outcome, its number and places packed. Assumes nothing.
use mathlib.Core.Path.{ap}
use native.Mathlib.Omega.{arith}
use Rattle.answer.specs.Answer.{InRange, packed}
use Rattle.alter.specs.Alter.{Altered}
use Rattle.sheet.specs.Calls.{verdict_fields, alter_reply, alter_call}
use Rattle.sheet.proofs.Ranges.{alter-range}
use Rattle.sheet.proofs.sheet_alter.Goals as goal

pub pack_told-requires : goal.pack_told-requires
pack_told-requires c =
    let s = c.alter in
    let a = c.args in
    rw (ap (λ (o : Altered). verdict_fields o.verdict) s.ensures) (alter-range a.plan.now a.sheet.now a.position)

pub returns : goal.returns
unfolding alter_call
returns c = rw c.pack_told.ensures (ap (λ (o : Altered). alter_reply (packed (verdict_fields o.verdict)) o.sheet) c.alter.ensures)
