-- `sheet::sheet_read_two` meets its contract: the outcome, its number and places packed. Assumes nothing.
use mathlib.Core.Path.{ap}
use native.Mathlib.Omega.{arith}
use Rattle.answer.specs.Answer.{InRange, packed}
use Rattle.scans.specs.ReadTwo.{TwoRead}
use Rattle.sheet.specs.Calls.{verdict_fields, read_two_reply, read_two_call}
use Rattle.sheet.proofs.Ranges.{two-range}
use Rattle.sheet.proofs.sheet_read_two.Goals as goal

pub pack_told-requires : goal.pack_told-requires
pack_told-requires c =
    let s = c.read_two in
    rw (ap (λ (o : TwoRead). verdict_fields o.verdict) s.ensures) (two-range _ _ _ _)

pub returns : goal.returns
unfolding read_two_call
returns c =
    rw c.pack_told.ensures
    (ap (λ (o : TwoRead). read_two_reply (packed (verdict_fields o.verdict)) o.bits) c.read_two.ensures)
