-- `sheet::sheet_put_back` meets its contract: the outcome, its number and places packed. Assumes nothing.
use mathlib.Core.Path.{ap}
use native.Mathlib.Omega.{arith}
use Rattle.answer.specs.Answer.{InRange, packed}
use Rattle.putback.specs.PutBack.{PutBack}
use Rattle.sheet.specs.Calls.{verdict_fields, put_back_reply, put_back_call}
use Rattle.sheet.proofs.Ranges.{put-range}
use Rattle.sheet.proofs.sheet_put_back.Goals as goal

pub pack_told-requires : goal.pack_told-requires
pack_told-requires c =
    let s = c.put_back in
    let a = c.args in
    rw (ap (λ (o : PutBack). verdict_fields o.verdict) s.ensures) (put-range a.plan.now a.sheet.now a.answer)

pub returns : goal.returns
unfolding put_back_call
returns c =
    rw c.pack_told.ensures
    (ap (λ (o : PutBack). put_back_reply (packed (verdict_fields o.verdict)) o.sheet) c.put_back.ensures)
