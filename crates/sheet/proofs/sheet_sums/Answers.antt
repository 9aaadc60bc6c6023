-- `sheet::sheet_sums` meets its contract: the outcome, its number and places packed. Assumes nothing.
use mathlib.Core.Path.{ap}
use native.Mathlib.Omega.{arith}
use Rattle.answer.specs.Answer.{InRange, packed}
use Rattle.runsums.specs.RunSums.{Summed}
use Rattle.sheet.specs.Calls.{verdict_fields, sums_reply, sums_call}
use Rattle.sheet.proofs.Ranges.{sums-range}
use Rattle.sheet.proofs.sheet_sums.Goals as goal

pub pack_told-requires : goal.pack_told-requires
pack_told-requires c =
    let a = c.args in
    let s = c.sum_run in
    rw (ap (λ (o : Summed). verdict_fields o.verdict) s.ensures) (sums-range a.plan.now a.sheet.now a.first a.past a.sums.now)

pub returns : goal.returns
unfolding sums_call
returns c = rw c.pack_told.ensures (ap (λ (o : Summed). sums_reply (packed (verdict_fields o.verdict)) o.sums) c.sum_run.ensures)
