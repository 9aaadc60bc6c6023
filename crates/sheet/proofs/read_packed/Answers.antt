-- `sheet::read_packed` meets its contract: the reader's outcome, its numbers packed. Assumes nothing.
use mathlib.Core.Path.{ap}
use Rattle.answer.specs.Answer.{packed}
use Rattle.reader.specs.Read.{Outcome}
use Rattle.packing.specs.Packed.{report_fields}
use Rattle.sheet.specs.Calls.{read_reply, read_call}
use Rattle.sheet.proofs.Ranges.{read-range}
use Rattle.sheet.proofs.read_packed.Goals as goal

pub pack_report-requires : goal.pack_report-requires
pack_report-requires c =
    let s = c.args in
    let e = rw (← c.tell-a.ensures) at c.read.ensures in
    rw (ap (λ (o : Outcome). report_fields o.verdict o.report) e) (read-range s.lay s.plan.now s.sheet.now s.bits.now)

pub returns : goal.returns
unfolding read_call
returns c =
    let e = rw (← c.tell-a.ensures) at c.read.ensures in
    rw c.pack_report.ensures (ap (λ (o : Outcome). read_reply (packed (report_fields o.verdict o.report)) o.sheet o.bits) e)
