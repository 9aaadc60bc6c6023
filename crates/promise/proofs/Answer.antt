-- The answers of the calls, taken apart: one declaration for each theorem of specs/Answer.antt, of that type.
--
--   plan-carries, make-carries, write-carries, read-carries, turn-carries, sums-carries, alter-carries, two-carries, stack-carries, put-carries,
--   difference-carries
--
-- Assumes nothing.
use mathlib.Core.Path.{refl}
use Prim.Native.Nat.{◌-◌}
use native.Mathlib.Omega.{arith}
use Rattle.answer.specs.Answer.{Carries, packed}
use Rattle.answer.proofs.Fields.{part-carries}
use Rattle.boxcode.specs.Reader.{no_report}
use Rattle.plan.specs.declared.verdict.Verdict.{Verdict}
use Rattle.accept.proofs.Range.{SmallVerdict, plan-fits}
use Rattle.maker.proofs.Range.{make-fits}
use Rattle.mend.specs.Report.{report_as}
use Rattle.writer.specs.Write.{write_in}
use Rattle.reader.specs.Read.{read_in}
use Rattle.transpose.specs.Transpose.{turn_over}
use Rattle.runsums.specs.RunSums.{sum_run}
use Rattle.alter.specs.Alter.{alter}
use Rattle.difference.specs.Difference.{difference}
use Rattle.packing.proofs.Packed.{none-fits, fields-carry}
use Rattle.putback.specs.PutBack.{put_back}
use Rattle.sheet.specs.Calls.{verdict_fields, plan_answer, make_call, write_call, read_call, sums_call, alter_call}
use Rattle.sheet.specs.Calls.{read_two_call, read_stack_call, difference_answer, turn_call, put_back_call}
use Rattle.sheet.proofs.Ranges.{write-fits, read_fits, turns_fit, sums-fit, alters-fit, two_fits, stack-fits, puts-fit, report-fits, read_none, part-range}
use Rattle.promise.specs.Answer as promise

-- an answer that has a number and places alone
places-carry : (v : Verdict) → SmallVerdict v → Carries (packed (verdict_fields v)) (verdict_fields v)
places-carry v f = fields-carry v (report_as no_report) f none-fits (λ _. refl)

pub plan-carries : promise.PlanCarries
unfolding plan_answer
plan-carries plan = places-carry _ (plan-fits plan)

pub make-carries : promise.MakeCarries
unfolding make_call
make-carries g plan = places-carry _ (make-fits g plan)

pub write-carries : promise.WriteCarries
unfolding write_call write_in
write-carries lay plan bits sheet = places-carry _ (write-fits lay plan bits sheet)

pub read-carries : promise.ReadCarries
unfolding read_call
read-carries lay plan sheet bits =
    let o = read_in lay plan sheet bits in
    fields-carry o.verdict o.report (read_fits lay plan sheet bits) (report-fits lay plan sheet bits) (read_none lay plan sheet bits)

pub turn-carries : promise.TurnCarries
unfolding turn_call turn_over
turn-carries lay plan source target = places-carry _ (turns_fit lay plan source target)

pub sums-carries : promise.SumsCarries
unfolding sums_call sum_run
sums-carries plan sheet first past sums = places-carry _ (sums-fit plan sheet sums)

pub alter-carries : promise.AlterCarries
unfolding alter_call alter
alter-carries plan sheet d = places-carry _ (alters-fit plan sheet d)

pub two-carries : promise.TwoCarries
unfolding read_two_call
two-carries plan first second bits = places-carry _ (two_fits plan first second bits)

pub stack-carries : promise.StackCarries
unfolding read_stack_call
stack-carries plan stack numbers bits = places-carry _ (stack-fits plan stack numbers bits)

pub put-carries : promise.PutCarries
unfolding put_back_call put_back
put-carries plan sheet a = places-carry _ (puts-fit plan sheet a)

pub difference-carries : promise.DifferenceCarries
unfolding difference_answer
difference-carries plan first second =
    let p = difference plan first second in
    let f = part-range plan first second in
    part-carries p.start (p.end - p.start) (omega arith) (omega arith)
