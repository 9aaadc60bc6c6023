-- The 64 bits that a host sees: from the answer of each call, for every input, good or bad, each getter takes out its field.
-- The getters are the shifts and masks of docs/ANSWER.md. Each theorem is proved under its name in proofs/Answer.antt.
--
--   PlanCarries        the test of a plan: the number and the places of its verdict, and six zeros
--   MakeCarries        making a plan: likewise
--   WriteCarries       writing, in either layout: likewise
--   ReadCarries        reading, in either layout: the number, the places and the reader's six numbers
--   TurnCarries        turning a sheet into the other layout: the number and the places of its verdict, and six zeros
--   SumsCarries        asking for the sums of a run: the number and the places of its verdict, and six zeros
--   AlterCarries       altering: likewise
--   TwoCarries         reading two scans: likewise
--   StackCarries       reading a stack: likewise
--   PutCarries         putting a burst back: likewise
--   DifferenceCarries  asking where two scans first differ: the byte of the second scan where the part starts, and the part's length
use Rattle.std.specs.Prelude.{ℕ, ◌-◌, List}
use Rattle.layout.specs.declared.stored.Layout.{Layout}
use Rattle.answer.specs.Answer.{Carries, PartCarries}
use Rattle.accept.specs.Verdict.{plan_verdict}
use Rattle.maker.specs.declared.parameters.Parameters.{Parameters}
use Rattle.maker.specs.Make.{make}
use Rattle.writer.specs.Write.{write_in}
use Rattle.reader.specs.Read.{read_in}
use Rattle.transpose.specs.Transpose.{turn_over}
use Rattle.runsums.specs.RunSums.{sum_run}
use Rattle.alter.specs.Alter.{alter}
use Rattle.scans.specs.ReadTwo.{read_two}
use Rattle.stack.specs.ReadStack.{read_stack}
use Rattle.difference.specs.Difference.{difference}
use Rattle.packing.specs.Packed.{report_fields}
use Rattle.putback.specs.PutBack.{put_back}
use Rattle.sheet.specs.Calls.{verdict_fields, plan_answer, make_call, write_call, read_call, sums_call, alter_call}
use Rattle.sheet.specs.Calls.{read_two_call, read_stack_call, difference_answer, turn_call, put_back_call}

abbrev pub PlanCarries : Type 0
PlanCarries = (plan : List ℕ) → Carries (plan_answer plan) (verdict_fields (plan_verdict plan))

abbrev pub MakeCarries : Type 0
MakeCarries = (g : Parameters) (plan : List ℕ) → Carries (make_call g plan).answer (verdict_fields (make g plan).verdict)

abbrev pub WriteCarries : Type 0
WriteCarries = (lay : Layout) (plan bits sheet : List ℕ)
    → Carries (write_call lay plan bits sheet).answer (verdict_fields (write_in lay plan bits sheet).verdict)

abbrev pub ReadCarries : Type 0
ReadCarries = (lay : Layout) (plan sheet bits : List ℕ)
    → let o = read_in lay plan sheet bits in Carries (read_call lay plan sheet bits).answer (report_fields o.verdict o.report)

abbrev pub TurnCarries : Type 0
TurnCarries = (lay : Layout) (plan source target : List ℕ)
    → Carries (turn_call lay plan source target).answer (verdict_fields (turn_over lay plan source target).verdict)

abbrev pub SumsCarries : Type 0
SumsCarries = (plan sheet : List ℕ) (first past : ℕ) (sums : List ℕ)
    → Carries (sums_call plan sheet first past sums).answer (verdict_fields (sum_run plan sheet first past sums).verdict)

abbrev pub AlterCarries : Type 0
AlterCarries = (plan sheet : List ℕ) (d : ℕ) → Carries (alter_call plan sheet d).answer (verdict_fields (alter plan sheet d).verdict)

abbrev pub TwoCarries : Type 0
TwoCarries = (plan first second bits : List ℕ)
    → Carries (read_two_call plan first second bits).answer (verdict_fields (read_two plan first second bits).verdict)

abbrev pub StackCarries : Type 0
StackCarries = (plan stack numbers bits : List ℕ)
    → Carries (read_stack_call plan stack numbers bits).answer (verdict_fields (read_stack plan stack numbers bits).verdict)

abbrev pub PutCarries : Type 0
PutCarries = (plan sheet : List ℕ) (a : ℕ) → Carries (put_back_call plan sheet a).answer (verdict_fields (put_back plan sheet a).verdict)

abbrev pub DifferenceCarries : Type 0
DifferenceCarries = (plan first second : List ℕ)
    → let p = difference plan first second in PartCarries (difference_answer plan first second) p.start (p.end - p.start)
