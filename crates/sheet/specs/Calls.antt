-- What the exported calls answer, and what they leave in the buffers lent to them.
--
--   verdict_fields   an answer that has a number and places alone
--   plan_answer      the answer of the test of a plan: checks 1 to 10 in order, the first that fails, packed
--   parameters      the eight numbers that the maker is given: v and h are the coefficients below the degrees rv and rh
--   MakeReply, make_call     the answer of making a plan, packed, and every byte of the plan after it
--   WriteReply, write_call   the answer of writing in a layout, packed, and every byte of the sheet after it
--   ReadReply, read_call     the answer of reading in a layout, packed, and every byte of the sheet and of the data buffer after it
--   TurnReply, turn_call     the answer of turning a sheet of a layout into the other, packed, and every byte of the target after it
--   SumsReply, sums_call     the answer of asking for the sums of a run of rows, packed, and every byte of their buffer after it
--   AlterReply, alter_call   the answer of altering one data bit, packed, and every byte of the sheet after it
--   ReadTwoReply, read_two_call   the answer of reading two scans, packed, and every byte of the data buffer after it
--   difference_answer        the row where two scans first differ, packed: the byte of the second scan where it starts, and its length
--   ReadStackReply, read_stack_call   the answer of reading a stack, packed, and every byte of the stack, the numbers and the data buffer after it
--   PutBackReply, put_back_call       the answer of putting a burst back, packed, and every byte of the sheet after it
use Rattle.std.specs.Prelude.{ℕ, ◌-◌, List}
use Rattle.layout.specs.declared.stored.Layout.{Layout}
use Rattle.answer.specs.Answer.{Fields, places_fields, packed, packed_part}
use Rattle.plan.specs.declared.verdict.Verdict.{Verdict}
use Rattle.accept.specs.Verdict.{plan_verdict}
use Rattle.maker.specs.declared.parameters.Parameters.{Parameters}
use Rattle.maker.specs.Make.{make}
use Rattle.writer.specs.Write.{write_in}
use Rattle.reader.specs.Read.{read_in}
use Rattle.transpose.specs.Transpose.{turn_over}
use Rattle.runsums.specs.RunSums.{sum_run}
use Rattle.alter.specs.Alter.{alter}
use Rattle.scans.specs.ReadTwo.{read_two}
use Rattle.stack.specs.ReadStack.{Lent, read_stack}
use Rattle.difference.specs.Difference.{difference}
use Rattle.packing.specs.Packed.{report_fields}
use Rattle.putback.specs.PutBack.{put_back}

abbrev pub verdict_fields : Verdict → Fields
verdict_fields v = places_fields v.number v.p v.q

unfoldable pub plan_answer : List ℕ → ℕ
plan_answer s = packed (verdict_fields (plan_verdict s))

abbrev pub parameters : (n1 n2 b1 b2 t rv v rh h : ℕ) → Parameters
parameters n1 n2 b1 b2 t rv v rh h = record { n1 = n1; n2 = n2; b1 = b1; b2 = b2; t = t; rv = rv; vlow = v; rh = rh; hlow = h }

pub record MakeReply : Type 0 where
  pub answer : ℕ
  pub plan : List ℕ

unfoldable pub make_call : Parameters → List ℕ → MakeReply
make_call g plan =
    let o = make g plan in
    record { answer = packed (verdict_fields o.verdict); plan = o.plan }

pub record WriteReply : Type 0 where
  pub answer : ℕ
  pub sheet : List ℕ

unfoldable pub write_call : Layout → (plan bits sheet : List ℕ) → WriteReply
write_call lay plan bits sheet =
    let o = write_in lay plan bits sheet in
    record { answer = packed (verdict_fields o.verdict); sheet = o.sheet }

pub record ReadReply : Type 0 where
  pub answer : ℕ
  pub sheet : List ℕ
  pub bits : List ℕ

unfoldable pub read_call : Layout → (plan sheet bits : List ℕ) → ReadReply
read_call lay plan sheet bits =
    let o = read_in lay plan sheet bits in
    record { answer = packed (report_fields o.verdict o.report); sheet = o.sheet; bits = o.bits }

pub record TurnReply : Type 0 where
  pub answer : ℕ
  pub target : List ℕ

-- lay is the layout of the source
unfoldable pub turn_call : Layout → (plan source target : List ℕ) → TurnReply
turn_call lay plan source target =
    let o = turn_over lay plan source target in
    record { answer = packed (verdict_fields o.verdict); target = o.target }

pub record SumsReply : Type 0 where
  pub answer : ℕ
  pub sums : List ℕ

unfoldable pub sums_call : (plan sheet : List ℕ) (first past : ℕ) (sums : List ℕ) → SumsReply
sums_call plan sheet first past sums =
    let o = sum_run plan sheet first past sums in
    record { answer = packed (verdict_fields o.verdict); sums = o.sums }

pub record AlterReply : Type 0 where
  pub answer : ℕ
  pub sheet : List ℕ

unfoldable pub alter_call : List ℕ → List ℕ → ℕ → AlterReply
alter_call plan sheet d =
    let o = alter plan sheet d in
    record { answer = packed (verdict_fields o.verdict); sheet = o.sheet }

-- an answer with the buffers after it
abbrev pub make_reply : ℕ → List ℕ → MakeReply
make_reply a s = record { answer = a; plan = s }

abbrev pub write_reply : ℕ → List ℕ → WriteReply
write_reply a s = record { answer = a; sheet = s }

abbrev pub read_reply : ℕ → List ℕ → List ℕ → ReadReply
read_reply a s b = record { answer = a; sheet = s; bits = b }

abbrev pub turn_reply : ℕ → List ℕ → TurnReply
turn_reply a s = record { answer = a; target = s }

abbrev pub sums_reply : ℕ → List ℕ → SumsReply
sums_reply a s = record { answer = a; sums = s }

abbrev pub alter_reply : ℕ → List ℕ → AlterReply
alter_reply a s = record { answer = a; sheet = s }

pub record ReadTwoReply : Type 0 where
  pub answer : ℕ
  pub bits : List ℕ

unfoldable pub read_two_call : (plan first second bits : List ℕ) → ReadTwoReply
read_two_call plan first second bits =
    let o = read_two plan first second bits in
    record { answer = packed (verdict_fields o.verdict); bits = o.bits }

unfoldable pub difference_answer : (plan first second : List ℕ) → ℕ
difference_answer plan first second = let p = difference plan first second in packed_part p.start (p.end - p.start)

abbrev pub read_two_reply : ℕ → List ℕ → ReadTwoReply
read_two_reply a b = record { answer = a; bits = b }

pub record ReadStackReply : Type 0 where
  pub answer : ℕ
  pub left : Lent

unfoldable pub read_stack_call : (plan stack numbers bits : List ℕ) → ReadStackReply
read_stack_call plan stack numbers bits =
    let o = read_stack plan stack numbers bits in
    record { answer = packed (verdict_fields o.verdict); left = o.left }

abbrev pub read_stack_reply : ℕ → Lent → ReadStackReply
read_stack_reply a l = record { answer = a; left = l }

pub record PutBackReply : Type 0 where
  pub answer : ℕ
  pub sheet : List ℕ

-- a is the answer of the reader that is handed in
unfoldable pub put_back_call : (plan sheet : List ℕ) → ℕ → PutBackReply
put_back_call plan sheet a =
    let o = put_back plan sheet a in
    record { answer = packed (verdict_fields o.verdict); sheet = o.sheet }

abbrev pub put_back_reply : ℕ → List ℕ → PutBackReply
put_back_reply a s = record { answer = a; sheet = s }
