-- A stack of sheets under one plan, read (document 02, request h), as one function of the plan and the three lent buffers to the answer and every
-- byte of these after the call. A stack is a map of the reader's own definition, read_outcome, over its sheets.
--
--   sheet_size c, data_bytes c  the bytes of a sheet, and of its data
--   sheet_at c s i              sheet i of the stack s
--   numbers_at t i              its place in the buffer of numbers: 18 bytes a sheet
--   bits_at c b i               its place in the data buffer
--   stack_form                  check 20: the header or the stack's length breaks the rules
--   stack_checks                the checks before reading a stack: the plan, 20, 21 and 12
--   read_alone plan s b i       sheet i, read as if it were alone
--   number_bytes o              its nine numbers, 16 bits each: refusal or 0, p, q, and the reader's six, the pattern last (02 k)
--   Lent, lent                  the three lent buffers
--   SameFrame                   two triples of them have the same header, and the same lengths
--   each_read plan s b          the buffers after a read that is not refused: the header as it was, and each sheet's read in its place
--   StackRead, stack_read       what a call leaves: its answer and the three buffers
--   read_stack                  the read of a stack
use Rattle.std.specs.Prelude.{ℕ, ◌*◌, ◌≡◌, cond, List, ◌++◌, eqb, length, take}
use Rattle.layout.specs.Cells.{row_bytes, sheet_bytes}
use Rattle.layout.specs.Number.{low_bytes}
use Rattle.layout.specs.Joined.{joined}
use Rattle.stackform.specs.Stack.{sheet_count, header_end, sheet_place, stack_broken}
use Rattle.stackform.specs.Parts.{part}
use Rattle.boxcode.specs.Code.{Code}
use Rattle.boxcode.specs.Check.{data_size}
use Rattle.plan.specs.declared.verdict.Verdict.{Verdict}
use Rattle.plan.specs.Verdict.{refusal, verdict_if, ◌or_else◌}
use Rattle.plan.specs.Bytes.{code_of}
use Rattle.accept.specs.Verdict.{plan_verdict}
use Rattle.buffers.specs.Buffers.{numbers_size, numbers_length, data_lengths}
use Rattle.reader.specs.Read.{Outcome, read_outcome}

abbrev pub sheet_size : Code → ℕ
sheet_size c = sheet_bytes c.n1 c.n2

abbrev pub data_bytes : Code → ℕ
data_bytes c = row_bytes (data_size c)

-- ---- the places of a sheet in the three buffers

abbrev pub sheet_at : Code → List ℕ → ℕ → List ℕ
sheet_at c s i = part s (sheet_place (sheet_size c) (sheet_count s) i) (sheet_size c)

abbrev pub numbers_at : List ℕ → ℕ → List ℕ
numbers_at t i = part t (i * numbers_size) numbers_size

abbrev pub bits_at : Code → List ℕ → ℕ → List ℕ
bits_at c b i = part b (i * data_bytes c) (data_bytes c)

-- ---- the checks

abbrev pub stack_form : Code → List ℕ → Verdict
stack_form c s = verdict_if (stack_broken (sheet_size c) s) (refusal 20 0 0)

unfoldable pub stack_checks : (plan stack numbers bits : List ℕ) → Verdict
stack_checks plan stack numbers bits =
    let c = code_of plan in
    let n = sheet_count stack in
    plan_verdict plan or_else stack_form c stack or_else numbers_length n numbers or_else data_lengths c n bits

-- ---- the read

unfoldable pub read_alone : (plan stack bits : List ℕ) → ℕ → Outcome
read_alone plan stack bits i = read_outcome plan (sheet_at (code_of plan) stack i) (bits_at (code_of plan) bits i)

unfoldable pub number_bytes : Outcome → List ℕ
number_bytes o =
    let v = o.verdict in
    let r = o.report in
    low_bytes 2 v.number ++ low_bytes 2 v.p ++ low_bytes 2 v.q
    ++ low_bytes 2 r.cells ++ low_bytes 2 r.top ++ low_bytes 2 r.left ++ low_bytes 2 r.height ++ low_bytes 2 r.width ++ low_bytes 2 r.pattern

pub record Lent : Type 0 where
  pub stack : List ℕ
  pub numbers : List ℕ
  pub bits : List ℕ

abbrev pub lent : (stack numbers bits : List ℕ) → Lent
lent s t b = record { stack = s; numbers = t; bits = b }

pub record SameFrame (l l' : Lent) : Type 0 where
  pub header : take (header_end (sheet_count l.stack)) l.stack ≡ take (header_end (sheet_count l.stack)) l'.stack
  pub stack_size : length l.stack ≡ length l'.stack
  pub numbers_len : length l.numbers ≡ length l'.numbers
  pub bits_size : length l.bits ≡ length l'.bits

unfoldable pub each_read : (plan stack bits : List ℕ) → Lent
each_read plan stack bits =
    let n = sheet_count stack in
    let read = read_alone plan stack bits in
    lent (take (header_end n) stack ++ joined n (λ i. (read i).sheet)) (joined n (λ i. number_bytes (read i))) (joined n (λ i. (read i).bits))

pub record StackRead : Type 0 where
  pub verdict : Verdict
  pub left : Lent

abbrev pub stack_read : Verdict → Lent → StackRead
stack_read v l = record { verdict = v; left = l }

unfoldable pub read_stack : (plan stack numbers bits : List ℕ) → StackRead
read_stack plan stack numbers bits =
    let v = stack_checks plan stack numbers bits in
    stack_read v (cond (eqb v.number 0) (each_read plan stack bits) (lent stack numbers bits))
