-- A stack of sheets under one plan (document 02, request h), on bytes: what the call gives. The call answers by `read_stack`. Of the bytes that are
-- handed in nothing is assumed but what a theorem says. Each theorem is proved under its name in proofs/Stack.antt.
--
--   told_of, after       the number that is told of the whole stack, and the three buffers after the call
--   StackRules           what 02 asks of a plan, a stack and its two buffers
--   SheetRead            sheet i after the call: read as if it were alone
--   Tells                eighteen bytes tell these nine numbers
--   SameFrame            two runs are handed the same header and buffers of the same lengths (stack/specs/ReadStack)
--   SameRoom a           room a's sheets, and their places in both buffers, are the same in two runs
--
--   StackTakes           the stack is taken exactly if the plan is accepted and the rules are kept
--   StackOrder           which number is told: that of the plan first, then 20, 21 and 12 (StackTold)
--   StackRefused         where a check fails, its number and places are told, and no byte of the three buffers changes
--   HeaderStays          whatever happens, the header and all lengths stay
--   AsAlone              in a stack that is taken, each sheet is read as if it were alone: a refused sheet stops no other
--   NumbersTell          and its eighteen bytes tell the refusal or 0, p, q, and the reader's six
--   RefusedKeeps         a refused sheet keeps its bytes, and its place in the data buffer
--   TwoRooms             what room A gets owes nothing to the bytes of room B
--   StackBack            a written sheet with one burst on it, or none, is read back whole, whatever the other sheets are
--   WholeBack            and so is a stack of such sheets
use Rattle.std.specs.Prelude.{ℕ, ◌*◌, ◌≤◌, ◌<◌, ◌≡◌, true, false, ◌↔◌, ◌⊎◌, List, ◌++◌, length, take}
use Rattle.layout.specs.Number.{u16_at}
use Rattle.layout.specs.Joined.{joined}
use Rattle.stackform.specs.Stack.{sheet_count, room_of, offset_of, header_end, sheet_place, stack_broken}
use Rattle.boxcode.specs.Syndrome.{Cells}
use Rattle.boxcode.specs.Reader.{report_of}
use Rattle.plan.specs.declared.verdict.Verdict.{Verdict}
use Rattle.plan.specs.Verdict.{refusal}
use Rattle.plan.specs.Bytes.{code_of}
use Rattle.accept.specs.Verdict.{plan_verdict}
use Rattle.buffers.specs.Buffers.{numbers_size}
use Rattle.writer.specs.Write.{written_bytes}
use Rattle.reader.specs.Read.{Outcome, read_outcome}
use Rattle.stack.specs.ReadStack.{sheet_size, data_bytes, sheet_at, numbers_at, bits_at, stack_checks, number_bytes, Lent, lent, SameFrame, stack_read, read_stack}
use Rattle.promise.specs.Promise.{Passes, DataFor, BurstOn, corrupted, read_as}

-- ---- the words

abbrev pub told_of : List ℕ → Lent → ℕ
told_of plan l = (read_stack plan l.stack l.numbers l.bits).verdict.number

abbrev pub after : List ℕ → Lent → Lent
after plan l = (read_stack plan l.stack l.numbers l.bits).left

pub record StackRules (plan : List ℕ) (l : Lent) : Type 0 where
  pub counted : 2 ≤ length l.stack
  pub most : sheet_count l.stack ≤ 64
  pub rooms : (i : ℕ) → i < sheet_count l.stack → room_of l.stack i ≤ 1
  -- the sheets follow the header in its order without gaps, and the stack ends after the last
  pub offsets : (i : ℕ) → i < sheet_count l.stack → offset_of l.stack i ≡ sheet_place (sheet_size (code_of plan)) (sheet_count l.stack) i
  pub ends : length l.stack ≡ sheet_place (sheet_size (code_of plan)) (sheet_count l.stack) (sheet_count l.stack)
  pub numbers_len : length l.numbers ≡ sheet_count l.stack * numbers_size
  pub bits_size : length l.bits ≡ sheet_count l.stack * data_bytes (code_of plan)

-- its read alone
abbrev pub alone : List ℕ → Lent → ℕ → Outcome
alone plan l i = read_outcome plan (sheet_at (code_of plan) l.stack i) (bits_at (code_of plan) l.bits i)

pub record SheetRead (plan : List ℕ) (l : Lent) (i : ℕ) (o : Outcome) : Type 0 where
  pub sheet : sheet_at (code_of plan) (after plan l).stack i ≡ o.sheet
  pub numbers : numbers_at (after plan l).numbers i ≡ number_bytes o
  pub bits : bits_at (code_of plan) (after plan l).bits i ≡ o.bits

pub record Tells (t : List ℕ) (o : Outcome) : Type 0 where
  pub number : u16_at t 0 ≡ o.verdict.number
  pub p : u16_at t 2 ≡ o.verdict.p
  pub q : u16_at t 4 ≡ o.verdict.q
  pub cells : u16_at t 6 ≡ o.report.cells
  pub top : u16_at t 8 ≡ o.report.top
  pub left : u16_at t 10 ≡ o.report.left
  pub height : u16_at t 12 ≡ o.report.height
  pub width : u16_at t 14 ≡ o.report.width
  pub pattern : u16_at t 16 ≡ o.report.pattern
  -- 13 and 14 are given per sheet, and no other number is
  pub which : (o.verdict.number ≡ 0) ⊎ ((o.verdict.number ≡ 13) ⊎ (o.verdict.number ≡ 14))

pub record SameRoom (plan : List ℕ) (a : ℕ) (l l' : Lent) : Type 0 where
  pub sheets : (i : ℕ) → i < sheet_count l.stack → room_of l.stack i ≡ a → sheet_at (code_of plan) l.stack i ≡ sheet_at (code_of plan) l'.stack i
  pub numbers : (i : ℕ) → i < sheet_count l.stack → room_of l.stack i ≡ a → numbers_at l.numbers i ≡ numbers_at l'.numbers i
  pub bits : (i : ℕ) → i < sheet_count l.stack → room_of l.stack i ≡ a → bits_at (code_of plan) l.bits i ≡ bits_at (code_of plan) l'.bits i

-- ---- which stacks are taken

abbrev pub StackTakes : Type 0
StackTakes = (plan : List ℕ) (l : Lent) → (told_of plan l ≡ 0) ↔ (Passes plan × StackRules plan l)

-- 02, request h: "20, after 10: the header or stack length breaks these rules. 21, next: the answer buffer has another length. Then 12"
pub record StackTold (plan : List ℕ) (l : Lent) (v : Verdict) : Type 0 where
  pub plan_first : (Passes plan → ⊥) → v ≡ plan_verdict plan
  pub form_next : Passes plan → stack_broken (sheet_size (code_of plan)) l.stack ≡ true → v ≡ refusal 20 0 0
  pub numbers_next : Passes plan → stack_broken (sheet_size (code_of plan)) l.stack ≡ false
      → (length l.numbers ≡ sheet_count l.stack * numbers_size → ⊥) → v ≡ refusal 21 0 0
  pub bits_last : Passes plan → stack_broken (sheet_size (code_of plan)) l.stack ≡ false → length l.numbers ≡ sheet_count l.stack * numbers_size
      → (length l.bits ≡ sheet_count l.stack * data_bytes (code_of plan) → ⊥) → v ≡ refusal 12 0 0

abbrev pub StackOrder : Type 0
StackOrder = (plan : List ℕ) (l : Lent) → StackTold plan l (read_stack plan l.stack l.numbers l.bits).verdict

-- "the call itself turns something back only when it refuses the whole stack, and then no byte changes"
abbrev pub StackRefused : Type 0
StackRefused = (plan : List ℕ) (l : Lent) → let v = stack_checks plan l.stack l.numbers l.bits in
    (v.number ≡ 0 → ⊥) → read_stack plan l.stack l.numbers l.bits ≡ stack_read v l

abbrev pub HeaderStays : Type 0
HeaderStays = (plan : List ℕ) (l : Lent) → SameFrame l (after plan l)

-- ---- each sheet

-- "Each sheet is read as if it were alone", and "A refused sheet stops no other"
abbrev pub AsAlone : Type 0
AsAlone = (plan : List ℕ) (l : Lent) → told_of plan l ≡ 0 → (i : ℕ) → i < sheet_count l.stack → SheetRead plan l i (alone plan l i)

-- it "gets eight 16-bit numbers: refusal or 0, p, q, then the reader's five"; 02, request k: "Stacks then use nine numbers a sheet, the pattern last"
abbrev pub NumbersTell : Type 0
NumbersTell = (plan : List ℕ) (l : Lent) → told_of plan l ≡ 0 → (i : ℕ) → i < sheet_count l.stack
    → Tells (numbers_at (after plan l).numbers i) (alone plan l i)

-- data is "left unchanged for a refused sheet, as are that sheet's own bytes"
abbrev pub RefusedKeeps : Type 0
RefusedKeeps = (plan : List ℕ) (l : Lent) → told_of plan l ≡ 0 → (i : ℕ) → i < sheet_count l.stack → ((alone plan l i).verdict.number ≡ 0 → ⊥)
    → (sheet_at (code_of plan) (after plan l).stack i ≡ sheet_at (code_of plan) l.stack i)
    × (bits_at (code_of plan) (after plan l).bits i ≡ bits_at (code_of plan) l.bits i)

-- ---- two rooms

-- "Call either room A, the other B: if plan, header, all lengths, room A's sheets and its places in both buffers start equal in two runs, room A's
-- numbers, sheets and data end equal, for any bytes in room B's"; and both runs are told the same
abbrev pub TwoRooms : Type 0
TwoRooms = (plan : List ℕ) (a : ℕ) (l l' : Lent) → SameFrame l l' → SameRoom plan a l l'
    → ((read_stack plan l.stack l.numbers l.bits).verdict ≡ (read_stack plan l'.stack l'.numbers l'.bits).verdict)
    × SameRoom plan a (after plan l) (after plan l')

-- ---- demand 3, for a stack

abbrev pub StackBack : Type 0
StackBack = (plan : List ℕ) (l : Lent) → told_of plan l ≡ 0 → (i : ℕ) → i < sheet_count l.stack → (bits : List ℕ) (e : Cells) → DataFor plan bits
    → BurstOn plan e → sheet_at (code_of plan) l.stack i ≡ corrupted plan (written_bytes plan bits) e
    → SheetRead plan l i (read_as (report_of (code_of plan) e) (written_bytes plan bits) bits)

abbrev pub WholeBack : Type 0
WholeBack = (plan : List ℕ) (l : Lent) → told_of plan l ≡ 0 → let n = sheet_count l.stack in (bits : ℕ → List ℕ) (e : ℕ → Cells)
    → ((i : ℕ) → i < n → DataFor plan (bits i)) → ((i : ℕ) → i < n → BurstOn plan (e i))
    → ((i : ℕ) → i < n → sheet_at (code_of plan) l.stack i ≡ corrupted plan (written_bytes plan (bits i)) (e i))
    → after plan l ≡ lent (take (header_end n) l.stack ++ joined n (λ i. written_bytes plan (bits i)))
    (joined n (λ i. number_bytes (read_as (report_of (code_of plan) (e i)) (written_bytes plan (bits i)) (bits i)))) (joined n bits)
