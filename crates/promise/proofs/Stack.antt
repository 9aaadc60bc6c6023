-- A stack of sheets, read: one declaration for each theorem of specs/Stack.antt, of that type.
--
--   stack-takes, stack-order, stack-refused, header-stays, as-alone, numbers-tell, refused-keeps, two_rooms, stack-back, whole_back
--
-- Assumes nothing.
use mathlib.Core.Path.{◌≡◌, sym, ap, ap₂, subst, ◌∙◌}
use mathlib.Core.List.{List, ◌++◌}
use Prim.Native.Nat.{ℕ, ◌<◌}
use native.Mathlib.Decide.{ℕ_discrete}
use native.Mathlib.Omega.{arith}
use lib.ListN.{take}
use Rattle.layout.proofs.Joined.{joined-equal}
use Rattle.layout.specs.declared.stored.Layout.TheVariants.{ByRow}
use Rattle.stackform.specs.Stack.{sheet_count, room_of, header_end}
use Rattle.stackform.proofs.Header.{same_count, same-room}
use Rattle.boxcode.specs.Syndrome.{Cells}
use Rattle.boxcode.specs.Reader.{report_of}
use Rattle.plan.specs.declared.verdict.Verdict.{Verdict}
use Rattle.plan.specs.Bytes.{code_of}
use Rattle.plan.proofs.Sequence.{same-zero, same-other}
use Rattle.accept.proofs.Acceptance.{accepted-plan}
use Rattle.accept.proofs.Range.{SmallVerdict}
use Rattle.writer.specs.Write.{written_bytes}
use Rattle.reader.specs.Read.{Outcome, read_outcome}
use Rattle.stack.specs.ReadStack.{sheet_at, bits_at, stack_checks, read_alone, number_bytes, Lent, lent, SameFrame, each_read, StackRead}
use Rattle.stack.proofs.Order.{told-plan, told-form, told-numbers, told-bits}
use Rattle.stack.proofs.Passing.{StackFits, stack-zero, stacks-pass}
use Rattle.stack.proofs.Each.{told-as, stack-refuses, stack-reads, frame-stays, sheet-after, numbers_after, bits-after, same-checks}
use Rattle.reader.proofs.Left.{OneOf, read_keeps}
use Rattle.stack.proofs.Alone.{alone-lengths, alone-told}
use Rattle.stack.proofs.Numbers.{at-number, at_p, at-q, at_cells, at_top, at_left, at-height, at_width, at-pattern}
use Rattle.packing.proofs.Packed.{ReportFits}
use Rattle.sheet.proofs.Ranges.{read_fits, report-fits}
use Rattle.promise.specs.Promise.{Passes, DataFor, BurstOn, corrupted, read_as}
use Rattle.promise.specs.Stack as promise
use Rattle.promise.specs.Stack.{told_of, after, SheetRead, Tells, SameRoom}
use Rattle.promise.proofs.Promise.{plan-test, read_back}

-- ---- which stacks are taken

module _ (plan : List ℕ) (l : Lent) where
  checks : told_of plan l ≡ 0 → (stack_checks plan l.stack l.numbers l.bits).number ≡ 0
  checks e = same-zero (told-as plan l.stack l.numbers l.bits) e

  told-zero : (stack_checks plan l.stack l.numbers l.bits).number ≡ 0 → told_of plan l ≡ 0
  told-zero e = ap (λ (v : Verdict). v.number) (told-as plan l.stack l.numbers l.bits) ∙ e

  fits : told_of plan l ≡ 0 → StackFits plan l.stack l.numbers l.bits
  fits e = stack-zero plan l.stack l.numbers l.bits (checks e)

  passes : told_of plan l ≡ 0 → Passes plan
  passes e = (plan-test plan).1 (fits e).accepted

pub stack-takes : promise.StackTakes
stack-takes plan l = (rules, λ r. taken r.0 r.1)
  where
    rules : told_of plan l ≡ 0 → Passes plan × promise.StackRules plan l
    rules e =
        let F = fits plan l e in (
          passes plan l e,
          record {
            counted = F.whole.counted;
            most = F.whole.most;
            rooms = F.whole.rooms;
            offsets = F.whole.offsets;
            ends = F.whole.long;
            numbers_len = F.numbers_len;
            bits_size = F.bits_size;
          },
        )

    taken : Passes plan → promise.StackRules plan l → told_of plan l ≡ 0
    taken P R =
        let F : StackFits plan l.stack l.numbers l.bits = record {
          accepted = accepted-plan plan P;
          whole = record { counted = R.counted; most = R.most; long = R.ends; rooms = R.rooms; offsets = R.offsets };
          numbers_len = R.numbers_len;
          bits_size = R.bits_size;
        } in
        told-zero plan l (ap (λ (v : Verdict). v.number) (stacks-pass plan l.stack l.numbers l.bits F))

pub stack-order : promise.StackOrder
stack-order plan l =
    let t = told-as plan l.stack l.numbers l.bits in
    record {
      plan_first = λ h. t ∙ told-plan plan l.stack l.numbers l.bits h;
      form_next = λ e b. t ∙ told-form plan l.stack l.numbers l.bits e b;
      numbers_next = λ e b h. t ∙ told-numbers plan l.stack l.numbers l.bits e b h;
      bits_last = λ e b k h. t ∙ told-bits plan l.stack l.numbers l.bits e b k h;
    }

pub stack-refused : promise.StackRefused
stack-refused plan l h = stack-refuses plan l.stack l.numbers l.bits h

unchanged : (plan : List ℕ) (l : Lent) → ((stack_checks plan l.stack l.numbers l.bits).number ≡ 0 → ⊥) → after plan l ≡ l
unchanged plan l h = ap (λ (r : StackRead). r.left) (stack-refused plan l h)

pub header-stays : promise.HeaderStays
header-stays plan l = frame-stays plan l.stack l.numbers l.bits

-- ---- each sheet

pub as-alone : promise.AsAlone
unfolding read_alone
as-alone plan l e i li = record {
  sheet = sheet-after plan l.stack l.numbers l.bits (checks plan l e) i li;
  numbers = numbers_after plan l.stack l.numbers l.bits (checks plan l e) i li;
  bits = bits-after plan l.stack l.numbers l.bits (checks plan l e) i li;
}

-- numbers that are small enough are told by two bytes each
told-small : (o : Outcome) → SmallVerdict o.verdict → ReportFits o.report → OneOf o.verdict.number → Tells (number_bytes o) o
told-small o S R w = record {
  number = at-number o (omega (arith, S.number_fits));
  p = at_p o (omega (arith, S.p_fits));
  q = at-q o (omega (arith, S.q_fits));
  cells = at_cells o (omega (arith, R.cells_fits));
  top = at_top o (omega (arith, R.top_fits));
  left = at_left o (omega (arith, R.left_fits));
  height = at-height o (omega (arith, R.height_fits));
  width = at_width o (omega (arith, R.width_fits));
  pattern = at-pattern o R.pattern_fits;
  which = w;
}

pub numbers-tell : promise.NumbersTell
unfolding read_alone
numbers-tell plan l e i li =
    let sheet = sheet_at (code_of plan) l.stack i in
    let bits = bits_at (code_of plan) l.bits i in
    rw (as-alone plan l e i li).numbers
    (told-small (read_outcome plan sheet bits) (read_fits ByRow plan sheet bits) (report-fits ByRow plan sheet bits)
    (alone-told plan l.stack l.numbers l.bits (fits plan l e) i li))

pub refused-keeps : promise.RefusedKeeps
refused-keeps plan l e i li h =
    let S = as-alone plan l e i li in
    let K = read_keeps ByRow plan (sheet_at (code_of plan) l.stack i) (bits_at (code_of plan) l.bits i) h in
    (S.sheet ∙ K.0, S.bits ∙ K.1)

-- ---- two rooms

module _ (plan : List ℕ) (a : ℕ) (l l' : Lent) (F : SameFrame l l') (S : SameRoom plan a l l') where
  same : stack_checks plan l.stack l.numbers l.bits ≡ stack_checks plan l'.stack l'.numbers l'.bits
  same = same-checks plan l l' F

  -- the header stays: a sheet of room a after the call was one before it
  was-in : (i : ℕ) → i < sheet_count (after plan l).stack → i < sheet_count l.stack
  was-in i li = rw (same_count l.stack (after plan l).stack (header-stays plan l).header) li

  was-room : (i : ℕ) → i < sheet_count (after plan l).stack → room_of (after plan l).stack i ≡ a → room_of l.stack i ≡ a
  was-room i li r = same-room l.stack (after plan l).stack (header-stays plan l).header i (was-in i li) ∙ r

  -- both are taken: a sheet of room a is read alike
  both-taken : told_of plan l ≡ 0 → told_of plan l' ≡ 0 → SameRoom plan a (after plan l) (after plan l')
  both-taken e e' = record {
    sheets = λ i li r. (here i li).sheet ∙ ap (λ (o : Outcome). o.sheet) (alike i li r) ∙ sym (there i li).sheet;
    numbers = λ i li r. (here i li).numbers ∙ ap number_bytes (alike i li r) ∙ sym (there i li).numbers;
    bits = λ i li r. (here i li).bits ∙ ap (λ (o : Outcome). o.bits) (alike i li r) ∙ sym (there i li).bits;
  }
    where
      here : (i : ℕ) → i < sheet_count (after plan l).stack → SheetRead plan l i (promise.alone plan l i)
      here i li = as-alone plan l e i (was-in i li)

      there : (i : ℕ) → i < sheet_count (after plan l).stack → SheetRead plan l' i (promise.alone plan l' i)
      there i li = as-alone plan l' e' i (subst (λ (n : ℕ). i < n) (same_count l.stack l'.stack F.header) (was-in i li))

      alike : (i : ℕ) → i < sheet_count (after plan l).stack → room_of (after plan l).stack i ≡ a → promise.alone plan l i ≡ promise.alone plan l' i
      alike i li r = ap₂ (read_outcome plan) (S.sheets i (was-in i li) (was-room i li r)) (S.bits i (was-in i li) (was-room i li r))

  -- both are refused: nothing is changed
  both-refused : after plan l ≡ l → after plan l' ≡ l' → SameRoom plan a (after plan l) (after plan l')
  both-refused e e' = rw (e, e') S

  both : Dec ((stack_checks plan l.stack l.numbers l.bits).number ≡ 0) → SameRoom plan a (after plan l) (after plan l')
  both (yes e) = both-taken (told-zero plan l e) (told-zero plan l' (same-zero same e))
  both (no h) = both-refused (unchanged plan l h) (unchanged plan l' (same-other same h))

pub two_rooms : promise.TwoRooms
two_rooms plan a l l' F S = (
  told-as plan l.stack l.numbers l.bits ∙ same plan a l l' F S ∙ sym (told-as plan l'.stack l'.numbers l'.bits),
  both plan a l l' F S (ℕ_discrete (stack_checks plan l.stack l.numbers l.bits).number 0),
)

-- ---- demand 3, for a stack

-- the sheet alone is read back
back_alone : (plan : List ℕ) (l : Lent) → told_of plan l ≡ 0 → (i : ℕ) → i < sheet_count l.stack → (bits : List ℕ) (e : Cells) → DataFor plan bits
    → BurstOn plan e → sheet_at (code_of plan) l.stack i ≡ corrupted plan (written_bytes plan bits) e
    → promise.alone plan l i ≡ read_as (report_of (code_of plan) e) (written_bytes plan bits) bits
back_alone plan l z i li bits e right B s =
    let place = bits_at (code_of plan) l.bits i in
    ap (λ (x : List ℕ). read_outcome plan x place) s
    ∙ read_back ByRow plan (passes plan l z) bits place e right B
    (alone-lengths plan l.stack l.numbers l.bits (fits plan l z) i li).bits_size

pub stack-back : promise.StackBack
stack-back plan l z i li bits e right B s =
    let S = as-alone plan l z i li in
    let b = back_alone plan l z i li bits e right B s in
    record {
      sheet = S.sheet ∙ ap (λ (o : Outcome). o.sheet) b;
      numbers = S.numbers ∙ ap number_bytes b;
      bits = S.bits ∙ ap (λ (o : Outcome). o.bits) b;
    }

pub whole_back : promise.WholeBack
unfolding each_read read_alone
whole_back plan l z bits e right B s =
    let n = sheet_count l.stack in
    let u = joined-equal n (λ i. (promise.alone plan l i).sheet) (λ i. written_bytes plan (bits i)) (λ i li. ap (λ (o : Outcome). o.sheet) (back i li)) in
    let v = joined-equal n (λ i. number_bytes (promise.alone plan l i)) (λ i. number_bytes (told i)) (λ i li. ap number_bytes (back i li)) in
    let w = joined-equal n (λ i. (promise.alone plan l i).bits) bits (λ i li. ap (λ (o : Outcome). o.bits) (back i li)) in
    ap (λ (r : StackRead). r.left) (stack-reads plan l.stack l.numbers l.bits (checks plan l z))
    ∙ λ j. lent (take (header_end n) l.stack ++ u j) (v j) (w j)
  where
    told : ℕ → Outcome
    told i = read_as (report_of (code_of plan) (e i)) (written_bytes plan (bits i)) (bits i)

    back : (i : ℕ) → i < sheet_count l.stack → promise.alone plan l i ≡ told i
    back i li = back_alone plan l z i li (bits i) (e i) (right i li) (B i li) (s i li)
