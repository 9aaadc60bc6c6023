-- The answers of the calls are small: each field fits its bits.
--
--   write-fits    number and places of writing
--   read_fits     number and places of reading
--   turns_fit     number and places of turning a sheet into the other layout
--   sums-fit      number and places of asking for the sums of a run; forms-fit, those of the checks that a sheet is of the right form
--   alters-fit    number and places of altering
--   two_fits      number and places of reading two scans
--   stack-fits    number and places of reading a stack
--   puts-fit      number and places of putting a burst back
--   report-fits   the reader's six numbers; read_none, six zeros with a refusal
--   plan-range, make-range, write-range, read-range, turn-range, sums-range, alter-range, two-range, stack-range, put-range
--                 the fields of the answer of each call
--   part-range    start and length of the part in which two scans first differ
--   made_range, made-packed   the answer of either call that makes a plan
--
-- Assumes nothing.
use mathlib.Core.Path.{◌≡◌, refl, ap}
use mathlib.Core.Bool.{Bool, true, false, not, cond, ◌&&◌, ◌||◌}
use mathlib.Core.List.{List}
use Prim.Native.Nat.{ℕ, ◌+◌, ◌-◌, ◌*◌, ◌<◌, ◌≤◌}
use native.Mathlib.Omega.{arith}
use borrow.Author.Tests.{eqb-true}
use lib.Dec.{eqb, leb}
use lib.ListN.{length}
use Rattle.layout.specs.Cells.{row_bytes, sheet_bytes, cell_of}
use Rattle.layout.specs.Stored.{other_than, size_in, cell_in, first_unused_in}
use Rattle.layout.specs.declared.stored.Layout.{Layout}
use Rattle.layout.specs.declared.stored.Layout.TheVariants.{ByRow}
use Rattle.layout.proofs.Layouts as layouts
use Rattle.layout.specs.Differ.{agree}
use Rattle.boxcode.specs.Code.{Code, Formed}
use Rattle.boxcode.specs.Check.{data_size, belongs}
use Rattle.boxcode.specs.Reader.{change, no_report}
use Rattle.boxcode.proofs.Reader.{mendable, change-burst}
use Rattle.plan.specs.declared.verdict.Verdict.{Verdict}
use Rattle.plan.specs.Verdict.{refusal, verdict_if, ◌or_else◌}
use Rattle.plan.specs.Bytes.{code_of}
use Rattle.accept.specs.Verdict.{plan_verdict}
use Rattle.accept.proofs.Range.{SmallVerdict, accepted-fits, else-fits, if-fits, at-fits, plan-fits}
use Rattle.buffers.specs.Buffers.{numbers_size, numbers_length}
use Rattle.buffers.specs.Buffers.{length_verdict, unused_verdict, sheet_length, data_length, sums_length}
use Rattle.buffers.specs.Buffers.{sheet_checks, length_checks, write_checks, read_checks, form_checks, sums_checks, scan_lengths, read_two_checks}
use Rattle.buffers.specs.Buffers.{transpose_checks}
use Rattle.buffers.proofs.Passing.{size-most, sheet-zero, length-zero, scans-fit}
use Rattle.mend.specs.Report.{report_as}
use Rattle.std.specs.Prelude.{Option, Some, None}
use Rattle.mend.specs.declared.found.Burst.{Burst}
use Rattle.mend.specs.Found.{found_verdict}
use Rattle.mend.proofs.First.{first-report}
use Rattle.reader.proofs.Cases.{zero-reads}
use Rattle.reader.specs.Read.{Outcome, burst_in, read_verdict, report_read, taken, refused, read_in, read_outcome}
use Rattle.maker.specs.declared.parameters.Parameters.{Parameters}
use Rattle.maker.specs.Make.{Made, made, make}
use Rattle.maker.proofs.Range.{make-fits}
use Rattle.writer.specs.Write.{write_in}
use Rattle.transpose.specs.Transpose.{turn_over}
use Rattle.runsums.specs.RunSums.{sum_run}
use Rattle.difference.specs.declared.Part.{Part}
use Rattle.difference.specs.Difference.{difference}
use Rattle.difference.proofs.Outcomes.{part_small}
use Rattle.alter.specs.Alter.{position_verdict, belong_verdict, alter_checks, alter}
use Rattle.stackform.specs.Stack.{sheet_count, stack_broken}
use Rattle.stack.specs.ReadStack.{sheet_size, data_bytes, stack_form, stack_checks, read_stack}
use Rattle.scans.specs.ReadTwo.{TwoRead, mends, none_verdict, differ_verdict, two_read, decide, read_two}
use Rattle.answer.specs.Answer.{InRange, packed}
use Rattle.packing.specs.Packed.{report_fields}
use Rattle.packing.proofs.Packed.{ReportFits, none-fits, fields-range}
use Rattle.packing.proofs.Packed as packing
use Rattle.putback.specs.PutBack.{no_burst, burst_verdict, back_checks, put_back}
use Rattle.sheet.specs.Calls.{verdict_fields, make_reply, make_call}

-- a refusal with places 0, 0
told-fits : (t : Bool) (n : ℕ) → n < 32 → SmallVerdict (verdict_if t (refusal n 0 0))
told-fits t n l = if-fits t (refusal n 0 0) (λ _. record { number_fits = l; p_fits = omega arith; q_fits = omega arith; silent = λ _. (refl, refl) })

length-fits : (n : ℕ) (s : List ℕ) (size : ℕ) → n < 32 → SmallVerdict (length_verdict n s size)
unfolding length_verdict
length-fits n s size = told-fits (not (eqb (length s) size)) n

unused-fits : (lay : Layout) (n1 n2 : ℕ) (s : List ℕ) → size_in lay n1 n2 ≤ 45056 → SmallVerdict (unused_verdict lay n1 n2 s)
unfolding unused_verdict
unused-fits lay n1 n2 s u =
    at-fits (size_in lay n1 n2) (first_unused_in lay n1 n2 s) (refusal 13 (first_unused_in lay n1 n2 s) 0)
    (λ l. record { number_fits = omega arith; p_fits = omega arith; q_fits = omega arith; silent = λ e. absurd (omega arith) })

-- checks 1 to 11; 1 to 12, and then others
sheets-fit : (lay : Layout) (plan sheet : List ℕ) → SmallVerdict (sheet_checks lay plan sheet)
unfolding sheet_checks
sheets-fit lay plan sheet =
    let c = code_of plan in
    else-fits (plan_verdict plan) (sheet_length lay c sheet) (plan-fits plan) (λ _. length-fits 11 sheet (size_in lay c.n1 c.n2) (omega arith))

lengths-fit : (lay : Layout) (plan sheet bits : List ℕ) → SmallVerdict (length_checks lay plan sheet bits)
unfolding length_checks
lengths-fit lay plan sheet bits =
    let c = code_of plan in
    else-fits (sheet_checks lay plan sheet) (data_length c bits) (sheets-fit lay plan sheet) (λ _. length-fits 12 bits (row_bytes (data_size c)) (omega arith))

after-lengths : (lay : Layout) (plan sheet bits : List ℕ) (v : Verdict) → (Formed (code_of plan) → SmallVerdict v)
    → SmallVerdict (length_checks lay plan sheet bits or_else v)
after-lengths lay plan sheet bits v f =
    else-fits (length_checks lay plan sheet bits) v (lengths-fit lay plan sheet bits) (λ e. f (length-zero lay plan sheet bits e).accepted.formed)

data-bytes : (k : ℕ) → k ≤ 357376 → sheet_bytes 1 k ≤ 45056
unfolding sheet_bytes row_bytes
data-bytes k l = omega arith

sheet-bytes : (lay : Layout) (plan : List ℕ) → Formed (code_of plan) → size_in lay (code_of plan).n1 (code_of plan).n2 ≤ 45056
sheet-bytes lay plan F = layouts.size-most lay (code_of plan).n1 (code_of plan).n2 (record { n1_most = F.n1_most; n2_most = F.n2_most })

pub write-fits : (lay : Layout) (plan bits sheet : List ℕ) → SmallVerdict (write_checks lay plan bits sheet)
unfolding write_checks
write-fits lay plan bits sheet =
    after-lengths lay plan sheet bits (unused_verdict ByRow 1 (data_size (code_of plan)) bits)
    (λ F. unused-fits ByRow 1 (data_size (code_of plan)) bits (data-bytes (data_size (code_of plan)) (size-most plan F)))

reads_fit : (lay : Layout) (plan sheet bits : List ℕ) → SmallVerdict (read_checks lay plan sheet bits)
unfolding read_checks
reads_fit lay plan sheet bits =
    after-lengths lay plan sheet bits (unused_verdict lay (code_of plan).n1 (code_of plan).n2 sheet)
    (λ F. unused-fits lay (code_of plan).n1 (code_of plan).n2 sheet (sheet-bytes lay plan F))

pub turns_fit : (lay : Layout) (plan source target : List ℕ) → SmallVerdict (transpose_checks lay plan source target)
unfolding transpose_checks
turns_fit lay plan source target =
    let c = code_of plan in
    else-fits (sheet_checks lay plan source) _ (sheets-fit lay plan source)
    (λ e. else-fits (sheet_length (other_than lay) c target) _ (length-fits 11 target (size_in (other_than lay) c.n1 c.n2) (omega arith))
    (λ _. unused-fits lay c.n1 c.n2 source (sheet-bytes lay plan (sheet-zero lay plan source e).accepted.formed)))

pub forms-fit : (plan sheet : List ℕ) → SmallVerdict (form_checks plan sheet)
unfolding form_checks
forms-fit plan sheet =
    else-fits (sheet_checks ByRow plan sheet) (unused_verdict ByRow (code_of plan).n1 (code_of plan).n2 sheet) (sheets-fit ByRow plan sheet)
    (λ e. unused-fits ByRow (code_of plan).n1 (code_of plan).n2 sheet (sheet-bytes ByRow plan (sheet-zero ByRow plan sheet e).accepted.formed))

pub sums-fit : (plan sheet sums : List ℕ) → SmallVerdict (sums_checks plan sheet sums)
unfolding sums_checks
sums-fit plan sheet sums =
    else-fits (form_checks plan sheet) (sums_length sums) (forms-fit plan sheet) (λ _. length-fits 24 sums 8 (omega arith))

pub alters-fit : (plan sheet : List ℕ) (d : ℕ) → SmallVerdict (alter_checks plan sheet d)
unfolding alter_checks position_verdict belong_verdict
alters-fit plan sheet d =
    let k = data_size (code_of plan) in
    else-fits (form_checks plan sheet) _ (forms-fit plan sheet)
    (λ _. else-fits (position_verdict k d) _ (told-fits (leb k d) 17 (omega arith))
    (λ _. told-fits (not (belongs (code_of plan) (cell_of (code_of plan).n2 sheet))) 18 (omega arith)))

pub puts-fit : (plan sheet : List ℕ) (a : ℕ) → SmallVerdict (back_checks plan sheet a)
unfolding back_checks burst_verdict
puts-fit plan sheet a =
    else-fits (form_checks plan sheet) _ (forms-fit plan sheet) (λ _. told-fits (no_burst (code_of plan) a) 22 (omega arith))

-- checks 1 to 11 of two scans, and then others
after-scans : (plan first second : List ℕ) (v : Verdict) → (Formed (code_of plan) → SmallVerdict v) → SmallVerdict (scan_lengths plan first second or_else v)
unfolding scan_lengths
after-scans plan first second v f =
    let c = code_of plan in
    else-fits (scan_lengths plan first second) v
    (else-fits (sheet_checks ByRow plan first) (sheet_length ByRow c second) (sheets-fit ByRow plan first)
    (λ _. length-fits 11 second (sheet_bytes c.n1 c.n2) (omega arith)))
    (λ e. f (scans-fit plan first second e).accepted.formed)

two-checks-fit : (plan first second bits : List ℕ) → SmallVerdict (read_two_checks plan first second bits)
unfolding read_two_checks
two-checks-fit plan first second bits =
    let c = code_of plan in
    after-scans plan first second _
    (λ F.
    else-fits (data_length c bits) _ (length-fits 12 bits (row_bytes (data_size c)) (omega arith))
    (λ _. else-fits (unused_verdict ByRow c.n1 c.n2 first) (unused_verdict ByRow c.n1 c.n2 second)
    (unused-fits ByRow c.n1 c.n2 first (sheet-bytes ByRow plan F))
    (λ _. unused-fits ByRow c.n1 c.n2 second (sheet-bytes ByRow plan F))))

-- checks 14 and 19
decide-fits : (a b : Outcome) (bits : List ℕ) → SmallVerdict (decide a b bits).verdict
unfolding decide
decide-fits a b bits =
    else-fits (none_verdict a b) (differ_verdict a b) (told-fits (not (mends a || mends b)) 14 (omega arith))
    (λ _. told-fits (mends a && (mends b && not (agree a.bits b.bits))) 19 (omega arith))

pub two_fits : (plan first second bits : List ℕ) → SmallVerdict (read_two plan first second bits).verdict
unfolding read_two
two_fits plan first second bits =
    go (eqb (read_two_checks plan first second bits).number 0) (decide (read_outcome plan first bits) (read_outcome plan second bits) bits)
    (decide-fits (read_outcome plan first bits) (read_outcome plan second bits) bits)
  where
    go : (t : Bool) (o : TwoRead) → SmallVerdict o.verdict → SmallVerdict (cond t o (two_read (read_two_checks plan first second bits) bits)).verdict
    go true o f = f
    go false o f = two-checks-fit plan first second bits

pub stack-fits : (plan stack numbers bits : List ℕ) → SmallVerdict (read_stack plan stack numbers bits).verdict
unfolding read_stack stack_checks
stack-fits plan stack numbers bits =
    let c = code_of plan in
    let n = sheet_count stack in
    else-fits (plan_verdict plan) _ (plan-fits plan)
    (λ _. else-fits (stack_form c stack) _ (told-fits (stack_broken (sheet_size c) stack) 20 (omega arith))
    (λ _. else-fits (numbers_length n numbers) _ (length-fits 21 numbers (n * numbers_size) (omega arith))
    (λ _. length-fits 12 bits (n * data_bytes c) (omega arith))))

found-fits : (r : Option Burst) → SmallVerdict (found_verdict r)
found-fits (Some b) = accepted-fits
found-fits None = record { number_fits = omega arith; p_fits = omega arith; q_fits = omega arith; silent = λ _. (refl, refl) }

pub read_fits : (lay : Layout) (plan sheet bits : List ℕ) → SmallVerdict (read_in lay plan sheet bits).verdict
unfolding read_in read_verdict
read_fits lay plan sheet bits =
    go (eqb (read_verdict lay plan sheet bits).number 0)
    (else-fits (read_checks lay plan sheet bits) (found_verdict found) (reads_fit lay plan sheet bits) (λ _. found-fits found))
  where
    found : Option Burst
    found = burst_in lay (code_of plan) sheet

    go : (t : Bool) → SmallVerdict (read_verdict lay plan sheet bits)
        → SmallVerdict (cond t (taken lay (code_of plan) sheet) (refused (read_verdict lay plan sheet bits) sheet bits)).verdict
    go true f = accepted-fits
    go false f = f

burst-fits : (lay : Layout) (c : Code) → Formed c → (sheet : List ℕ) → mendable c (cell_in lay c.n1 c.n2 sheet) ≡ true
    → ReportFits (report_read lay c sheet)
unfolding report_read burst_in mendable change
burst-fits lay c F sheet e =
    let s = cell_in lay c.n1 c.n2 sheet in
    rw (first-report c _ _ e) (packing.burst-fits c F (change c s) (change-burst c F s e))

pub report-fits : (lay : Layout) (plan sheet bits : List ℕ) → ReportFits (read_in lay plan sheet bits).report
unfolding read_in
report-fits lay plan sheet bits = go (eqb (read_verdict lay plan sheet bits).number 0) refl
  where
    go : (t : Bool) → eqb (read_verdict lay plan sheet bits).number 0 ≡ t
        → ReportFits (cond t (taken lay (code_of plan) sheet) (refused (read_verdict lay plan sheet bits) sheet bits)).report
    go true e =
        let z = zero-reads lay plan sheet bits (eqb-true (read_verdict lay plan sheet bits).number 0 e) in
        burst-fits lay (code_of plan) z.0.lengths.accepted.formed sheet z.1
    go false e = none-fits

pub read_none : (lay : Layout) (plan sheet bits : List ℕ) → let o = read_in lay plan sheet bits in
    (o.verdict.number ≡ 0 → ⊥) → o.report ≡ report_as no_report
unfolding read_in
read_none lay plan sheet bits = go (eqb (read_verdict lay plan sheet bits).number 0)
  where
    go : (t : Bool) → let o = cond t (taken lay (code_of plan) sheet) (refused (read_verdict lay plan sheet bits) sheet bits) in
        (o.verdict.number ≡ 0 → ⊥) → o.report ≡ report_as no_report
    go true h = absurd (h refl)
    go false h = refl

-- ---- the fields of an answer

pub plan-range : (plan : List ℕ) → InRange (verdict_fields (plan_verdict plan))
plan-range plan = fields-range (plan_verdict plan) (report_as no_report) (plan-fits plan) none-fits

pub make-range : (g : Parameters) (plan : List ℕ) → InRange (verdict_fields (make g plan).verdict)
make-range g plan = fields-range (make g plan).verdict (report_as no_report) (make-fits g plan) none-fits

-- an answer of the maker, as a call has it: its fields are in range, and packed they are the call's
module _ (g : Parameters) (plan : List ℕ) {v : Verdict} {s : List ℕ} (e : made v s ≡ make g plan) where
  pub made_range : InRange (verdict_fields v)
  made_range = rw (ap (λ (o : Made). verdict_fields o.verdict) e) (make-range g plan)

  pub made-packed : make_reply (packed (verdict_fields v)) s ≡ make_call g plan
  unfolding make_call
  made-packed = ap (λ (o : Made). make_reply (packed (verdict_fields o.verdict)) o.plan) e

pub write-range : (lay : Layout) (plan bits sheet : List ℕ) → InRange (verdict_fields (write_in lay plan bits sheet).verdict)
unfolding write_in
write-range lay plan bits sheet = fields-range (write_checks lay plan bits sheet) (report_as no_report) (write-fits lay plan bits sheet) none-fits

pub turn-range : (lay : Layout) (plan source target : List ℕ) → InRange (verdict_fields (turn_over lay plan source target).verdict)
unfolding turn_over
turn-range lay plan source target =
    fields-range (transpose_checks lay plan source target) (report_as no_report) (turns_fit lay plan source target) none-fits

pub sums-range : (plan sheet : List ℕ) (first past : ℕ) (sums : List ℕ) → InRange (verdict_fields (sum_run plan sheet first past sums).verdict)
unfolding sum_run
sums-range plan sheet first past sums = fields-range (sums_checks plan sheet sums) (report_as no_report) (sums-fit plan sheet sums) none-fits

pub alter-range : (plan sheet : List ℕ) (d : ℕ) → InRange (verdict_fields (alter plan sheet d).verdict)
unfolding alter
alter-range plan sheet d = fields-range (alter_checks plan sheet d) (report_as no_report) (alters-fit plan sheet d) none-fits

pub two-range : (plan first second bits : List ℕ) → InRange (verdict_fields (read_two plan first second bits).verdict)
two-range plan first second bits =
    fields-range (read_two plan first second bits).verdict (report_as no_report) (two_fits plan first second bits) none-fits

pub stack-range : (plan stack numbers bits : List ℕ) → InRange (verdict_fields (read_stack plan stack numbers bits).verdict)
stack-range plan stack numbers bits =
    fields-range (read_stack plan stack numbers bits).verdict (report_as no_report) (stack-fits plan stack numbers bits) none-fits

pub read-range : (lay : Layout) (plan sheet bits : List ℕ)
    → InRange (report_fields (read_in lay plan sheet bits).verdict (read_in lay plan sheet bits).report)
read-range lay plan sheet bits =
    let o = read_in lay plan sheet bits in
    fields-range o.verdict o.report (read_fits lay plan sheet bits) (report-fits lay plan sheet bits)

pub put-range : (plan sheet : List ℕ) (a : ℕ) → InRange (verdict_fields (put_back plan sheet a).verdict)
unfolding put_back
put-range plan sheet a = fields-range (back_checks plan sheet a) (report_as no_report) (puts-fit plan sheet a) none-fits

pub record PartFits (p : Part) : Type 0 where
  pub ordered : p.start ≤ p.end
  pub fits : p.start + (p.end - p.start) ≤ 45056

pub part-range : (plan first second : List ℕ) → PartFits (difference plan first second)
part-range plan first second =
    let I = part_small plan first second in
    record { ordered = I.ordered; fits = omega (arith, I.ordered, I.within) }
