-- The checks of a call pass exactly where the plan is accepted and the buffers are right.
--
--   stops, goes_on           the answer of a sequence of checks: the first part refuses; it passes, and the rest answers
--   checked-passes, checked-stops, checked-goes-on   checks that leave the column table unpacked: they pass; the first part refuses; it passes, and
--                            the rest answers
--   checked-else             the same, where both parts are asked at once
--   size-most, bytes_most    there are at most 512 × 698 data bits, and 88 bytes a row
--   length-right, right-length, unused-right, right-unused   each check passes exactly where its buffer is right
--   SheetFits                what holds where checks 1 to 11 pass
--   sheet-zero, sheets-pass  checks 1 to 11 pass exactly there
--   Lengths                  what holds where checks 1 to 12 pass
--   length-zero, lengths-pass   checks 1 to 12 pass exactly there
--   MayWrite, MayRead        what holds where the checks before writing, and before reading, pass
--   write-zero, writes-pass  the checks before writing pass exactly there
--   read-zero, reads-pass    so do those before reading
--   MayTranspose, transpose-zero, transposes-pass   and those before turning a sheet into the other layout
--   InForm, form-zero, forms-pass   the plan is accepted and the sheet of the right form: checks 1 to 11 and 13 pass exactly there
--   MaySum, sum-zero, sums-pass     the same for the checks before the sums of a run
--   ScansFit, scans-fit             what holds where checks 1 to 11 of two scans pass
--   BothInForm, both_zero, boths-pass   both scans are of the right form: checks 1 to 11 and 13 of both pass exactly there
--   MayReadTwo, two-zero, twos-pass     the same for the checks before reading two scans
--
-- Assumes nothing.
use mathlib.Core.Path.{◌≡◌, refl, sym, ap, ap₂, ◌∙◌}
use mathlib.Core.Bool.{not}
use mathlib.Core.List.{List}
use Prim.Native.Nat.{ℕ, suc, ◌*◌, ◌≤◌}
use native.Mathlib.Nat.{mul-le-mul}
use native.Mathlib.Omega.{arith}
use borrow.Author.Tests.{eq-eqb, eqb-true, le-ltb, ltb-false, not-false}
use lib.Dec.{eqb, ltb}
use lib.ListN.{length}
use Rattle.finite.proofs.Search.{least-le}
use Rattle.layout.specs.Cells.{row_bytes, sheet_bytes, first_unused, RightForm}
use Rattle.layout.specs.Stored.{other_than, size_in, FormIn, first_unused_in}
use Rattle.layout.specs.declared.stored.Layout.{Layout}
use Rattle.layout.specs.declared.stored.Layout.TheVariants.{ByRow, ByColumn}
use Rattle.layout.proofs.Form.{row-sheet}
use Rattle.layout.proofs.Layouts.{in_size, in-unused, unused-in}
use Rattle.boxcode.specs.Code.{Formed}
use Rattle.boxcode.specs.Check.{data_size}
use Rattle.boxcode.proofs.Check.{sheet-cells}
use Rattle.std.specs.Prelude.{Result, IsErrAnd}
use Rattle.plan.specs.declared.verdict.Verdict.{Verdict}
use Rattle.plan.specs.declared.verdict.Refusal.{Refusal}
use Rattle.plan.specs.Verdict.{accepted, ◌or_else◌, refusal_of, told}
use Rattle.plan.specs.Bytes.{code_of}
use Rattle.plan.proofs.Sequence.{else-first, else-second, else-zero, if-zero, same-zero, passed, refused, hands-on, goes-on}
use Rattle.accept.specs.Verdict.{plan_verdict, Accepted}
use Rattle.accept.specs.Checked.{Checked}
use Rattle.accept.proofs.Acceptance.{accepted-plan, plan-accepted}
use Rattle.buffers.specs.Buffers.{length_verdict, unused_verdict, sheet_checks, length_checks, write_checks, read_checks, form_checks, sums_checks}
use Rattle.buffers.specs.Buffers.{transpose_checks}
use Rattle.buffers.specs.Buffers.{scan_lengths, scans_unused, scans_checks, read_two_checks}

pub stops : (u v : Verdict) {x : Verdict} → x ≡ u → (x.number ≡ 0 → ⊥) → x ≡ u or_else v
stops u v e h = e ∙ sym (else-first u v (λ z. h (same-zero (sym e) z)))

pub goes_on : (u v : Verdict) {x : Verdict} → u.number ≡ 0 → x ≡ v → x ≡ u or_else v
goes_on u v p e = e ∙ sym (else-second u v p)

-- the same of checks that leave the column table unpacked
pub checked-passes : {plan words : List ℕ} {u : Verdict} → Checked plan u accepted words → u.number ≡ 0
checked-passes C = passed C.verdict

pub checked-stops : {A : Type 0} {plan words : List ℕ} {u : Verdict} (v : Verdict) (r : Result A Refusal) (e : Refusal)
    → IsErrAnd r (λ y. y ≡ e) → Checked plan u (refusal_of e) words → Checked plan (u or_else v) (told r) words
checked-stops {u = u} v r e h C = record { verdict = stops u v (hands-on r e h C.verdict) (refused r e h); unpacked = λ z. absurd (refused r e h z) }

pub checked-goes-on : {plan words : List ℕ} {u v x : Verdict} → Checked plan u accepted words → x ≡ v → Checked plan (u or_else v) x words
checked-goes-on C f = record { verdict = goes-on C.verdict f; unpacked = λ _. C.unpacked refl }

pub checked-else : {plan words : List ℕ} (u v : Verdict) {f x r : Verdict} → Checked plan u f words → x ≡ v → r ≡ f or_else x
    → Checked plan (u or_else v) r words
checked-else u v {f} {x} C e o = record {
  verdict = o ∙ ap₂ ◌or_else◌ C.verdict e;
  unpacked = λ z. C.unpacked (else-zero f x (same-zero o z)).0;
}

module _ (plan : List ℕ) where
  pub size-most : Formed (code_of plan) → data_size (code_of plan) ≤ 357376
  unfolding data_size
  size-most F = omega (arith, sheet-cells F.n1_most F.n2_most)

  pub bytes_most : (m : ℕ) → Formed (code_of plan) → m ≡ row_bytes (code_of plan).n2 → (code_of plan).n1 * m ≤ 45056
  unfolding row_bytes
  bytes_most m F e = let w : m ≤ 88 = omega (arith, F.n2_most) in mul-le-mul F.n1_most w

-- ---- each check

pub length-right : (number : ℕ) (s : List ℕ) (size : ℕ) → (length_verdict (suc number) s size).number ≡ 0 → length s ≡ size
unfolding length_verdict
length-right number s size e = eqb-true (length s) size (not-false _ (if-zero (not (eqb (length s) size)) number 0 0 e))

pub right-length : (number : ℕ) (s : List ℕ) (size : ℕ) → length s ≡ size → length_verdict number s size ≡ accepted
unfolding length_verdict
right-length number s size e = rw (eq-eqb (length s) size e)

unused-le : (lay : Layout) (n1 n2 : ℕ) (s : List ℕ) → first_unused_in lay n1 n2 s ≤ size_in lay n1 n2
unfolding first_unused
unused-le ByRow n1 n2 s = least-le (sheet_bytes n1 n2) _
unused-le ByColumn n1 n2 s = least-le (sheet_bytes n2 n1) _

pub unused-right : (lay : Layout) (n1 n2 : ℕ) (s : List ℕ) → length s ≡ size_in lay n1 n2 → (unused_verdict lay n1 n2 s).number ≡ 0 → FormIn lay n1 n2 s
unfolding unused_verdict
unused-right lay n1 n2 s l e =
    let k = first_unused_in lay n1 n2 s in
    let n = size_in lay n1 n2 in
    let u : n ≤ k = ltb-false k n (if-zero (ltb k n) 12 k 0 e) in
    unused-in lay n1 n2 s l (omega (arith, unused-le lay n1 n2 s))

pub right-unused : (lay : Layout) (n1 n2 : ℕ) (s : List ℕ) → FormIn lay n1 n2 s → unused_verdict lay n1 n2 s ≡ accepted
unfolding unused_verdict
right-unused lay n1 n2 s f = rw (in-unused lay n1 n2 s f, le-ltb (size_in lay n1 n2) (size_in lay n1 n2) (omega arith))

-- ---- the checks of a call

number_of : {v : Verdict} → v ≡ accepted → v.number ≡ 0
number_of e = ap (λ (v : Verdict). v.number) e

pub record SheetFits (lay : Layout) (plan sheet : List ℕ) : Type 0 where
  pub accepted : Accepted plan
  pub sheet_len : length sheet ≡ size_in lay (code_of plan).n1 (code_of plan).n2

pub sheet-zero : (lay : Layout) (plan sheet : List ℕ) → (sheet_checks lay plan sheet).number ≡ 0 → SheetFits lay plan sheet
unfolding sheet_checks
sheet-zero lay plan sheet e =
    let p = else-zero (plan_verdict plan) _ e in
    record { accepted = accepted-plan plan p.0; sheet_len = length-right 10 sheet _ p.1 }

pub sheets-pass : (lay : Layout) (plan sheet : List ℕ) → SheetFits lay plan sheet → sheet_checks lay plan sheet ≡ accepted
unfolding sheet_checks
sheets-pass lay plan sheet F =
    else-second (plan_verdict plan) _ (number_of (plan-accepted plan F.accepted)) ∙ right-length 11 sheet _ F.sheet_len

pub record Lengths (lay : Layout) (plan sheet bits : List ℕ) : Type 0 where
  pub accepted : Accepted plan
  pub sheet_len : length sheet ≡ size_in lay (code_of plan).n1 (code_of plan).n2
  pub bits_size : length bits ≡ row_bytes (data_size (code_of plan))

pub length-zero : (lay : Layout) (plan sheet bits : List ℕ) → (length_checks lay plan sheet bits).number ≡ 0 → Lengths lay plan sheet bits
unfolding length_checks
length-zero lay plan sheet bits e =
    let p = else-zero (sheet_checks lay plan sheet) _ e in
    let F = sheet-zero lay plan sheet p.0 in
    record { accepted = F.accepted; sheet_len = F.sheet_len; bits_size = length-right 11 bits _ p.1 }

pub lengths-pass : (lay : Layout) (plan sheet bits : List ℕ) → Lengths lay plan sheet bits → length_checks lay plan sheet bits ≡ accepted
unfolding length_checks
lengths-pass lay plan sheet bits L =
    let F : SheetFits lay plan sheet = record { accepted = L.accepted; sheet_len = L.sheet_len } in
    else-second (sheet_checks lay plan sheet) _ (number_of (sheets-pass lay plan sheet F)) ∙ right-length 12 bits _ L.bits_size

pub record MayWrite (lay : Layout) (plan bits sheet : List ℕ) : Type 0 where
  pub lengths : Lengths lay plan sheet bits
  pub form : RightForm 1 (data_size (code_of plan)) bits

pub record MayRead (lay : Layout) (plan sheet bits : List ℕ) : Type 0 where
  pub lengths : Lengths lay plan sheet bits
  pub form : FormIn lay (code_of plan).n1 (code_of plan).n2 sheet

pub write-zero : (lay : Layout) (plan bits sheet : List ℕ) → (write_checks lay plan bits sheet).number ≡ 0 → MayWrite lay plan bits sheet
unfolding write_checks
write-zero lay plan bits sheet e =
    let k = data_size (code_of plan) in
    let p = else-zero (length_checks lay plan sheet bits) _ e in
    let L = length-zero lay plan sheet bits p.0 in
    record { lengths = L; form = unused-right ByRow 1 k bits (L.bits_size ∙ sym (row-sheet k)) p.1 }

pub writes-pass : (lay : Layout) (plan bits sheet : List ℕ) → MayWrite lay plan bits sheet → write_checks lay plan bits sheet ≡ accepted
unfolding write_checks
writes-pass lay plan bits sheet w =
    else-second (length_checks lay plan sheet bits) _ (number_of (lengths-pass lay plan sheet bits w.lengths))
    ∙ right-unused ByRow 1 (data_size (code_of plan)) bits w.form

pub read-zero : (lay : Layout) (plan sheet bits : List ℕ) → (read_checks lay plan sheet bits).number ≡ 0 → MayRead lay plan sheet bits
unfolding read_checks
read-zero lay plan sheet bits e =
    let p = else-zero (length_checks lay plan sheet bits) _ e in
    let L = length-zero lay plan sheet bits p.0 in
    record { lengths = L; form = unused-right lay (code_of plan).n1 (code_of plan).n2 sheet L.sheet_len p.1 }

pub reads-pass : (lay : Layout) (plan sheet bits : List ℕ) → MayRead lay plan sheet bits → read_checks lay plan sheet bits ≡ accepted
unfolding read_checks
reads-pass lay plan sheet bits r =
    else-second (length_checks lay plan sheet bits) _ (number_of (lengths-pass lay plan sheet bits r.lengths))
    ∙ right-unused lay (code_of plan).n1 (code_of plan).n2 sheet r.form

pub record MayTranspose (lay : Layout) (plan source target : List ℕ) : Type 0 where
  pub accepted : Accepted plan
  pub form : FormIn lay (code_of plan).n1 (code_of plan).n2 source
  pub target_size : length target ≡ size_in (other_than lay) (code_of plan).n1 (code_of plan).n2

pub transpose-zero : (lay : Layout) (plan source target : List ℕ) → (transpose_checks lay plan source target).number ≡ 0 → MayTranspose lay plan source target
unfolding transpose_checks
transpose-zero lay plan source target e =
    let n1 = (code_of plan).n1 in
    let n2 = (code_of plan).n2 in
    let p = else-zero (sheet_checks lay plan source) _ e in
    let q = else-zero (length_verdict 11 target (size_in (other_than lay) n1 n2)) _ p.1 in
    let F = sheet-zero lay plan source p.0 in
    record {
      accepted = F.accepted;
      form = unused-right lay n1 n2 source F.sheet_len q.1;
      target_size = length-right 10 target _ q.0;
    }

pub transposes-pass : (lay : Layout) (plan source target : List ℕ) → MayTranspose lay plan source target → transpose_checks lay plan source target ≡ accepted
unfolding transpose_checks
transposes-pass lay plan source target m =
    let n1 = (code_of plan).n1 in
    let n2 = (code_of plan).n2 in
    let S : SheetFits lay plan source = record { accepted = m.accepted; sheet_len = in_size lay n1 n2 source m.form } in
    else-second (sheet_checks lay plan source) _ (number_of (sheets-pass lay plan source S))
    ∙ else-second (length_verdict 11 target (size_in (other_than lay) n1 n2)) _ (number_of (right-length 11 target _ m.target_size))
    ∙ right-unused lay n1 n2 source m.form

pub record InForm (plan sheet : List ℕ) : Type 0 where
  pub accepted : Accepted plan
  pub form : RightForm (code_of plan).n1 (code_of plan).n2 sheet

pub form-zero : (plan sheet : List ℕ) → (form_checks plan sheet).number ≡ 0 → InForm plan sheet
unfolding form_checks
form-zero plan sheet e =
    let p = else-zero (sheet_checks ByRow plan sheet) _ e in
    let F = sheet-zero ByRow plan sheet p.0 in
    record { accepted = F.accepted; form = unused-right ByRow (code_of plan).n1 (code_of plan).n2 sheet F.sheet_len p.1 }

pub forms-pass : (plan sheet : List ℕ) → InForm plan sheet → form_checks plan sheet ≡ accepted
unfolding form_checks
forms-pass plan sheet F =
    let S : SheetFits ByRow plan sheet = record { accepted = F.accepted; sheet_len = F.form.size } in
    else-second (sheet_checks ByRow plan sheet) _ (number_of (sheets-pass ByRow plan sheet S))
    ∙ right-unused ByRow (code_of plan).n1 (code_of plan).n2 sheet F.form

pub record MaySum (plan sheet sums : List ℕ) : Type 0 where
  pub right : InForm plan sheet
  pub room : length sums ≡ 8

pub sum-zero : (plan sheet sums : List ℕ) → (sums_checks plan sheet sums).number ≡ 0 → MaySum plan sheet sums
unfolding sums_checks
sum-zero plan sheet sums e =
    let p = else-zero (form_checks plan sheet) _ e in
    record { right = form-zero plan sheet p.0; room = length-right 23 sums 8 p.1 }

pub sums-pass : (plan sheet sums : List ℕ) → MaySum plan sheet sums → sums_checks plan sheet sums ≡ accepted
unfolding sums_checks
sums-pass plan sheet sums m =
    else-second (form_checks plan sheet) _ (number_of (forms-pass plan sheet m.right)) ∙ right-length 24 sums 8 m.room

pub record ScansFit (plan first second : List ℕ) : Type 0 where
  pub accepted : Accepted plan
  pub first_size : length first ≡ sheet_bytes (code_of plan).n1 (code_of plan).n2
  pub second_size : length second ≡ sheet_bytes (code_of plan).n1 (code_of plan).n2

pub scans-fit : (plan first second : List ℕ) → (scan_lengths plan first second).number ≡ 0 → ScansFit plan first second
unfolding scan_lengths
scans-fit plan first second e =
    let p = else-zero (sheet_checks ByRow plan first) _ e in
    let F = sheet-zero ByRow plan first p.0 in
    record { accepted = F.accepted; first_size = F.sheet_len; second_size = length-right 10 second _ p.1 }

pub record BothInForm (plan first second : List ℕ) : Type 0 where
  pub accepted : Accepted plan
  pub first_form : RightForm (code_of plan).n1 (code_of plan).n2 first
  pub second_form : RightForm (code_of plan).n1 (code_of plan).n2 second

lengths-both : (plan first second : List ℕ) → BothInForm plan first second → scan_lengths plan first second ≡ accepted
unfolding scan_lengths
lengths-both plan first second B =
    let S : SheetFits ByRow plan first = record { accepted = B.accepted; sheet_len = B.first_form.size } in
    else-second (sheet_checks ByRow plan first) _ (number_of (sheets-pass ByRow plan first S)) ∙ right-length 11 second _ B.second_form.size

unused-both : (plan first second : List ℕ) → BothInForm plan first second → scans_unused (code_of plan) first second ≡ accepted
unused-both plan first second B =
    let n1 = (code_of plan).n1 in
    let n2 = (code_of plan).n2 in
    else-second (unused_verdict ByRow n1 n2 first) _ (number_of (right-unused ByRow n1 n2 first B.first_form))
    ∙ right-unused ByRow n1 n2 second B.second_form

both-unused : (plan first second : List ℕ) → ScansFit plan first second → (scans_unused (code_of plan) first second).number ≡ 0
    → BothInForm plan first second
both-unused plan first second S e =
    let n1 = (code_of plan).n1 in
    let n2 = (code_of plan).n2 in
    let p = else-zero (unused_verdict ByRow n1 n2 first) _ e in
    record {
      accepted = S.accepted;
      first_form = unused-right ByRow n1 n2 first S.first_size p.0;
      second_form = unused-right ByRow n1 n2 second S.second_size p.1;
    }

pub both_zero : (plan first second : List ℕ) → (scans_checks plan first second).number ≡ 0 → BothInForm plan first second
unfolding scans_checks
both_zero plan first second e =
    let p = else-zero (scan_lengths plan first second) _ e in
    both-unused plan first second (scans-fit plan first second p.0) p.1

pub boths-pass : (plan first second : List ℕ) → BothInForm plan first second → scans_checks plan first second ≡ accepted
unfolding scans_checks
boths-pass plan first second B =
    else-second (scan_lengths plan first second) _ (number_of (lengths-both plan first second B)) ∙ unused-both plan first second B

pub record MayReadTwo (plan first second bits : List ℕ) : Type 0 where
  pub both : BothInForm plan first second
  pub bits_size : length bits ≡ row_bytes (data_size (code_of plan))

pub two-zero : (plan first second bits : List ℕ) → (read_two_checks plan first second bits).number ≡ 0 → MayReadTwo plan first second bits
unfolding read_two_checks
two-zero plan first second bits e =
    let p = else-zero (scan_lengths plan first second) _ e in
    let q = else-zero (length_verdict 12 bits (row_bytes (data_size (code_of plan)))) _ p.1 in
    record { both = both-unused plan first second (scans-fit plan first second p.0) q.1; bits_size = length-right 11 bits _ q.0 }

pub twos-pass : (plan first second bits : List ℕ) → MayReadTwo plan first second bits → read_two_checks plan first second bits ≡ accepted
unfolding read_two_checks
twos-pass plan first second bits m =
    else-second (scan_lengths plan first second) _ (number_of (lengths-both plan first second m.both))
    ∙ else-second (length_verdict 12 bits (row_bytes (data_size (code_of plan)))) _ (number_of (right-length 12 bits _ m.bits_size))
    ∙ unused-both plan first second m.both
