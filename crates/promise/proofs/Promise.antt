-- The promise, proved: one declaration for each theorem of specs/Promise.antt, of that type. A written sheet with a burst on
-- it is fitted by that burst, so it is read back; and from equal sheets the same data is read.
--
--   plan-test, made-passes, written_once, leaves, apart, read_back, read-clean, answers, one-burst, reports, turns
--
-- Assumes nothing.
use mathlib.Core.Path.{◌≡◌, refl, sym, ap, ap₂, ◌∙◌}
use mathlib.Core.Bool.{Bool}
use mathlib.Core.Logic.{◌⊎◌, inl, inr}
use mathlib.Core.List.{List}
use Prim.Native.Nat.{ℕ}
use native.Mathlib.Omega.{arith}
use Rattle.layout.specs.declared.stored.Layout.{Layout}
use Rattle.layout.proofs.Form.{row-sheet}
use Rattle.layout.proofs.Layouts.{laws}
use Rattle.boxcode.specs.Code.{Code}
use Rattle.boxcode.specs.Check.{data_size, written}
use Rattle.boxcode.specs.Reader.{Report, report_of}
use Rattle.boxcode.proofs.Burst.{burst-on, burst-none}
use Rattle.boxcode.proofs.Fill.{data-cells}
use Rattle.boxcode.proofs.Report.{report-inside, report-least, report-bit, report-below, report-none}
use Rattle.boxcode.proofs.Theorems.{at_most_one, written-data, written-only}
use Rattle.plan.specs.declared.verdict.Verdict.{Verdict}
use Rattle.plan.specs.Verdict.{accepted}
use Rattle.plan.specs.Bytes.{code_of}
use Rattle.accept.specs.Verdict.{Accepted}
use Rattle.accept.proofs.Acceptance.{accepted-plan, plan-accepted}
use Rattle.maker.specs.Make.{make}
use Rattle.maker.proofs.Accepted.{make-accepted}
use Rattle.buffers.specs.Buffers.{write_checks}
use Rattle.buffers.proofs.Passing.{writes-pass}
use Rattle.writer.specs.Write.{data_bits, written_in, write_in}
use Rattle.writer.proofs.Outcomes.{written-form, written-cell, written-belongs}
use Rattle.reader.specs.Read.{Outcome, read_in}
use Rattle.promise.specs.Promise as promise
use Rattle.promise.specs.Promise.{DataFor, BufferFor, NoneIn, SomeIn, cells_in, held_in, corrupted_in, empty, read_as}
use Rattle.promise.proofs.Corrupted.{corrupted-form, corrupted-cell, corrupted-none, corrupted-back, fits-cells, data-bit, data-held}
use Rattle.promise.proofs.Reading.{taken_as, refused_as, none_or_some}

pub plan-test : promise.PlanTest
plan-test plan = (accepted-plan plan, λ A. ap (λ (v : Verdict). v.number) (plan-accepted plan A))

pub made-passes : promise.MadePasses
made-passes g old e = ap (λ (v : Verdict). v.number) (plan-accepted (make g old).plan (make-accepted g old e))

pub turns : promise.Turns
turns lay plan ok sheet = record {
  form = corrupted-form lay plan sheet;
  cell = corrupted-cell lay plan sheet;
  empty_burst = burst-none (code_of plan) (accepted-plan plan ok).formed;
  empty_turns = corrupted-none lay plan sheet;
}

-- ---- writing

module _ (lay : Layout) (plan : List ℕ) (A : Accepted plan) (bits : List ℕ) (right : DataFor plan bits) where
  abbrev c : Code
  c = code_of plan

  abbrev x : ℕ → Bool
  x = data_bits (data_size (code_of plan)) bits

  written-sheet : promise.Written lay plan bits
  written-sheet =
      let w = written_in lay plan bits in
      record {
        form = written-form lay plan bits;
        belongs = written-belongs lay plan bits A;
        holds = data-held lay plan w bits right
            (λ d l. data-cells c A.formed (cells_in lay plan w) (written c x) (written-cell lay plan bits) d l ∙ written-data c A.formed x d l);
        only = λ sheet f b h.
            (laws lay c.n1 c.n2).same sheet w f (written-form lay plan bits)
            (λ i j li lj.
            written-only c A.formed A.conditions x (cells_in lay plan sheet) b
            (λ d l. sym (data-bit lay plan sheet d l) ∙ ap (λ (s : List ℕ). data_bits (data_size c) s d) h) i j li lj
            ∙ sym (written-cell lay plan bits i j li lj));
      }

  -- data of the right form is as long as the data buffer
  bits-long : BufferFor plan bits
  bits-long = right.size ∙ row-sheet (data_size c)

pub written_once : promise.WrittenOnce
written_once lay plan ok bits right = written-sheet lay plan (accepted-plan plan ok) bits right

pub leaves : promise.Leaves
unfolding write_in
leaves lay plan ok bits old right l = rw checks
  where
    checks : write_checks lay plan bits old ≡ accepted
    checks =
        let A = accepted-plan plan ok in
        writes-pass lay plan bits old (record { lengths = record { accepted = A; sheet_len = l; bits_size = bits-long lay plan A bits right }; form = right })

-- ---- reading

pub answers : promise.Answers
answers lay plan ok sheet old form l = record {
  number = either (none_or_some lay plan A sheet old form l);
  none_fits = (λ n e B f. apart-numbers (some (e, B, f)) n, none);
  some_fits = (λ n. found n (none_or_some lay plan A sheet old form l), some);
  takes = taken_as lay plan A sheet old form l;
  refuses = refused_as lay plan A sheet old form l;
}
  where
    A : Accepted plan
    A = accepted-plan plan ok

    told : ℕ
    told = (read_in lay plan sheet old).verdict.number

    none : NoneIn lay plan sheet → told ≡ 14
    none h = ap (λ (o : Outcome). o.verdict.number) (refused_as lay plan A sheet old form l h)

    some : SomeIn lay plan sheet → told ≡ 0
    some w = ap (λ (o : Outcome). o.verdict.number) (taken_as lay plan A sheet old form l w.0 w.1 w.2)

    apart-numbers : told ≡ 0 → told ≡ 14 → ⊥
    apart-numbers p q = omega arith

    either : NoneIn lay plan sheet ⊎ SomeIn lay plan sheet → (told ≡ 0) ⊎ (told ≡ 14)
    either (inl h) = inr (none h)
    either (inr w) = inl (some w)

    found : told ≡ 0 → NoneIn lay plan sheet ⊎ SomeIn lay plan sheet → SomeIn lay plan sheet
    found n (inl h) = absurd (apart-numbers n (none h))
    found n (inr w) = w

pub one-burst : promise.OneBurst
one-burst lay plan ok sheet e e' B B' f f' =
    let A = accepted-plan plan ok in
    at_most_one (code_of plan) A.formed A.conditions (cells_in lay plan sheet) e e' B B' (fits-cells lay plan sheet e f) (fits-cells lay plan sheet e' f')

-- ---- reading what was written

-- the sheet is fitted by the burst on it
pub read_back : promise.ReadBack
read_back lay plan ok bits old e right B l =
    let w = written_in lay plan bits in
    let W = written_once lay plan ok bits right in
    let back : corrupted_in lay plan (corrupted_in lay plan w e) e ≡ w = corrupted-back lay plan w e W.form in
    taken_as lay plan (accepted-plan plan ok) (corrupted_in lay plan w e) old (corrupted-form lay plan w e) l e B (rw back W.belongs)
    ∙ ap₂ (read_as (report_of (code_of plan) e)) back (ap (held_in lay plan) back ∙ W.holds)

pub read-clean : promise.ReadClean
read-clean lay plan ok bits old right l =
    let w = written_in lay plan bits in
    ap (λ (s : List ℕ). read_in lay plan s old) (sym (corrupted-none lay plan w (written_once lay plan ok bits right).form))
    ∙ read_back lay plan ok bits old empty right (burst-none (code_of plan) (accepted-plan plan ok).formed) l
    ∙ ap (λ (r : Report). read_as r w bits) (report-none (code_of plan) empty (λ i j li lj. refl))

-- the same data is read from equal sheets
pub apart : promise.Apart
apart lay plan ok bits bits' e e' right right' B B' same =
    let l = bits-long lay plan (accepted-plan plan ok) bits right in
    ap (λ (o : Outcome). o.bits)
    (sym (read_back lay plan ok bits bits e right B l) ∙ ap (λ (s : List ℕ). read_in lay plan s bits) same ∙ read_back lay plan ok bits' bits e' right' B' l)

-- ---- the report

pub reports : promise.Reports
reports plan e B =
    let on = burst-on (code_of plan) e B in
    record {
      count = unfold report_of in refl;
      holds = report-inside (code_of plan) e on;
      least = λ i j t top left height width h.
          report-least (code_of plan) top left height width e h i j (on.rows i j t) (on.columns i j t) t;
      pattern = λ i j li lj. report-bit (code_of plan) e i j li lj;
      pattern_below = report-below (code_of plan) e;
      none = λ h. report-none (code_of plan) e (λ i j li lj. h i j);
    }
