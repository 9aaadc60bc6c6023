-- What is read from a sheet of the right form, under an accepted plan and with a data buffer of the right length:
--
--   reads-mended, reads-refused   by whether the sheet is mendable
--   none_or_some                  no burst fits it, or some burst does
--   taken_as                      where a burst fits: the sheet with its cells turned over, the data of that sheet, its report
--   refused_as                    where none does: number 14, and both buffers as they were
--
-- Assumes nothing.
use mathlib.Core.Path.{◌≡◌, sym, ap, ◌∙◌}
use mathlib.Core.Bool.{true, false, xor}
use mathlib.Core.Logic.{◌⊎◌, inl, inr}
use mathlib.Core.List.{List}
use Prim.Native.Nat.{ℕ}
use Rattle.finite.proofs.Truth.{Truth, is_true, is_false, true-or-false, clash, not-true}
use Rattle.layout.specs.declared.stored.Layout.{Layout}
use Rattle.layout.proofs.Form.{bytes-equal}
use Rattle.layout.proofs.Layouts.{in_size, in-equal}
use Rattle.boxcode.specs.Code.{Code}
use Rattle.boxcode.specs.Syndrome.{Cells, flip, SameCells}
use Rattle.boxcode.specs.Check.{data_size, data_of}
use Rattle.boxcode.specs.Reader.{change, mended, report_of}
use Rattle.boxcode.proofs.Fill.{data-cells}
use Rattle.boxcode.proofs.Reader.{mendable}
use Rattle.boxcode.proofs.Theorems.{mendable-iff, change-is}
use Rattle.boxcode.proofs.Report.{report-cells}
use Rattle.plan.specs.Verdict.{accepted, refusal, ◌or_else◌}
use Rattle.plan.specs.Bytes.{code_of}
use Rattle.accept.specs.Verdict.{Accepted}
use Rattle.buffers.specs.Buffers.{read_checks}
use Rattle.buffers.proofs.Passing.{reads-pass}
use Rattle.mend.specs.Report.{report_as}
use Rattle.mend.proofs.First.{first-verdict, first-report, first-nothing}
use Rattle.reader.specs.Read.{refused, taken, burst_in, read_verdict, sheet_read, bits_read, report_read, read_in}
use Rattle.promise.specs.Promise.{SheetIn, BufferFor, BurstOn, FitsIn, NoneIn, SomeIn, cells_in, held_in, corrupted_in, read_as}
use Rattle.promise.proofs.Corrupted.{corrupted-cell, fits-cells, cells_fit}

module _ (lay : Layout) (plan : List ℕ) (A : Accepted plan) (sheet old : List ℕ) (form : SheetIn lay plan sheet) (l : BufferFor plan old) where
  abbrev c : Code
  c = code_of plan

  abbrev s : Cells
  s = cells_in lay plan sheet

  checks : read_checks lay plan sheet old ≡ accepted
  checks =
      let size = in_size lay (code_of plan).n1 (code_of plan).n2 sheet form in
      reads-pass lay plan sheet old (record { lengths = record { accepted = A; sheet_len = size; bits_size = l }; form = form })

  pub reads-mended : mendable c s ≡ true → read_in lay plan sheet old ≡ taken lay c sheet
  unfolding read_in read_verdict ◌or_else◌ burst_in mendable
  reads-mended t = rw (checks, first-verdict c _ _ t)

  pub reads-refused : mendable c s ≡ false → read_in lay plan sheet old ≡ refused (refusal 14 0 0) sheet old
  unfolding read_in read_verdict ◌or_else◌ burst_in mendable
  reads-refused t = rw (checks, first-nothing c _ _ t)

  pub refused_as : NoneIn lay plan sheet → read_in lay plan sheet old ≡ refused (refusal 14 0 0) sheet old
  refused_as h =
      reads-refused
      (not-true (mendable c s) (λ t. let w = (mendable-iff c A.formed s).0 t in h w.0 w.1 (cells_fit lay plan sheet w.0 w.2)))

  pub none_or_some : NoneIn lay plan sheet ⊎ SomeIn lay plan sheet
  none_or_some = go (true-or-false (mendable c s))
    where
      go : Truth (mendable c s) → NoneIn lay plan sheet ⊎ SomeIn lay plan sheet
      go (is_true t) = let w = (mendable-iff c A.formed s).0 t in inr (w.0, w.1, cells_fit lay plan sheet w.0 w.2)
      go (is_false t) = inl (λ e B f. clash ((mendable-iff c A.formed s).1 (e, B, fits-cells lay plan sheet e f)) t)

  module _ (e : Cells) (B : BurstOn plan e) (f : FitsIn lay plan sheet e) where
    -- the burst that fits is the one that is found
    changed : (i j : ℕ) → change c s i j ≡ e i j
    changed = change-is c A.formed A.conditions s e B (fits-cells lay plan sheet e f)

    mended-cells : SameCells c (mended c s) (flip s e)
    unfolding mended
    mended-cells i j li lj = ap (xor (s i j)) (changed i j)

    mends : mendable c s ≡ true
    mends = (mendable-iff c A.formed s).1 (e, B, fits-cells lay plan sheet e f)

    same-report : report_read lay c sheet ≡ report_as (report_of c e)
    unfolding report_read burst_in mendable change
    same-report = first-report c _ _ mends ∙ ap report_as (report-cells c (change c s) e (λ i j li lj. changed i j))

    same-sheet : sheet_read lay c sheet ≡ corrupted_in lay plan sheet e
    unfolding sheet_read corrupted_in
    same-sheet = in-equal lay c.n1 c.n2 (mended c s) (flip s e) mended-cells

    same_bits : bits_read lay c sheet ≡ held_in lay plan (corrupted_in lay plan sheet e)
    unfolding bits_read held_in
    same_bits =
        let t = cells_in lay plan (corrupted_in lay plan sheet e) in
        bytes-equal 1 (data_size c) (λ i d. data_of c (mended c s) d) (λ i d. data_of c t d)
        (λ i d li ld. data-cells c A.formed (mended c s) t (λ i j li lj. mended-cells i j li lj ∙ sym (corrupted-cell lay plan sheet e i j li lj)) d ld)

    pub taken_as : read_in lay plan sheet old ≡ read_as (report_of c e) (corrupted_in lay plan sheet e) (held_in lay plan (corrupted_in lay plan sheet e))
    taken_as = reads-mended mends ∙ λ i. record { verdict = accepted; report = same-report i; sheet = same-sheet i; bits = same_bits i }
