-- Sheets in two layouts, proved: one declaration for each theorem of specs/Layouts.antt, of that type. A turned sheet has the cells of
-- the sheet, and all that writing and reading do hangs on the cells alone.
--
--   turn-done, keeps-cells, turned-back, same_write, written-turned, same_read
--
-- Assumes nothing.
use mathlib.Core.Path.{◌≡◌, refl, sym, ap, ap₂, ◌∙◌}
use mathlib.Core.Bool.{Bool, true, false, xor, cond}
use mathlib.Core.List.{List}
use Prim.Native.Nat.{ℕ}
use lib.Dec.{eqb}
use Rattle.layout.specs.Stored.{other_than, cell_in, bytes_in, transposed}
use Rattle.layout.specs.declared.stored.Layout.{Layout}
use Rattle.layout.specs.declared.stored.Layout.TheVariants.{ByRow, ByColumn}
use Rattle.layout.proofs.Form.{bytes-equal}
use Rattle.layout.proofs.Layouts.{laws, in_size, in-equal, transposed-form, transposed-cell, transposed-back}
use Rattle.boxcode.specs.Code.{Code}
use Rattle.boxcode.specs.Syndrome.{Cells, SameCells}
use Rattle.boxcode.specs.Check.{data_size, written, data_of}
use Rattle.boxcode.specs.Burst.{burst_for}
use Rattle.boxcode.specs.Reader.{change, mended}
use Rattle.boxcode.proofs.Fill.{data-cells}
use Rattle.boxcode.proofs.Syndrome.{row-cells, column-cells}
use Rattle.plan.specs.declared.verdict.Verdict.{Verdict}
use Rattle.plan.specs.Verdict.{accepted, ◌or_else◌}
use Rattle.plan.specs.Bytes.{code_of}
use Rattle.plan.proofs.Sequence.{else-second}
use Rattle.accept.specs.Verdict.{Accepted}
use Rattle.accept.proofs.Acceptance.{accepted-plan}
use Rattle.buffers.specs.Buffers.{data_length, data_unused, sheet_checks, length_checks, write_checks, read_checks}
use Rattle.buffers.proofs.Passing.{sheets-pass, right-unused, transposes-pass}
use Rattle.std.specs.Prelude.{Option}
use Rattle.mend.specs.declared.found.Burst.{Burst}
use Rattle.mend.specs.Found.{found_verdict, first_burst}
use Rattle.transpose.specs.Transpose.{TurnedOver, turned_sheet, turned_over, turn_over}
use Rattle.writer.specs.Write.{data_bits, written_in, write_in}
use Rattle.reader.specs.Read.{burst_in, read_verdict, sheet_read, bits_read, report_read, taken, refused, read_in}
use Rattle.promise.specs.Promise.{SheetIn, PageIn, cells_in}
use Rattle.promise.specs.Layouts as promise
use Rattle.promise.specs.Layouts.{outcome_turned}

-- ---- turning

pub turn-done : promise.TurnDone
unfolding turn_over
turn-done lay plan ok source target f l =
    rw (transposes-pass lay plan source target (record { accepted = accepted-plan plan ok; form = f; target_size = l }))

pub keeps-cells : promise.KeepsCells
unfolding turned_sheet
keeps-cells lay plan sheet = transposed-cell lay (code_of plan).n1 (code_of plan).n2 sheet

turned-sheet-form : (lay : Layout) (plan sheet : List ℕ) → SheetIn (other_than lay) plan (turned_sheet lay plan sheet)
unfolding turned_sheet
turned-sheet-form lay plan sheet = transposed-form lay (code_of plan).n1 (code_of plan).n2 sheet

turned-sheet-back : (lay : Layout) (plan sheet : List ℕ) → SheetIn lay plan sheet → turned_sheet (other_than lay) plan (turned_sheet lay plan sheet) ≡ sheet
unfolding turned_sheet
turned-sheet-back lay plan sheet f = transposed-back lay (code_of plan).n1 (code_of plan).n2 sheet f

pub turned-back : promise.TurnedBack
turned-back lay plan ok sheet target back f l k =
    ap (λ (o : TurnedOver). turn_over (other_than lay) plan o.target back) (turn-done lay plan ok sheet target f l)
    ∙ turn-done (other_than lay) plan ok (turned_sheet lay plan sheet) back (turned-sheet-form lay plan sheet) (same-page lay k)
    ∙ ap (turned_over accepted) (turned-sheet-back lay plan sheet f)
  where
    same-page : (lay : Layout) → PageIn lay plan back → PageIn (other_than (other_than lay)) plan back
    same-page ByRow k = k
    same-page ByColumn k = k

-- ---- writing

module _ (lay : Layout) (plan : List ℕ) (A : Accepted plan) where
  -- where the sheet is as long as it has to be, checks 1 to 12 come to the data's length
  lengths-left : (sheet bits : List ℕ) → PageIn lay plan sheet → length_checks lay plan sheet bits ≡ data_length (code_of plan) bits
  unfolding length_checks
  lengths-left sheet bits l =
      else-second (sheet_checks lay plan sheet) _
      (ap (λ (v : Verdict). v.number) (sheets-pass lay plan sheet (record { accepted = A; sheet_len = l })))

  writes-left : (bits sheet : List ℕ) → PageIn lay plan sheet
      → write_checks lay plan bits sheet ≡ data_length (code_of plan) bits or_else data_unused (code_of plan) bits
  unfolding write_checks
  writes-left bits sheet l = ap (λ (v : Verdict). v or_else data_unused (code_of plan) bits) (lengths-left sheet bits l)

  reads-left : (sheet bits : List ℕ) → SheetIn lay plan sheet → read_checks lay plan sheet bits ≡ data_length (code_of plan) bits or_else accepted
  unfolding read_checks
  reads-left sheet bits f =
      let n1 = (code_of plan).n1 in
      let n2 = (code_of plan).n2 in
      ap₂ ◌or_else◌ (lengths-left sheet bits (in_size lay n1 n2 sheet f)) (right-unused lay n1 n2 sheet f)

pub same_write : promise.SameWrite
unfolding write_in
same_write lay plan ok bits old old' l l' =
    let A = accepted-plan plan ok in
    writes-left (other_than lay) plan A bits old' l' ∙ sym (writes-left lay plan A bits old l)

pub written-turned : promise.WrittenTurned
unfolding written_in turned_sheet transposed
written-turned lay plan bits =
    let c = code_of plan in
    let w = written c (data_bits (data_size c) bits) in
    in-equal (other_than lay) c.n1 c.n2 w (cell_in lay c.n1 c.n2 (bytes_in lay c.n1 c.n2 w))
    (λ i j li lj. sym ((laws lay c.n1 c.n2).cell w i j li lj))

-- ---- reading

-- equal cells are mended alike, by the same burst
module _ (c : Code) (s t : Cells) (same : SameCells c t s) where
  change-same : (i j : ℕ) → change c t i j ≡ change c s i j
  unfolding change
  change-same i j = ap₂ (λ (v h : ℕ). burst_for c v h i j) (row-cells c t s same) (column-cells c t s same)

  mended-same : SameCells c (mended c t) (mended c s)
  unfolding mended
  mended-same i j li lj = ap₂ xor (same i j li lj) (change-same i j)

module _ (lay : Layout) (plan : List ℕ) (A : Accepted plan) (sheet old : List ℕ) (form : SheetIn lay plan sheet) where
  abbrev c : Code
  c = code_of plan

  abbrev s : Cells
  s = cells_in lay plan sheet

  abbrev turned : List ℕ
  turned = turned_sheet lay plan sheet

  abbrev t : Cells
  t = cells_in (other_than lay) plan (turned_sheet lay plan sheet)

  same : SameCells c t s
  same i j li lj = keeps-cells lay plan sheet i j li lj

  found-same : burst_in (other_than lay) c turned ≡ burst_in lay c sheet
  unfolding burst_in
  found-same = ap₂ (first_burst c) (row-cells c t s same) (column-cells c t s same)

  verdict-same : read_verdict (other_than lay) plan turned old ≡ read_verdict lay plan sheet old
  unfolding read_verdict
  verdict-same =
      ap₂ (λ (v : Verdict) (r : Option Burst). v or_else found_verdict r)
      (reads-left (other_than lay) plan A turned old (turned-sheet-form lay plan sheet) ∙ sym (reads-left lay plan A sheet old form)) found-same

  report-same : report_read (other_than lay) c turned ≡ report_read lay c sheet
  unfolding report_read
  report-same = rw found-same

  sheet-same : sheet_read (other_than lay) c turned ≡ turned_sheet lay plan (sheet_read lay c sheet)
  unfolding sheet_read turned_sheet transposed
  sheet-same =
      in-equal (other_than lay) c.n1 c.n2 (mended c t) (cell_in lay c.n1 c.n2 (bytes_in lay c.n1 c.n2 (mended c s)))
      (λ i j li lj. mended-same c s t same i j li lj ∙ sym ((laws lay c.n1 c.n2).cell (mended c s) i j li lj))

  bits-same : bits_read (other_than lay) c turned ≡ bits_read lay c sheet
  unfolding bits_read
  bits-same =
      bytes-equal 1 (data_size c) (λ i d. data_of c (mended c t) d) (λ i d. data_of c (mended c s) d)
      (λ i d li ld. data-cells c A.formed (mended c t) (mended c s) (mended-same c s t same) d ld)

  read_same : read_in (other_than lay) plan turned old ≡ outcome_turned lay plan (read_in lay plan sheet old)
  unfolding read_in
  read_same =
      ap (λ (v : Verdict). cond (eqb v.number 0) (taken (other_than lay) c turned) (refused v turned old)) verdict-same
      ∙ go (eqb (read_verdict lay plan sheet old).number 0)
    where
      v : Verdict
      v = read_verdict lay plan sheet old

      go : (b : Bool) → cond b (taken (other_than lay) c turned) (refused v turned old)
          ≡ outcome_turned lay plan (cond b (taken lay c sheet) (refused v sheet old))
      go true = λ i. record { verdict = accepted; report = report-same i; sheet = sheet-same i; bits = bits-same i }
      go false = refl

pub same_read : promise.SameRead
same_read lay plan ok sheet old f = read_same lay plan (accepted-plan plan ok) sheet old f
