-- The parts of the read of one sheet.
--
--   read-refuses        where checks 1 to 13 refuse, so does the read
--   read-mends          where they pass, check 14 and the mend decide
--   lengths-refuse      where checks 1 to 12 refuse, so does the read
--   unused-refuses, unused-mends   where they pass, check 13 refuses; or it passes, and check 14 and the mend decide
--   sheet-length, bits-length   a read leaves buffers of the right lengths as long as they were
--   mend-none, mend-some   no burst: 14, and nothing is changed; a burst: the mend
--   burst-on            the rectangle of a burst that was found lies on the sheet
--   burst-sheet, burst-bits, burst-report   turning it over gives the mended sheet; the data of those bytes; its report
--   burst-taken         all of a read that succeeds
--   told-refusal        what `?` hands on is told as its refusal, with six zeros
--   data-first, data-next, data-all   the data taken with nothing written to the sheet: before the first digit, one digit on, and after all
--
-- Assumes nothing.
use mathlib.Core.Path.{◌≡◌, refl, sym, ap, subst, ◌∙◌}
use mathlib.Core.Bool.{xor}
use mathlib.Core.List.{List}
use Prim.Native.Nat.{ℕ, ◌+◌, ◌*◌, ◌/◌, ◌%◌, ◌<◌}
use native.Mathlib.Numerals.{add-one}
use native.Mathlib.Omega.{arith}
use borrow.Author.Tests.{ne_eqb}
use lib.ListN.{length}
use Rattle.finite.specs.Search.{bit}
use Rattle.layout.specs.Cells.{row_bytes, RightForm, cell_of, bytes_of}
use Rattle.layout.specs.Stored.{size_in, cell_in, FormIn, bytes_in}
use Rattle.layout.specs.declared.stored.Layout.{Layout}
use Rattle.layout.specs.declared.stored.Layout.TheVariants.{ByRow}
use Rattle.layout.proofs.Form.{bytes-equal}
use Rattle.layout.proofs.Layouts.{laws, in-equal}
use Rattle.boxcode.specs.Code.{Code, Formed}
use Rattle.boxcode.specs.Syndrome.{flip, row_syndrome, column_syndrome}
use Rattle.boxcode.specs.Burst.{box_cells}
use Rattle.boxcode.specs.Check.{data_size, data_of}
use Rattle.boxcode.specs.Reader.{change, mended, no_report}
use Rattle.boxcode.proofs.Fill.{data-cells}
use Rattle.plan.specs.declared.verdict.Verdict.{Verdict}
use Rattle.plan.specs.declared.verdict.Refusal.{Refusal}
use Rattle.plan.specs.Verdict.{accepted, refusal, refusal_of}
use Rattle.plan.specs.declared.header.Header.{Header}
use Rattle.plan.specs.Accepted.{AcceptedWith}
use Rattle.plan.specs.Bytes.{code_of, code_with}
use Rattle.plan.proofs.Framing.{framed-code}
use Rattle.plan.proofs.Sequence.{else-first, else-second}
use Rattle.buffers.specs.Buffers.{unused_verdict, sheet_unused, length_checks, read_checks}
use Rattle.buffers.proofs.Passing.{Lengths, lengths-pass}
use Rattle.payload.specs.Packed.{packed_data}
use Rattle.payload.specs.Held.{bit_turned_if}
use Rattle.payload.proofs.CellBit.{held-turned-if}
use Rattle.mend.specs.declared.report.Report.{Report}
use Rattle.std.specs.Prelude.{Option, Some, None, Result, Ok, Err, IsErrAnd}
use Rattle.mend.specs.declared.found.Burst.{Burst}
use Rattle.mend.specs.Found.{found_verdict, IsBurst, FoundFor}
use Rattle.mend.specs.Report.{box_report, report_as}
use Rattle.mend.proofs.First.{first-report}
use Rattle.mend.proofs.Rectangle.{found-report}
use Rattle.reader.specs.Turn.{Rectangle, digits_turned, box_turned}
use Rattle.reader.specs.Read.{burst_in, read_verdict, sheet_read, bits_read, report_read, refused, taken, mend_outcome, read_in, told_read}
use Rattle.reader.proofs.Turned.{digit-row, digit-column, digits-form, box-turned}

-- ---- which checks decide

module _ (lay : Layout) (plan sheet bits : List ℕ) where
  pub read-refuses : ((read_checks lay plan sheet bits).number ≡ 0 → ⊥) → refused (read_checks lay plan sheet bits) sheet bits ≡ read_in lay plan sheet bits
  unfolding read_in read_verdict
  read-refuses h = rw (else-first (read_checks lay plan sheet bits) _ h, ne_eqb (read_checks lay plan sheet bits).number 0 h)

  pub read-mends : (read_checks lay plan sheet bits).number ≡ 0 → mend_outcome lay (code_of plan) sheet bits ≡ read_in lay plan sheet bits
  unfolding read_in read_verdict mend_outcome
  read-mends e = rw (else-second (read_checks lay plan sheet bits) (found_verdict (burst_in lay (code_of plan) sheet)) e)

  refused-by : (v : Verdict) → read_checks lay plan sheet bits ≡ v → (v.number ≡ 0 → ⊥) → refused v sheet bits ≡ read_in lay plan sheet bits
  refused-by v e h =
      ap (λ (u : Verdict). refused u sheet bits) (sym e) ∙ read-refuses (λ z. h (ap (λ (u : Verdict). u.number) (sym e) ∙ z))

  pub lengths-refuse : ((length_checks lay plan sheet bits).number ≡ 0 → ⊥)
      → refused (length_checks lay plan sheet bits) sheet bits ≡ read_in lay plan sheet bits
  unfolding read_checks
  lengths-refuse h = refused-by (length_checks lay plan sheet bits) (else-first (length_checks lay plan sheet bits) _ h) h

  -- where checks 1 to 12 pass, by a header of that name
  module _ (h : Header) (A : AcceptedWith plan h) (m : length sheet ≡ size_in lay h.n1 h.n2)
      (k : length bits ≡ row_bytes (data_size (code_with plan h))) where
    lengths : Lengths lay plan sheet bits
    unfolding code_of
    lengths = subst (λ (g : Header). AcceptedWith plan g
        → length sheet ≡ size_in lay g.n1 g.n2 → length bits ≡ row_bytes (data_size (code_with plan g)) → Lengths lay plan sheet bits)
        (sym A.framed.is) (λ B u v. record { accepted = B; sheet_len = u; bits_size = v }) A m k

    after-lengths : read_checks lay plan sheet bits ≡ unused_verdict lay h.n1 h.n2 sheet
    unfolding read_checks
    after-lengths =
        else-second (length_checks lay plan sheet bits) _ (ap (λ (v : Verdict). v.number) (lengths-pass lay plan sheet bits lengths))
        ∙ ap (λ (c : Code). sheet_unused lay c sheet) (sym (framed-code plan h A.framed))

    pub unused-refuses : ((unused_verdict lay h.n1 h.n2 sheet).number ≡ 0 → ⊥)
        → refused (unused_verdict lay h.n1 h.n2 sheet) sheet bits ≡ read_in lay plan sheet bits
    unused-refuses n = refused-by (unused_verdict lay h.n1 h.n2 sheet) after-lengths n

    pub unused-mends : (unused_verdict lay h.n1 h.n2 sheet).number ≡ 0 → mend_outcome lay (code_with plan h) sheet bits ≡ read_in lay plan sheet bits
    unused-mends e =
        ap (λ (c : Code). mend_outcome lay c sheet bits) (framed-code plan h A.framed) ∙ read-mends (ap (λ (v : Verdict). v.number) after-lengths ∙ e)

-- the sums of the sheet are asked for
abbrev FoundIn : Layout → Code → List ℕ → Option Burst → Type 0
FoundIn lay c sheet r = FoundFor c (row_syndrome c (cell_in lay c.n1 c.n2 sheet)) (column_syndrome c (cell_in lay c.n1 c.n2 sheet)) r

module _ (lay : Layout) (c : Code) (sheet bits : List ℕ) where
  pub mend-none : FoundIn lay c sheet None → refused (refusal 14 0 0) sheet bits ≡ mend_outcome lay c sheet bits
  unfolding mend_outcome burst_in
  mend-none f = rw (← f.verdict)

  pub mend-some : (b : Burst) → FoundIn lay c sheet (Some b) → taken lay c sheet ≡ mend_outcome lay c sheet bits
  unfolding mend_outcome burst_in
  mend-some b f = rw (← f.verdict)

-- ---- the burst that was found

pub burst-bits : (lay : Layout) (c : Code) → Formed c → (s t : List ℕ) → t ≡ sheet_read lay c s
    → bytes_of 1 (data_size c) (λ i d. data_of c (cell_in lay c.n1 c.n2 t) d) ≡ bits_read lay c s
unfolding sheet_read bits_read
burst-bits lay c F s t e =
    bytes-equal 1 (data_size c) (λ i d. data_of c (cell_in lay c.n1 c.n2 t) d) (λ i d. data_of c (mended c (cell_in lay c.n1 c.n2 s)) d)
    (λ i d li ld.
    ap (λ (y : List ℕ). data_of c (cell_in lay c.n1 c.n2 y) d) e
    ∙ data-cells c F (cell_in lay c.n1 c.n2 (bytes_in lay c.n1 c.n2 (mended c (cell_in lay c.n1 c.n2 s))))
    (mended c (cell_in lay c.n1 c.n2 s))
    (λ a b la lb. (laws lay c.n1 c.n2).cell (mended c (cell_in lay c.n1 c.n2 s)) a b la lb) d ld)

module _ (lay : Layout) (c : Code) (F : Formed c) (s : List ℕ) (f : FormIn lay c.n1 c.n2 s) (top left x : ℕ)
    (b : IsBurst c (row_syndrome c (cell_in lay c.n1 c.n2 s)) (column_syndrome c (cell_in lay c.n1 c.n2 s)) top left x) where
  pub burst-on : Rectangle c.n1 c.n2 top left c.b1 c.b2
  burst-on = record { n1_most = F.n1_most; n2_most = F.n2_most; rows_on = b.rows_on; columns_on = b.columns_on }

  pub burst-sheet : box_turned lay c.n1 c.n2 s top left c.b1 c.b2 x ≡ sheet_read lay c s
  unfolding sheet_read mended change
  burst-sheet =
      box-turned top left c.b1 c.b2 x F.b2_pos lay c.n1 c.n2 s f burst-on
      ∙ in-equal lay c.n1 c.n2 (flip (cell_in lay c.n1 c.n2 s) (box_cells top left c.b1 c.b2 x)) (mended c (cell_in lay c.n1 c.n2 s))
      (λ i j li lj. ap (xor (cell_in lay c.n1 c.n2 s i j)) (b.cells i j))

  pub burst-report : report_as (box_report top left c.b1 c.b2 x) ≡ report_read lay c s
  unfolding report_read burst_in
  burst-report = ap report_as (sym (found-report c F _ _ top left x b)) ∙ sym (first-report c _ _ b.has)

  pub burst-taken : (v : Verdict) (r : Report) (t u : List ℕ) → v ≡ accepted → r ≡ report_as (box_report top left c.b1 c.b2 x)
      → t ≡ box_turned lay c.n1 c.n2 s top left c.b1 c.b2 x → u ≡ bytes_of 1 (data_size c) (λ i d. data_of c (cell_in lay c.n1 c.n2 t) d)
      → record { verdict = v; report = r; sheet = t; bits = u } ≡ taken lay c s
  burst-taken v r t u ev er et eu =
      let es = et ∙ burst-sheet in
      let e = er ∙ burst-report in
      let eb = eu ∙ burst-bits lay c F s t es in
      λ i. record { verdict = ev i; report = e i; sheet = es i; bits = eb i }

-- ---- the data of a sheet by row, with the bits of the burst's cells turned over one after the other

module _ (c : Code) (F : Formed c) (s : List ℕ) (f : RightForm c.n1 c.n2 s) (top left x : ℕ)
    (b : IsBurst c (row_syndrome c (cell_of c.n2 s)) (column_syndrome c (cell_of c.n2 s)) top left x) where
  -- the data after the first k digits
  abbrev pub data_after : ℕ → List ℕ
  data_after k = packed_data c (cell_of c.n2 (digits_turned ByRow c.n1 c.n2 s top left c.b2 x k))

  pub data-first : packed_data c (cell_of c.n2 s) ≡ data_after 0
  unfolding digits_turned
  data-first = refl

  pub data-next : (u v : List ℕ) (k : ℕ) → k < c.b1 * c.b2 → u ≡ data_after k
      → v ≡ bit_turned_if (bit x k) c (top + k / c.b2) (left + k % c.b2) u → v ≡ data_after (k + 1)
  unfolding digits_turned
  data-next u v k l e h =
      let R = burst-on ByRow c F s f top left x b in
      h
      ∙ ap (bit_turned_if (bit x k) c (top + k / c.b2) (left + k % c.b2)) e
      ∙ sym
      (held-turned-if c F (top + k / c.b2) (left + k % c.b2) (digit-row c.n1 c.n2 top left c.b1 c.b2 F.b2_pos R k l)
      (digit-column c.n1 c.n2 top left c.b1 c.b2 F.b2_pos R k) (bit x k) (digits_turned ByRow c.n1 c.n2 s top left c.b2 x k)
      (digits-form top left c.b1 c.b2 x F.b2_pos ByRow c.n1 c.n2 s f R k (omega arith)))
      ∙ ap data_after (sym (add-one k))

  pub data-all : data_after (c.b1 * c.b2) ≡ bits_read ByRow c s
  unfolding box_turned
  data-all = burst-bits ByRow c F s (box_turned ByRow c.n1 c.n2 s top left c.b1 c.b2 x) (burst-sheet ByRow c F s f top left x b)

pub told-refusal : (r : Result Report Refusal) (e : Refusal) → IsErrAnd r (λ y. y ≡ e)
    → told_read r ≡ record { verdict = refusal_of e; report = report_as no_report }
told-refusal (Ok _) e h = elim h [ ]
told-refusal (Err y) e h = ap (λ (x : Refusal). record { verdict = refusal_of x; report = report_as no_report }) h
