-- Check 22 as the code makes it, from the fields that were unpacked.
--
--   Taken, taken_out   the fields of an answer, one by one
--   outside_told       whether the rectangle exceeds the burst or leaves the sheet
--   wide-told          whether it has rows and columns
--   report-needs       where it lies within and has, a report can be worked out
--   told-crowded       and it tells whether there are too many cells
--   told-range         its fields are in range, since it is that of the cells that are told
--   no-nothing         without rows or columns the answer has to be 0
--   no_other           else it has to be the answer of the cells that are told
--
-- Assumes nothing.
use mathlib.Core.Path.{◌≡◌, sym, ap, ap₂, ◌∙◌}
use mathlib.Core.Bool.{Bool, true, false, not, ◌||◌}
use Prim.Native.Nat.{ℕ, ◌+◌, ◌≤◌}
use native.Mathlib.Omega.{arith}
use lib.Dec.{eqb, ltb}
use Rattle.finite.specs.Search.{few}
use Rattle.finite.proofs.Truth.{eqb_comm, or-false}
use Rattle.answer.specs.declared.Answer.{Answer}
use Rattle.answer.specs.Answer.{Fields, fields_of, fields_in, top_in, left_in, height_in, width_in, pattern_in, InRange, packed}
use Rattle.boxcode.specs.Code.{Code, Formed}
use Rattle.boxcode.specs.Reader.{report_of}
use Rattle.plan.specs.declared.verdict.Verdict.{Verdict}
use Rattle.plan.specs.Verdict.{accepted}
use Rattle.mend.specs.declared.report.Report.{Report}
use Rattle.mend.specs.Report.{box_report, report_as}
use Rattle.mend.specs.Strip.{BurstSize}
use Rattle.mend.proofs.Rectangle.{box-report}
use Rattle.packing.specs.Packed.{report_fields, burst_answer}
use Rattle.packing.proofs.Packed.{answer-range}
use Rattle.putback.specs.PutBack.{cells_told, exceeds, leaves, crowded, no_burst}
use Rattle.putback.proofs.Told.{Within, told-within, within-burst, wide-size, no-crowd, told-nothing, no_within}

pub record Taken (a : ℕ) (r : Answer) : Type 0 where
  pub top : r.top ≡ top_in a
  pub left : r.left ≡ left_in a
  pub height : r.height ≡ height_in a
  pub width : r.width ≡ width_in a
  pub pattern : r.pattern ≡ pattern_in a

pub taken_out : {a : ℕ} {r : Answer} → fields_of r ≡ fields_in a → Taken a r
taken_out e = record {
  top = ap (λ (f : Fields). f.top) e;
  left = ap (λ (f : Fields). f.left) e;
  height = ap (λ (f : Fields). f.height) e;
  width = ap (λ (f : Fields). f.width) e;
  pattern = ap (λ (f : Fields). f.pattern) e;
}

pub outside_told : (c : Code) {a : ℕ} {r : Answer} {t : Bool} → Taken a r
    → t ≡ ((ltb c.b1 r.height || ltb c.b2 r.width) || (ltb c.n1 (r.top + r.height) || ltb c.n2 (r.left + r.width)))
    → (exceeds c a || leaves c a) ≡ t
unfolding exceeds leaves
outside_told c T e = sym (rw (T.top, T.left, T.height, T.width) at e)

pub wide-told : {a : ℕ} {r : Answer} {t : Bool} → Taken a r → (eqb r.height 0 || eqb r.width 0) ≡ t → (eqb (height_in a) 0 || eqb (width_in a) 0) ≡ t
wide-told T e = rw (T.height, T.width) at e

-- the rectangle lies within
module _ (c : Code) (F : Formed c) (a : ℕ) (within : (exceeds c a || leaves c a) ≡ false) where
  inner : Within c a
  inner = let p = or-false (exceeds c a) (leaves c a) within in told-within c a p.0 p.1

  pub no-nothing : (eqb (height_in a) 0 || eqb (width_in a) 0) ≡ true → not (eqb a 0) ≡ no_burst c a
  no-nothing z =
      ap not (eqb_comm a 0)
      ∙ ap (λ (x : ℕ). not (eqb x a)) (sym (told-nothing c a z))
      ∙ no_within c a within (no-crowd c a z)

  module _ (some : (eqb (height_in a) 0 || eqb (width_in a) 0) ≡ false) where
    made-size : BurstSize (height_in a) (width_in a)
    made-size = wide-size c F a inner some

    pub report-needs : {r : Answer} → Taken a r → BurstSize r.height r.width × ((r.top ≤ 512) × (r.left ≤ 698))
    report-needs T =
        let W = inner in
        rw (T.top, T.left, T.height, T.width) (made-size, (omega (arith, W.rows_on, F.n1_most), omega (arith, W.columns_on, F.n2_most)))

    told-report : report_of c (cells_told a) ≡ box_report (top_in a) (left_in a) (height_in a) (width_in a) (pattern_in a)
    unfolding cells_told
    told-report = box-report c (top_in a) (left_in a) (height_in a) (width_in a) (pattern_in a) made-size.b2_pos inner.rows_on inner.columns_on

    -- a report that was worked out
    module _ {f : Answer} (T : Taken a f) {r : Report}
        (er : r ≡ report_as (box_report f.top f.left f.height f.width f.pattern)) where
      report : r ≡ report_as (report_of c (cells_told a))
      report = (rw (T.top, T.left, T.height, T.width, T.pattern) at er) ∙ ap report_as (sym told-report)

      pub told-crowded : {b : Bool} → b ≡ few c.t r.cells → crowded c a ≡ not b
      unfolding crowded report_of
      told-crowded e = sym (ap not (e ∙ ap (λ (x : Report). few c.t x.cells) report))

      module _ (sparse : crowded c a ≡ false) {v : Verdict} (ev : v ≡ accepted) where
        fields : report_fields v r ≡ report_fields accepted (report_as (report_of c (cells_told a)))
        fields = ap₂ report_fields ev report

        pub told-range : InRange (report_fields v r)
        told-range = rw fields (answer-range c F (cells_told a) (within-burst c F a inner sparse))

        pub no_other : {x : ℕ} → x ≡ packed (report_fields v r) → not (eqb x a) ≡ no_burst c a
        unfolding burst_answer
        no_other e = ap (λ (y : ℕ). not (eqb y a)) (e ∙ ap packed fields) ∙ no_within c a within sparse
