-- The reader's answer is small, and each of its numbers comes back from its 64 bits.
--
--   ReportFits      each number of a report fits its bits
--   none-fits, burst-fits   the report of no cells, and that of a burst
--   fields-range    so the fields of an answer are in range
--   fields-carry    and the packed answer carries them, where a refusal has no report
--   answer-range, answer-carries   the fields of the answer of a burst are in range, and it carries number 0, places 0, 0 and the six numbers of its report
--   answer-none     that of no cells is 0
--
-- Assumes nothing.
use mathlib.Core.Path.{◌≡◌, refl, ap}
use mathlib.Core.Bool.{false}
use Prim.Native.Nat.{ℕ, ◌<◌}
use native.Mathlib.Omega.{arith}
use Rattle.answer.specs.Answer.{InRange, Carries, report_bits, packed}
use Rattle.answer.proofs.Fields.{packed-carries}
use Rattle.boxcode.specs.Code.{Code, Formed}
use Rattle.boxcode.specs.Syndrome.{Cells}
use Rattle.boxcode.specs.Burst.{Burst}
use Rattle.boxcode.specs.Reader as spec
use Rattle.boxcode.specs.Reader.{report_of, no_report}
use Rattle.boxcode.proofs.Report.{burst-report, report-none}
use Rattle.plan.specs.declared.verdict.Verdict.{Verdict}
use Rattle.plan.specs.Verdict.{accepted}
use Rattle.accept.proofs.Range.{SmallVerdict, accepted-fits}
use Rattle.mend.specs.declared.report.Report.{Report}
use Rattle.mend.specs.Report.{report_as}
use Rattle.packing.specs.Packed.{report_fields, burst_answer}

pub record ReportFits (r : Report) : Type 0 where
  pub cells_fits : r.cells < 32
  pub top_fits : r.top < 512
  pub left_fits : r.left < 1024
  pub height_fits : r.height < 8
  pub width_fits : r.width < 8
  pub pattern_fits : r.pattern < 65536

pub none-fits : ReportFits (report_as no_report)
none-fits = record {
  cells_fits = omega arith;
  top_fits = omega arith;
  left_fits = omega arith;
  height_fits = omega arith;
  width_fits = omega arith;
  pattern_fits = omega arith;
}

pub fields-range : (v : Verdict) (r : Report) → SmallVerdict v → ReportFits r → InRange (report_fields v r)
fields-range v r f g = record {
  number_fits = f.number_fits;
  p_fits = f.p_fits;
  q_fits = f.q_fits;
  cells_fits = g.cells_fits;
  top_fits = g.top_fits;
  left_fits = g.left_fits;
  height_fits = g.height_fits;
  width_fits = g.width_fits;
  pattern_fits = g.pattern_fits;
}

-- a refusal has no report
pub fields-carry : (v : Verdict) (r : Report) → SmallVerdict v → ReportFits r → ((v.number ≡ 0 → ⊥) → r ≡ report_as no_report)
    → Carries (packed (report_fields v r)) (report_fields v r)
fields-carry v r f g none = packed-carries (report_fields v r) (fields-range v r f g) (record {
  success = f.silent;
  refusal = λ h. let e = none h in (
    ap (λ (x : Report). x.cells) e,
    ap (λ (x : Report). x.top) e,
    ap (λ (x : Report). x.left) e,
    ap (λ (x : Report). x.height) e,
    ap (λ (x : Report). x.width) e,
    ap (λ (x : Report). x.pattern) e,
  );
})

module _ (c : Code) (F : Formed c) (e : Cells) (B : Burst c e) where
  pub burst-fits : ReportFits (report_as (report_of c e))
  burst-fits =
      let s = burst-report c F e B in
      record {
        cells_fits = omega (arith, s.cells_most);
        top_fits = omega (arith, s.top_on, F.n1_most);
        left_fits = omega (arith, s.left_on, F.n2_most);
        height_fits = omega (arith, s.height_most, F.b1_most);
        width_fits = omega (arith, s.width_most, F.b2_most);
        pattern_fits = s.pattern_most;
      }

  pub answer-range : InRange (report_fields accepted (report_as (report_of c e)))
  answer-range = fields-range accepted (report_as (report_of c e)) accepted-fits burst-fits

  pub answer-carries : Carries (burst_answer c e) (report_fields accepted (report_as (report_of c e)))
  unfolding burst_answer
  answer-carries = fields-carry accepted (report_as (report_of c e)) accepted-fits burst-fits (λ h. absurd (h refl))

pub answer-none : (c : Code) (e : Cells) → ((i j : ℕ) → i < c.n1 → j < c.n2 → e i j ≡ false) → burst_answer c e ≡ 0
unfolding burst_answer packed report_bits
answer-none c e h = ap (λ (r : spec.Report). packed (report_fields accepted (report_as r))) (report-none c e h)
