-- The reader's answer as one 64-bit number (docs/ANSWER.md).
--
--   report_fields v r   the fields of an answer that has a number, places and a report
--   burst_answer c e    the answer of a read that turns the cells e over: number 0, and their report
use Rattle.std.specs.Prelude.{ℕ}
use Rattle.answer.specs.Answer.{Fields, packed}
use Rattle.boxcode.specs.Code.{Code}
use Rattle.boxcode.specs.Syndrome.{Cells}
use Rattle.boxcode.specs.Reader.{report_of}
use Rattle.plan.specs.declared.verdict.Verdict.{Verdict}
use Rattle.plan.specs.Verdict.{accepted}
use Rattle.mend.specs.declared.report.Report.{Report}
use Rattle.mend.specs.Report.{report_as}

abbrev pub report_fields : Verdict → Report → Fields
report_fields v r = record {
  number = v.number;
  p = v.p;
  q = v.q;
  cells = r.cells;
  top = r.top;
  left = r.left;
  height = r.height;
  width = r.width;
  pattern = r.pattern;
}

unfoldable pub burst_answer : Code → Cells → ℕ
burst_answer c e = packed (report_fields accepted (report_as (report_of c e)))
