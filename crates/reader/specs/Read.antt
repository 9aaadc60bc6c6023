-- The read of one sheet (document 01, "Turned back"), as one function of the plan, the sheet and the data buffer to the
-- answer and every byte of both buffers after the call, in either layout of the sheet. It owes nothing to the way in which a burst
-- is found.
--
--   burst_in       the first burst by trial that brings both sums to 0, or None
--   read_verdict   checks 1 to 13, and then 14, which is told where there is no such burst
--   sheet_read     the sheet after a read that succeeds: mended
--   bits_read      the data buffer after it: the data of the mended sheet
--   report_read    its report: the cells that were turned over
--   Outcome        number and places, report, and both buffers after the call
--   refused        a refusal: six zeros, and both buffers as they were
--   taken          a success: number 0 and places 0, 0
--   mend_outcome   what check 14 leaves, under a code, where checks 1 to 13 pass
--   read_in        the read of one sheet
--   read_outcome   the same of a sheet by row, document 01's layout
--   told_read      what is told of a result of the code: its report, or its refusal with six zeros
--   outcome        that, with the buffers after it, as an outcome
use Rattle.std.specs.Prelude.{ℕ, cond, Option, Result, Ok, Err, List, eqb}
use Rattle.layout.specs.Stored.{cell_in, bytes_in}
use Rattle.layout.specs.declared.stored.Layout.{Layout}
use Rattle.layout.specs.declared.stored.Layout.TheVariants.{ByRow}
use Rattle.boxcode.specs.Code.{Code}
use Rattle.boxcode.specs.Syndrome.{row_syndrome, column_syndrome}
use Rattle.boxcode.specs.Reader.{mended, no_report}
use Rattle.plan.specs.declared.verdict.Verdict.{Verdict}
use Rattle.plan.specs.declared.verdict.Refusal.{Refusal}
use Rattle.plan.specs.Verdict.{accepted, ◌or_else◌, refusal_of}
use Rattle.plan.specs.Bytes.{code_of}
use Rattle.buffers.specs.Buffers.{read_checks}
use Rattle.payload.specs.Packed.{packed_data}
use Rattle.mend.specs.declared.report.Report.{Report}
use Rattle.mend.specs.Report.{report_as}
use Rattle.mend.specs.declared.found.Burst.{Burst}
use Rattle.mend.specs.Found.{found_verdict, found_report, first_burst}
use Rattle.reader.specs.declared.answer.Answer.{Answer}

unfoldable pub burst_in : Layout → Code → List ℕ → Option Burst
burst_in lay c sheet = let s = cell_in lay c.n1 c.n2 sheet in first_burst c (row_syndrome c s) (column_syndrome c s)

unfoldable pub read_verdict : Layout → (plan sheet bits : List ℕ) → Verdict
read_verdict lay plan sheet bits = read_checks lay plan sheet bits or_else found_verdict (burst_in lay (code_of plan) sheet)

unfoldable pub sheet_read : Layout → Code → List ℕ → List ℕ
sheet_read lay c sheet = bytes_in lay c.n1 c.n2 (mended c (cell_in lay c.n1 c.n2 sheet))

unfoldable pub bits_read : Layout → Code → List ℕ → List ℕ
bits_read lay c sheet = packed_data c (mended c (cell_in lay c.n1 c.n2 sheet))

unfoldable pub report_read : Layout → Code → List ℕ → Report
report_read lay c sheet = found_report c (burst_in lay c sheet)

pub record Outcome : Type 0 where
  pub verdict : Verdict
  pub report : Report
  pub sheet : List ℕ
  pub bits : List ℕ

abbrev pub refused : Verdict → List ℕ → List ℕ → Outcome
refused v sheet bits = record { verdict = v; report = report_as no_report; sheet = sheet; bits = bits }

abbrev pub taken : Layout → Code → List ℕ → Outcome
taken lay c sheet = record {
  verdict = accepted;
  report = report_read lay c sheet;
  sheet = sheet_read lay c sheet;
  bits = bits_read lay c sheet;
}

unfoldable pub mend_outcome : Layout → Code → (sheet bits : List ℕ) → Outcome
mend_outcome lay c sheet bits =
    let v = found_verdict (burst_in lay c sheet) in cond (eqb v.number 0) (taken lay c sheet) (refused v sheet bits)

unfoldable pub read_in : Layout → (plan sheet bits : List ℕ) → Outcome
read_in lay plan sheet bits =
    let v = read_verdict lay plan sheet bits in cond (eqb v.number 0) (taken lay (code_of plan) sheet) (refused v sheet bits)

abbrev pub read_outcome : (plan sheet bits : List ℕ) → Outcome
read_outcome plan sheet bits = read_in ByRow plan sheet bits

abbrev pub told_read : Result Report Refusal → Answer
told_read (Ok r) = record { verdict = accepted; report = r }
told_read (Err e) = record { verdict = refusal_of e; report = report_as no_report }

abbrev pub outcome : Answer → List ℕ → List ℕ → Outcome
outcome r sheet bits = record { verdict = r.verdict; report = r.report; sheet = sheet; bits = bits }
