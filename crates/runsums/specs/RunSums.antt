-- The two sums of a run of rows, as a call leaves them (document 02, request e).
--
--   run_bytes c first past sheet   8 bytes: the V sum of the rows of the sheet from first up to but not including past, and then
--                                  their H sum, 32 bits each, low byte first
--   Summed, summed                 what a call leaves: its answer and the bytes of its buffer
--   sum_run                        the outcome: number 0 and the two sums, or the first check that fails and the buffer as it was
use Rattle.std.specs.Prelude.{ℕ, cond, List, ◌++◌, eqb}
use Rattle.layout.specs.Number.{low_bytes}
use Rattle.layout.specs.Cells.{cell_of}
use Rattle.boxcode.specs.Code.{Code}
use Rattle.boxcode.specs.Run.{row_syndrome_in, column_syndrome_in}
use Rattle.plan.specs.declared.verdict.Verdict.{Verdict}
use Rattle.plan.specs.Bytes.{code_of}
use Rattle.buffers.specs.Buffers.{sums_checks}

unfoldable pub run_bytes : Code → (first past : ℕ) → List ℕ → List ℕ
run_bytes c first past sheet =
    let s = cell_of c.n2 sheet in
    low_bytes 4 (row_syndrome_in c first past s) ++ low_bytes 4 (column_syndrome_in c first past s)

pub record Summed : Type 0 where
  pub verdict : Verdict
  pub sums : List ℕ

abbrev pub summed : Verdict → List ℕ → Summed
summed v s = record { verdict = v; sums = s }

unfoldable pub sum_run : (plan sheet : List ℕ) (first past : ℕ) (sums : List ℕ) → Summed
sum_run plan sheet first past sums =
    let v = sums_checks plan sheet sums in
    summed v (cond (eqb v.number 0) (run_bytes (code_of plan) first past sheet) sums)
