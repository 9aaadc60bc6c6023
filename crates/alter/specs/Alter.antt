-- One data bit of a sheet turned over (document 02, request f).
--
--   position_verdict         check 17: the position is k or more
--   belong_verdict           check 18: the sheet does not belong to its plan
--   alter_checks             the checks before altering: 1 to 11, 13 of the sheet, 17 and 18
--   turned_data c d bits     a string of data with bit d turned over
--   altered_bytes            every byte of the sheet written afresh from the altered data: the data that the sheet holds, with that bit turned over
--   Altered, altered         what a call leaves: its answer and the bytes of the sheet
--   alter plan sheet d       the outcome: number 0 and the altered sheet, or the first check that fails and the sheet as it was
use Rattle.std.specs.Prelude.{ℕ, cond, not, List, eqb, leb}
use Rattle.layout.specs.Cells.{cell_of, turned}
use Rattle.boxcode.specs.Code.{Code}
use Rattle.boxcode.specs.Check.{data_size, belongs}
use Rattle.plan.specs.declared.verdict.Verdict.{Verdict}
use Rattle.plan.specs.Verdict.{refusal, verdict_if, ◌or_else◌}
use Rattle.plan.specs.Bytes.{code_of}
use Rattle.buffers.specs.Buffers.{form_checks}
use Rattle.payload.specs.Packed.{packed_data}
use Rattle.writer.specs.Write.{written_bytes}

unfoldable pub position_verdict : ℕ → ℕ → Verdict
position_verdict k d = verdict_if (leb k d) (refusal 17 0 0)

unfoldable pub belong_verdict : Code → List ℕ → Verdict
belong_verdict c sheet = verdict_if (not (belongs c (cell_of c.n2 sheet))) (refusal 18 0 0)

unfoldable pub alter_checks : List ℕ → List ℕ → ℕ → Verdict
alter_checks plan sheet d = form_checks plan sheet or_else position_verdict (data_size (code_of plan)) d or_else belong_verdict (code_of plan) sheet

-- data is stored as one row of k cells
abbrev pub turned_data : Code → ℕ → List ℕ → List ℕ
turned_data c d bits = turned (data_size c) bits 0 d

unfoldable pub altered_bytes : List ℕ → List ℕ → ℕ → List ℕ
altered_bytes plan sheet d = let c = code_of plan in written_bytes plan (turned_data c d (packed_data c (cell_of c.n2 sheet)))

pub record Altered : Type 0 where
  pub verdict : Verdict
  pub sheet : List ℕ

abbrev pub altered : Verdict → List ℕ → Altered
altered v s = record { verdict = v; sheet = s }

unfoldable pub alter : List ℕ → List ℕ → ℕ → Altered
alter plan sheet d =
    let v = alter_checks plan sheet d in
    altered v (cond (eqb v.number 0) (altered_bytes plan sheet d) sheet)
