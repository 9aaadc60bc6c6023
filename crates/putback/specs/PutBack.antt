-- A burst put back (document 02, request k): the cells that an answer of the reader tells, turned over on a sheet.
--
--   cells_told a           the cells that the 64 bits a tell: row r and column s of their rectangle have bit r × width + s of their pattern
--   exceeds, leaves        the rectangle exceeds the plan's burst; it leaves the sheet
--   crowded                there are more than t cells, with t not 0 (02 m)
--   no_burst c a           a is the answer of no burst under the plan
--   burst_verdict          check 22
--   back_checks            the checks before putting back: 1 to 11, 13 of the sheet, and 22
--   back_bytes             every byte of the sheet with these cells turned over, and no others
--   PutBack, left_back     what a call leaves: its answer and the bytes of the sheet
--   put_back plan sheet a  the outcome: number 0 and those bytes, or the first check that fails and the sheet as it was
use Rattle.std.specs.Prelude.{ℕ, ◌+◌, Bool, cond, not, ◌||◌, List, eqb, ltb}
use Rattle.finite.specs.Search.{few}
use Rattle.answer.specs.Answer.{top_in, left_in, height_in, width_in, pattern_in}
use Rattle.layout.specs.Cells.{cell_of, bytes_of}
use Rattle.boxcode.specs.Code.{Code}
use Rattle.boxcode.specs.Syndrome.{Cells, flip}
use Rattle.boxcode.specs.Burst.{cell_count, box_cells}
use Rattle.plan.specs.declared.verdict.Verdict.{Verdict}
use Rattle.plan.specs.Verdict.{refusal, verdict_if, ◌or_else◌}
use Rattle.plan.specs.Bytes.{code_of}
use Rattle.buffers.specs.Buffers.{form_checks}
use Rattle.packing.specs.Packed.{burst_answer}

unfoldable pub cells_told : ℕ → Cells
cells_told a = box_cells (top_in a) (left_in a) (height_in a) (width_in a) (pattern_in a)

unfoldable pub exceeds : Code → ℕ → Bool
exceeds c a = ltb c.b1 (height_in a) || ltb c.b2 (width_in a)

unfoldable pub leaves : Code → ℕ → Bool
leaves c a = ltb c.n1 (top_in a + height_in a) || ltb c.n2 (left_in a + width_in a)

unfoldable pub crowded : Code → ℕ → Bool
crowded c a = not (few c.t (cell_count c.n1 c.n2 (cells_told a)))

-- 02 k: "the rectangle exceeds the plan's blot, leaves the sheet," or, 02 m, "more than t cells, with t not 0", or the reader's answer for the cells that
-- a tells is another than a: the rectangle "is not the smallest for its pattern, the pattern has a bit beyond it, disagrees with the cell count, a none
-- answer is not all zeros, the answer is a refusal, or any other bit of it is not 0"
unfoldable pub no_burst : Code → ℕ → Bool
no_burst c a = exceeds c a || (leaves c a || (crowded c a || not (eqb (burst_answer c (cells_told a)) a)))

unfoldable pub burst_verdict : Code → ℕ → Verdict
burst_verdict c a = verdict_if (no_burst c a) (refusal 22 0 0)

unfoldable pub back_checks : (plan sheet : List ℕ) → ℕ → Verdict
back_checks plan sheet a = form_checks plan sheet or_else burst_verdict (code_of plan) a

unfoldable pub back_bytes : Code → List ℕ → ℕ → List ℕ
back_bytes c sheet a = bytes_of c.n1 c.n2 (flip (cell_of c.n2 sheet) (cells_told a))

pub record PutBack : Type 0 where
  pub verdict : Verdict
  pub sheet : List ℕ

abbrev pub left_back : Verdict → List ℕ → PutBack
left_back v s = record { verdict = v; sheet = s }

unfoldable pub put_back : (plan sheet : List ℕ) → ℕ → PutBack
put_back plan sheet a =
    let v = back_checks plan sheet a in
    left_back v (cond (eqb v.number 0) (back_bytes (code_of plan) sheet a) sheet)
