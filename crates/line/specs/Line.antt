-- What `sheetread` prints (document 01, "The program"), as one function of the bytes that it is given.
--
--   plan_size      how many of the bytes are the plan
--   plan_part, sheet_part   the plan, and the rest, which is the sheet
--   data_field     a space and the data, which is one field; nothing where there is no data
--   ok_line        the line of a sheet that was read: the six numbers, the pattern last (02 k), and the data
--   no_line        the line of a refusal: number and places
--   line_from      the line of an outcome
--   data_bytes     how many bytes of data a plan has
--   line_of        the line of the bytes that are given
use Rattle.std.specs.Prelude.{ℕ, min, max, cond, List, [], ◌∷◌, ◌++◌, eqb, length, take, drop, replicate}
use Rattle.layout.specs.Number.{u16_at}
use Rattle.layout.specs.Cells.{row_bytes}
use Rattle.boxcode.specs.Check.{data_size}
use Rattle.plan.specs.declared.verdict.Verdict.{Verdict}
use Rattle.plan.specs.Header.{header_length}
use Rattle.plan.specs.Bytes.{code_of}
use Rattle.mend.specs.declared.report.Report.{Report}
use Rattle.reader.specs.Read.{Outcome, read_outcome}
use Rattle.text.specs.Text.{space, newline, field, hex_text}

-- the first 22 bytes, or as many as the length field says if that is more, or all there is
unfoldable pub plan_size : List ℕ → ℕ
plan_size input = min (length input) (max header_length (u16_at input 18))

unfoldable pub plan_part : List ℕ → List ℕ
plan_part input = take (plan_size input) input

unfoldable pub sheet_part : List ℕ → List ℕ
sheet_part input = drop (plan_size input) input

unfoldable pub data_field : List ℕ → List ℕ
data_field [] = []
data_field (b ∷ s) = space ∷ hex_text (b ∷ s)

-- o, k
abbrev pub ok_word : List ℕ
ok_word = 111 ∷ 107 ∷ []

-- n, o
abbrev pub no_word : List ℕ
no_word = 110 ∷ 111 ∷ []

unfoldable pub numbers : Report → List ℕ
numbers r = field r.cells ++ field r.top ++ field r.left ++ field r.height ++ field r.width ++ field r.pattern

unfoldable pub ok_line : Report → List ℕ → List ℕ
ok_line r bits = ok_word ++ numbers r ++ data_field bits ++ (newline ∷ [])

unfoldable pub no_line : Verdict → List ℕ
no_line v = no_word ++ field v.number ++ field v.p ++ field v.q ++ (newline ∷ [])

unfoldable pub line_from : Outcome → List ℕ
line_from o = cond (eqb o.verdict.number 0) (ok_line o.report o.bits) (no_line o.verdict)

unfoldable pub data_bytes : List ℕ → ℕ
data_bytes plan = row_bytes (data_size (code_of plan))

-- a read into a buffer of the plan's length, all zeros
unfoldable pub line_of : List ℕ → List ℕ
line_of input = let plan = plan_part input in line_from (read_outcome plan (sheet_part input) (replicate (data_bytes plan) 0))
