-- The checks of the buffers that a call is lent (document 01, checks 11 to 13; document 02, checks 21 and 24), each a definition of its own, and the
-- checks of a call: a list of these in the order of the document, after the test of the plan. Where a check is asked of a sheet,
-- lay is the layout that the sheet is stored in.
--
--   length_verdict    the length of a buffer differs
--   unused_verdict    an unused bit of a buffer is 1, at the first such byte
--   sheet_length      check 11, of a sheet buffer        data_length   check 12, of a data buffer
--   sheet_unused      check 13, of a sheet handed in     data_unused   check 13, of data handed in
--   sums_length       check 24, of a buffer for two sums
--   data_lengths      check 12, of a buffer for the data of n sheets
--   numbers_size      the bytes of the numbers of one sheet of a stack
--   numbers_length    check 21, of a buffer for the numbers of n sheets
--   sheet_checks      checks 1 to 11: the plan, and the length of the sheet
--   length_checks     checks 1 to 12, which writing and reading share
--   write_checks      the checks before writing: 1 to 12, and 13 of the data
--   read_checks       the checks before reading: 1 to 12, and 13 of the sheet
--   form_checks       checks 1 to 11, and 13 of the sheet: the plan is accepted, and the sheet is of the right form
--   sums_checks       the checks before the sums of a run: 1 to 11, 13 of the sheet, and 24
--   scan_lengths      checks 1 to 11, 11 for the first scan and then for the second
--   scans_unused      check 13, of the first scan and then of the second
--   scans_checks      checks 1 to 11 and 13 of two scans: the plan is accepted, and both are of the right form
--   read_two_checks   the checks before reading two scans: 1 to 11 of both, 12, and 13 of both
--   transpose_checks  the checks before turning a sheet into the other layout: 1 to 11 of the source, 11 of the target, 13 of the source
--
-- A string of k bits of data is stored as one row of k cells.
use Rattle.std.specs.Prelude.{ℕ, ◌*◌, not, List, eqb, length}
use Rattle.layout.specs.Cells.{row_bytes}
use Rattle.layout.specs.Stored.{other_than, size_in, first_unused_in}
use Rattle.layout.specs.declared.stored.Layout.{Layout}
use Rattle.layout.specs.declared.stored.Layout.TheVariants.{ByRow}
use Rattle.boxcode.specs.Code.{Code}
use Rattle.boxcode.specs.Check.{data_size}
use Rattle.plan.specs.declared.verdict.Verdict.{Verdict}
use Rattle.plan.specs.Verdict.{refusal, verdict_if, ◌or_else◌}
use Rattle.plan.specs.Bytes.{code_of}
use Rattle.plan.specs.Form.{verdict_at}
use Rattle.accept.specs.Verdict.{plan_verdict}

unfoldable pub length_verdict : ℕ → List ℕ → ℕ → Verdict
length_verdict number s size = verdict_if (not (eqb (length s) size)) (refusal number 0 0)

unfoldable pub unused_verdict : Layout → ℕ → ℕ → List ℕ → Verdict
unused_verdict lay n1 n2 s = let k = first_unused_in lay n1 n2 s in verdict_at (size_in lay n1 n2) k (refusal 13 k 0)

abbrev pub sheet_length : Layout → Code → List ℕ → Verdict
sheet_length lay c sheet = length_verdict 11 sheet (size_in lay c.n1 c.n2)

abbrev pub data_length : Code → List ℕ → Verdict
data_length c bits = length_verdict 12 bits (row_bytes (data_size c))

abbrev pub sheet_unused : Layout → Code → List ℕ → Verdict
sheet_unused lay c sheet = unused_verdict lay c.n1 c.n2 sheet

abbrev pub data_unused : Code → List ℕ → Verdict
data_unused c bits = unused_verdict ByRow 1 (data_size c) bits

-- 8 bytes: two sums of 32 bits
abbrev pub sums_length : List ℕ → Verdict
sums_length sums = length_verdict 24 sums 8

abbrev pub data_lengths : Code → ℕ → List ℕ → Verdict
data_lengths c n bits = length_verdict 12 bits (n * row_bytes (data_size c))

-- nine numbers of 16 bits
abbrev pub numbers_size : ℕ
numbers_size = 18

abbrev pub numbers_length : ℕ → List ℕ → Verdict
numbers_length n numbers = length_verdict 21 numbers (n * numbers_size)

unfoldable pub sheet_checks : Layout → (plan sheet : List ℕ) → Verdict
sheet_checks lay plan sheet = plan_verdict plan or_else sheet_length lay (code_of plan) sheet

unfoldable pub length_checks : Layout → (plan sheet bits : List ℕ) → Verdict
length_checks lay plan sheet bits = sheet_checks lay plan sheet or_else data_length (code_of plan) bits

unfoldable pub write_checks : Layout → (plan bits sheet : List ℕ) → Verdict
write_checks lay plan bits sheet = length_checks lay plan sheet bits or_else data_unused (code_of plan) bits

unfoldable pub read_checks : Layout → (plan sheet bits : List ℕ) → Verdict
read_checks lay plan sheet bits = length_checks lay plan sheet bits or_else sheet_unused lay (code_of plan) sheet

unfoldable pub transpose_checks : Layout → (plan source target : List ℕ) → Verdict
transpose_checks lay plan source target =
    sheet_checks lay plan source or_else sheet_length (other_than lay) (code_of plan) target or_else sheet_unused lay (code_of plan) source

-- the lists that follow are of sheets by row

unfoldable pub form_checks : List ℕ → List ℕ → Verdict
form_checks plan sheet = sheet_checks ByRow plan sheet or_else sheet_unused ByRow (code_of plan) sheet

unfoldable pub sums_checks : List ℕ → List ℕ → List ℕ → Verdict
sums_checks plan sheet sums = form_checks plan sheet or_else sums_length sums

unfoldable pub scan_lengths : (plan first second : List ℕ) → Verdict
scan_lengths plan first second = sheet_checks ByRow plan first or_else sheet_length ByRow (code_of plan) second

abbrev pub scans_unused : Code → (first second : List ℕ) → Verdict
scans_unused c first second = sheet_unused ByRow c first or_else sheet_unused ByRow c second

unfoldable pub scans_checks : (plan first second : List ℕ) → Verdict
scans_checks plan first second = scan_lengths plan first second or_else scans_unused (code_of plan) first second

unfoldable pub read_two_checks : (plan first second bits : List ℕ) → Verdict
read_two_checks plan first second bits =
    scan_lengths plan first second or_else data_length (code_of plan) bits or_else scans_unused (code_of plan) first second
