-- A burst put back (document 02, request k), on bytes. The call answers by `put_back`. Nothing is assumed but what each theorem names: of the plan at most
-- that its test gives number 0, of a sheet that it is of the right form; it need not belong. Each theorem is proved under its name in proofs/PutBack.antt.
--
--   answer_for         the reader's answer for a burst: number 0, places 0, 0 and the six numbers of its report, as 64 bits
--   report_told        the six numbers that 64 bits tell
--   FromBurst          64 bits are the answer of some burst of the plan
--
--   Restores           from the sheet that the reader leaves and its answer the scan is restored, every byte, whatever the plan and the scan
--   ColumnsRestore     the same of a scan by columns: the sheet that is left is turned by rows first, and so is the scan that comes back
--   PutTurns           the answer of a burst turns over the cells of that burst, and no others
--   PutTwice           putting the same answer back twice leaves every byte, whatever is handed in
--   PutTakes           the call takes the answers of the bursts of the plan, and no other 64 bits; those are turned back with 22 (Taking)
--   PutReasons         02's own list: the answers that are taken are those of which nothing in it is true (Sound)
--   AnswersApart       bursts with the same answer are the same cells
--   PutRefused         where a check fails, its number and places are told, and each byte stays
use Rattle.std.specs.Prelude.{ℕ, ◌+◌, ◌*◌, ◌^◌, ◌≤◌, ◌<◌, ◌≡◌, true, false, ◌↔◌, List}
use Rattle.answer.specs.Answer.{number_in, cells_in, top_in, left_in, height_in, width_in, pattern_in}
use Rattle.layout.specs.declared.stored.Layout.TheVariants.{ByRow, ByColumn}
use Rattle.boxcode.specs.Syndrome.{Cells}
use Rattle.boxcode.specs.Burst.{Inside, cell_count}
use Rattle.boxcode.specs.Reader.{Report, LiesIn}
use Rattle.plan.specs.Verdict.{accepted, refusal}
use Rattle.plan.specs.Bytes.{code_of}
use Rattle.transpose.specs.Transpose.{turned_sheet}
use Rattle.packing.specs.Packed.{burst_answer}
use Rattle.putback.specs.PutBack.{cells_told, back_checks, left_back, put_back}
use Rattle.sheet.specs.Calls.{read_call}
use Rattle.promise.specs.Promise.{Passes, SheetFor, BurstOn, corrupted}

-- ---- the words

abbrev pub answer_for : List ℕ → Cells → ℕ
answer_for plan e = burst_answer (code_of plan) e

abbrev pub report_told : ℕ → Report
report_told a = record { cells = cells_in a; top = top_in a; left = left_in a; height = height_in a; width = width_in a; pattern = pattern_in a }

abbrev pub FromBurst : List ℕ → ℕ → Type 0
FromBurst plan a = (e : Cells) × BurstOn plan e × (a ≡ answer_for plan e)

-- ---- the scan restored

-- 02, request k: "from the sheet the reader leaves and its answer the scan is restored, bit for bit"
abbrev pub Restores : Type 0
Restores = (plan scan bits : List ℕ) → let r = read_call ByRow plan scan bits in number_in r.answer ≡ 0
    → put_back plan r.sheet r.answer ≡ left_back accepted scan

-- turning is of request i: "Turning takes the plan and both buffers"
abbrev pub ColumnsRestore : Type 0
ColumnsRestore = (plan scan bits : List ℕ) → let r = read_call ByColumn plan scan bits in number_in r.answer ≡ 0
    → put_back plan (turned_sheet ByColumn plan r.sheet) r.answer ≡ left_back accepted (turned_sheet ByColumn plan scan)

-- ---- what is turned over

-- "Putting back turns exactly these cells of a sheet over"
abbrev pub PutTurns : Type 0
PutTurns = (plan sheet : List ℕ) (e : Cells) → Passes plan → SheetFor plan sheet → BurstOn plan e
    → put_back plan sheet (answer_for plan e) ≡ left_back accepted (corrupted plan sheet e)

abbrev pub PutTwice : Type 0
PutTwice = (plan sheet : List ℕ) (a : ℕ) → (put_back plan (put_back plan sheet a).sheet a).sheet ≡ sheet

-- ---- which answers are taken

pub record Taking (plan sheet : List ℕ) (a : ℕ) : Type 0 where
  pub takes : ((put_back plan sheet a).verdict.number ≡ 0) ↔ FromBurst plan a
  pub refuses : (FromBurst plan a → ⊥) → put_back plan sheet a ≡ left_back (refusal 22 0 0) sheet

abbrev pub PutTakes : Type 0
PutTakes = (plan sheet : List ℕ) (a : ℕ) → Passes plan → SheetFor plan sheet → Taking plan sheet a

-- 22: "the rectangle exceeds the plan's blot, leaves the sheet, is not the smallest for its pattern, the pattern has a bit beyond it, disagrees with the
-- cell count, a none answer is not all zeros, the answer is a refusal, or any other bit of it is not 0"; and 02 m: "more than t cells, with t not 0": none
-- of these is true
pub record Sound (plan : List ℕ) (a : ℕ) : Type 0 where
  pub height_within : height_in a ≤ (code_of plan).b1
  pub width_within : width_in a ≤ (code_of plan).b2
  pub rows_on : top_in a + height_in a ≤ (code_of plan).n1
  pub columns_on : left_in a + width_in a ≤ (code_of plan).n2
  -- for a pattern that has a cell (i, j)
  pub smallest : (i j : ℕ) → cells_told a i j ≡ true → (top left height width : ℕ) → Inside top left height width (cells_told a)
      → LiesIn (report_told a) top left height width
  pub none_beyond : pattern_in a < 2 ^ (height_in a * width_in a)
  pub count : cells_in a ≡ cell_count (code_of plan).n1 (code_of plan).n2 (cells_told a)
  pub few_cells : 1 ≤ (code_of plan).t → cells_in a ≤ (code_of plan).t
  pub none_zero : ((i j : ℕ) → cells_told a i j ≡ false) → a ≡ 0
  pub success : number_in a ≡ 0
  pub spare_zero : a < 2 ^ 51

abbrev pub PutReasons : Type 0
PutReasons = (plan sheet : List ℕ) (a : ℕ) → Passes plan → SheetFor plan sheet → ((put_back plan sheet a).verdict.number ≡ 0) ↔ Sound plan a

abbrev pub AnswersApart : Type 0
AnswersApart = (plan : List ℕ) (e e' : Cells) → Passes plan → BurstOn plan e → BurstOn plan e' → answer_for plan e ≡ answer_for plan e'
    → (i j : ℕ) → e i j ≡ e' i j

-- ---- what is turned back

abbrev pub PutRefused : Type 0
PutRefused = (plan sheet : List ℕ) (a : ℕ) → ((back_checks plan sheet a).number ≡ 0 → ⊥) → put_back plan sheet a ≡ left_back (back_checks plan sheet a) sheet
