-- The promise (document 01, demand 3), on bytes, for sheets of either layout (document 02, i). Nothing is assumed but that the test
-- of the plan gives number 0 and that sheets and data are of the right form. The calls answer by `write_in` and `read_in`. Each
-- theorem is proved under its name in proofs/Promise.antt, once for both layouts.
--
--   Passes plan            the plan is accepted: its test gives number 0
--   DataFor, SheetIn       a string of data, and a sheet, of the right form
--   BufferFor, PageIn      a data buffer, and a sheet buffer, of the right length, holding anything
--   cells_in               the cells of a sheet
--   BelongsIn              both sums of the sheet are 0 (01: it belongs to the plan)
--   held_in                the data that a sheet holds in its cells that are not check cells, packed
--   BurstOn, empty         a burst (01: a blot): a set of cells, possibly empty; the empty one
--   corrupted_in           the sheet with the cells of a burst turned over and no others
--   FitsIn                 the sheet so turned over belongs to the plan (01: the blot fits)
--   NoneIn, SomeIn         no burst fits the sheet; some burst does
--   read_as                a read that succeeds: number 0 and places 0, 0, a report, and both buffers after the call
--   SheetFor, cells_of, BelongsTo, data_in, corrupted, FitsOn, NoneFits, SomeFits   the same of sheets by row, which all other calls keep
--
--   PlanTest               the test gives 0 exactly if the plan meets the rules of form and the three conditions
--   MadePasses             a made plan is accepted: where making gives 0, so does the test of the bytes that it leaves
--   WrittenOnce            the written sheet is the one sheet of the right form that belongs and holds the data (Written)
--   Leaves                 the writer leaves it, whatever the buffer held
--   Apart                  sheets written from different data, each with a burst on it, are never equal
--   ReadBack, ReadClean    a written sheet with one burst on it, or none, is read back whole
--   Answers                the reader answers 14 exactly if no burst fits, and otherwise mends the sheet (Answered)
--   OneBurst               at most one burst, as a set of cells, fits
--   Reports                the report is the number of cells, the smallest rectangle that holds them, and their pattern in it; six zeros
--                          for none (Reported)
--   Turns                  what it is to turn over the cells of a burst; for the empty one, nothing (Turned)
use Rattle.std.specs.Prelude.{ℕ, ◌+◌, ◌*◌, ◌^◌, ◌<◌, ◌≡◌, true, false, ◌↔◌, ◌⊎◌, List, length}
use Rattle.std.specs.Bool.{xor}
use Rattle.finite.specs.Search.{bit}
use Rattle.layout.specs.Cells.{row_bytes, RightForm}
use Rattle.layout.specs.Stored.{size_in, cell_in, FormIn, bytes_in}
use Rattle.layout.specs.declared.stored.Layout.{Layout}
use Rattle.layout.specs.declared.stored.Layout.TheVariants.{ByRow}
use Rattle.boxcode.specs.Syndrome.{Cells, Belongs, flip}
use Rattle.boxcode.specs.Burst.{Inside, Burst, cell_count}
use Rattle.boxcode.specs.Check.{data_size}
use Rattle.boxcode.specs.Reader.{Report, report_of, no_report, LiesIn}
use Rattle.plan.specs.Verdict.{accepted, refusal}
use Rattle.plan.specs.Bytes.{code_of}
use Rattle.accept.specs.Verdict.{plan_verdict, Accepted}
use Rattle.maker.specs.declared.parameters.Parameters.{Parameters}
use Rattle.maker.specs.Make.{make}
use Rattle.mend.specs.Report.{report_as}
use Rattle.payload.specs.Packed.{packed_data}
use Rattle.writer.specs.Write.{written_in, write_in, wrote}
use Rattle.reader.specs.Read.{Outcome, refused, read_in}

-- ---- the words

abbrev pub Passes : List ℕ → Type 0
Passes plan = (plan_verdict plan).number ≡ 0

-- k bits of data are stored as one row of k cells
abbrev pub DataFor : List ℕ → List ℕ → Type 0
DataFor plan bits = RightForm 1 (data_size (code_of plan)) bits

abbrev pub SheetIn : Layout → (plan sheet : List ℕ) → Type 0
SheetIn lay plan sheet = FormIn lay (code_of plan).n1 (code_of plan).n2 sheet

abbrev pub BufferFor : List ℕ → List ℕ → Type 0
BufferFor plan old = length old ≡ row_bytes (data_size (code_of plan))

abbrev pub PageIn : Layout → (plan old : List ℕ) → Type 0
PageIn lay plan old = length old ≡ size_in lay (code_of plan).n1 (code_of plan).n2

abbrev pub cells_in : Layout → (plan sheet : List ℕ) → Cells
cells_in lay plan sheet = cell_in lay (code_of plan).n1 (code_of plan).n2 sheet

abbrev pub BelongsIn : Layout → (plan sheet : List ℕ) → Type 0
BelongsIn lay plan sheet = Belongs (code_of plan) (cells_in lay plan sheet)

unfoldable pub held_in : Layout → (plan sheet : List ℕ) → List ℕ
held_in lay plan sheet = packed_data (code_of plan) (cells_in lay plan sheet)

abbrev pub BurstOn : List ℕ → Cells → Type 0
BurstOn plan e = Burst (code_of plan) e

abbrev pub empty : Cells
empty i j = false

unfoldable pub corrupted_in : Layout → (plan sheet : List ℕ) → Cells → List ℕ
corrupted_in lay plan sheet e = bytes_in lay (code_of plan).n1 (code_of plan).n2 (flip (cells_in lay plan sheet) e)

abbrev pub FitsIn : Layout → (plan sheet : List ℕ) → Cells → Type 0
FitsIn lay plan sheet e = BelongsIn lay plan (corrupted_in lay plan sheet e)

abbrev pub NoneIn : Layout → (plan sheet : List ℕ) → Type 0
NoneIn lay plan sheet = (e : Cells) → BurstOn plan e → FitsIn lay plan sheet e → ⊥

abbrev pub SomeIn : Layout → (plan sheet : List ℕ) → Type 0
SomeIn lay plan sheet = (e : Cells) × BurstOn plan e × FitsIn lay plan sheet e

-- by row, document 01's layout
abbrev pub SheetFor : List ℕ → List ℕ → Type 0
SheetFor plan sheet = SheetIn ByRow plan sheet

abbrev pub cells_of : List ℕ → List ℕ → Cells
cells_of plan sheet = cells_in ByRow plan sheet

abbrev pub BelongsTo : List ℕ → List ℕ → Type 0
BelongsTo plan sheet = BelongsIn ByRow plan sheet

abbrev pub data_in : List ℕ → List ℕ → List ℕ
data_in plan sheet = held_in ByRow plan sheet

abbrev pub corrupted : List ℕ → List ℕ → Cells → List ℕ
corrupted plan sheet e = corrupted_in ByRow plan sheet e

abbrev pub FitsOn : List ℕ → List ℕ → Cells → Type 0
FitsOn plan sheet e = FitsIn ByRow plan sheet e

abbrev pub NoneFits : List ℕ → List ℕ → Type 0
NoneFits plan sheet = NoneIn ByRow plan sheet

abbrev pub SomeFits : List ℕ → List ℕ → Type 0
SomeFits plan sheet = SomeIn ByRow plan sheet

abbrev pub read_as : Report → List ℕ → List ℕ → Outcome
read_as r sheet bits = record { verdict = accepted; report = report_as r; sheet = sheet; bits = bits }

-- ---- the plan test, making and writing

abbrev pub PlanTest : Type 0
PlanTest = (plan : List ℕ) → Passes plan ↔ Accepted plan

-- 02, request a: "A made plan is always accepted"; the numbers given and what the buffer held may be any
abbrev pub MadePasses : Type 0
MadePasses = (g : Parameters) (old : List ℕ) → (make g old).verdict.number ≡ 0 → Passes (make g old).plan

pub record Written (lay : Layout) (plan bits : List ℕ) : Type 0 where
  pub form : SheetIn lay plan (written_in lay plan bits)
  pub belongs : BelongsIn lay plan (written_in lay plan bits)
  pub holds : held_in lay plan (written_in lay plan bits) ≡ bits
  pub only : (sheet : List ℕ) → SheetIn lay plan sheet → BelongsIn lay plan sheet → held_in lay plan sheet ≡ bits → sheet ≡ written_in lay plan bits

abbrev pub WrittenOnce : Type 0
WrittenOnce = (lay : Layout) (plan : List ℕ) → Passes plan → (bits : List ℕ) → DataFor plan bits → Written lay plan bits

abbrev pub Leaves : Type 0
Leaves = (lay : Layout) (plan : List ℕ) → Passes plan → (bits old : List ℕ) → DataFor plan bits → PageIn lay plan old
    → write_in lay plan bits old ≡ wrote accepted (written_in lay plan bits)

-- ---- the three theorems

-- 1. two strings of data, a burst on each written sheet, either or both empty: if the sheets are equal, the data are
abbrev pub Apart : Type 0
Apart = (lay : Layout) (plan : List ℕ) → Passes plan → (bits bits' : List ℕ) (e e' : Cells) → DataFor plan bits → DataFor plan bits'
    → BurstOn plan e → BurstOn plan e' → corrupted_in lay plan (written_in lay plan bits) e ≡ corrupted_in lay plan (written_in lay plan bits') e' → bits ≡ bits'

-- 2. number 0, places 0 and 0, the report of the burst, every byte of the written sheet, and the data
abbrev pub ReadBack : Type 0
ReadBack = (lay : Layout) (plan : List ℕ) → Passes plan → (bits old : List ℕ) (e : Cells) → DataFor plan bits → BurstOn plan e → BufferFor plan old
    → read_in lay plan (corrupted_in lay plan (written_in lay plan bits) e) old ≡ read_as (report_of (code_of plan) e) (written_in lay plan bits) bits

-- and where there is no burst: six zeros
abbrev pub ReadClean : Type 0
ReadClean = (lay : Layout) (plan : List ℕ) → Passes plan → (bits old : List ℕ) → DataFor plan bits → BufferFor plan old
    → read_in lay plan (written_in lay plan bits) old ≡ read_as no_report (written_in lay plan bits) bits

-- 3. what is answered to a sheet of the right form
pub record Answered (lay : Layout) (plan sheet old : List ℕ) : Type 0 where
  pub number : ((read_in lay plan sheet old).verdict.number ≡ 0) ⊎ ((read_in lay plan sheet old).verdict.number ≡ 14)
  pub none_fits : ((read_in lay plan sheet old).verdict.number ≡ 14) ↔ NoneIn lay plan sheet
  pub some_fits : ((read_in lay plan sheet old).verdict.number ≡ 0) ↔ SomeIn lay plan sheet
  -- the burst that fits mends the sheet to one that belongs; this sheet, its data and the burst's report are given
  pub takes : (e : Cells) → BurstOn plan e → FitsIn lay plan sheet e
      → read_in lay plan sheet old ≡ read_as (report_of (code_of plan) e) (corrupted_in lay plan sheet e) (held_in lay plan (corrupted_in lay plan sheet e))
  -- a refusal has places 0, 0 and six zeros, and changes no byte
  pub refuses : NoneIn lay plan sheet → read_in lay plan sheet old ≡ refused (refusal 14 0 0) sheet old

abbrev pub Answers : Type 0
Answers = (lay : Layout) (plan : List ℕ) → Passes plan → (sheet old : List ℕ) → SheetIn lay plan sheet → BufferFor plan old → Answered lay plan sheet old

abbrev pub OneBurst : Type 0
OneBurst = (lay : Layout) (plan : List ℕ) → Passes plan → (sheet : List ℕ) (e e' : Cells) → BurstOn plan e → BurstOn plan e'
    → FitsIn lay plan sheet e → FitsIn lay plan sheet e' → (i j : ℕ) → e i j ≡ e' i j

-- ---- the six numbers, and what it is to turn cells over

pub record Reported (plan : List ℕ) (e : Cells) (r : Report) : Type 0 where
  pub count : r.cells ≡ cell_count (code_of plan).n1 (code_of plan).n2 e
  pub holds : Inside r.top r.left r.height r.width e
  -- for a burst that has a cell (i, j)
  pub least : (i j : ℕ) → e i j ≡ true → (top left height width : ℕ) → Inside top left height width e → LiesIn r top left height width
  -- 02, request k: "the cell at row r and column s of the smallest rectangle has bit r × width + s", and there is no bit beyond
  pub pattern : (i j : ℕ) → i < r.height → j < r.width → bit r.pattern (i * r.width + j) ≡ e (r.top + i) (r.left + j)
  pub pattern_below : r.pattern < 2 ^ (r.height * r.width)
  pub none : ((i j : ℕ) → e i j ≡ false) → r ≡ no_report

abbrev pub Reports : Type 0
Reports = (plan : List ℕ) (e : Cells) → BurstOn plan e → Reported plan e (report_of (code_of plan) e)

pub record Turned (lay : Layout) (plan sheet : List ℕ) : Type 0 where
  pub form : (e : Cells) → SheetIn lay plan (corrupted_in lay plan sheet e)
  pub cell : (e : Cells) (i j : ℕ) → i < (code_of plan).n1 → j < (code_of plan).n2
      → cells_in lay plan (corrupted_in lay plan sheet e) i j ≡ xor (cells_in lay plan sheet i j) (e i j)
  pub empty_burst : BurstOn plan empty
  pub empty_turns : SheetIn lay plan sheet → corrupted_in lay plan sheet empty ≡ sheet

abbrev pub Turns : Type 0
Turns = (lay : Layout) (plan : List ℕ) → Passes plan → (sheet : List ℕ) → Turned lay plan sheet
