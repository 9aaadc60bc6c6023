-- Sheets in two layouts (document 02, request i), on bytes: what turning promises, and that writing and reading do the same in both.
-- Demand 3 is stated in Promise.antt for either layout. Each theorem is proved under its name in proofs/Layouts.antt.
--
--   TurnDone           turning leaves every byte of them in the target, whatever it held
--   KeepsCells         turning keeps every cell
--   TurnedBack         turning and turning back is nothing: the sheet itself is left
--   SameWrite          writing answers the same in both layouts
--   WrittenTurned      the sheet written is the other layout's, turned
--   outcome_turned     the outcome of a read with its sheet turned
--   SameRead           reading a sheet is reading it turned: the same answer and data, and the sheet that is left is the other's, turned
use Rattle.std.specs.Prelude.{◌≡◌, List, ℕ, ◌<◌}
use Rattle.layout.specs.Stored.{other_than}
use Rattle.layout.specs.declared.stored.Layout.{Layout}
use Rattle.plan.specs.Verdict.{accepted}
use Rattle.plan.specs.Bytes.{code_of}
use Rattle.transpose.specs.Transpose.{turned_sheet, turned_over, turn_over}
use Rattle.writer.specs.Write.{written_in, write_in}
use Rattle.reader.specs.Read.{Outcome, read_in}
use Rattle.promise.specs.Promise.{Passes, SheetIn, PageIn, cells_in}

-- ---- turning

abbrev pub TurnDone : Type 0
TurnDone = (lay : Layout) (plan : List ℕ) → Passes plan → (source target : List ℕ) → SheetIn lay plan source → PageIn (other_than lay) plan target
    → turn_over lay plan source target ≡ turned_over accepted (turned_sheet lay plan source)

-- 02: "cell for cell"
abbrev pub KeepsCells : Type 0
KeepsCells = (lay : Layout) (plan sheet : List ℕ) (i j : ℕ) → i < (code_of plan).n1 → j < (code_of plan).n2
    → cells_in (other_than lay) plan (turned_sheet lay plan sheet) i j ≡ cells_in lay plan sheet i j

-- 02: "turning it into the old layout and back, cell for cell, shall lose nothing": by the calls, from either layout; what the two
-- targets held may be any
abbrev pub TurnedBack : Type 0
TurnedBack = (lay : Layout) (plan : List ℕ) → Passes plan → (sheet target back : List ℕ) → SheetIn lay plan sheet
    → PageIn (other_than lay) plan target → PageIn lay plan back
    → turn_over (other_than lay) plan (turn_over lay plan sheet target).target back ≡ turned_over accepted sheet

-- ---- the same in both layouts

-- 02: "answers and data equal those of the old layout"; the data may be any bytes
abbrev pub SameWrite : Type 0
SameWrite = (lay : Layout) (plan : List ℕ) → Passes plan → (bits old old' : List ℕ) → PageIn lay plan old → PageIn (other_than lay) plan old'
    → (write_in (other_than lay) plan bits old').verdict ≡ (write_in lay plan bits old).verdict

-- 02: "the sheet written or mended is the old layout's, turned"
abbrev pub WrittenTurned : Type 0
WrittenTurned = (lay : Layout) (plan bits : List ℕ) → written_in (other_than lay) plan bits ≡ turned_sheet lay plan (written_in lay plan bits)

abbrev pub outcome_turned : Layout → List ℕ → Outcome → Outcome
outcome_turned lay plan o = record { verdict = o.verdict; report = o.report; sheet = turned_sheet lay plan o.sheet; bits = o.bits }

-- the data buffer may be of any length and hold anything
abbrev pub SameRead : Type 0
SameRead = (lay : Layout) (plan : List ℕ) → Passes plan → (sheet old : List ℕ) → SheetIn lay plan sheet
    → read_in (other_than lay) plan (turned_sheet lay plan sheet) old ≡ outcome_turned lay plan (read_in lay plan sheet old)
