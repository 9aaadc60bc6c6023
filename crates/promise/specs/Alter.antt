-- One data bit of a sheet turned over (document 02, request f), on bytes: what the call does, and what any run of alterations does. The call answers
-- by `alter`. Nothing is assumed but that the test of the plan gives number 0, that the sheet is of the right form, and, where a sheet is altered,
-- that it belongs and that positions are below k. Each theorem is proved under its name in proofs/Alter.antt.
--
--   PositionIn         a position of a data bit: below k
--   turned_at          a string of data with the bit at a position turned over
--   HoldsBit           cell (i, j) holds the data bit at a position
--   IsCheck            cell (i, j) is a check cell
--   PositionsIn        a list of positions of data bits
--   alter_each         the call for each position of a list, one after the other, up to the first that is turned back
--   turned_each        a string of data with the bit turned over at each position of a list
--   times              how often a position comes in a list
--
--   Afresh                    an altered sheet is the sheet written afresh from the altered data
--   WrittenAltered            so a written sheet, altered, is the sheet written from the altered data
--   OnlyThere                 an altered sheet belongs and holds the altered data; that cell is turned over, and of the others only check cells (Alteration)
--   AnyRun                    any run of alterations gives the sheet written from the data altered at each of the positions
--   AnyOrder                  the order of the alterations does not matter
--   Undone                    the same alteration twice leaves the sheet as it was
--   PositionTold, BelongTold  17 is told where the position is k or more, and else 18 where the sheet does not belong
--   AlterRefused              where a check fails, its number and places are told, and each byte stays
use Rattle.std.specs.Prelude.{ℕ, suc, ◌≤◌, ◌<◌, ◌≡◌, true, not, cond, List, [], ◌∷◌, eqb, length, get_or}
use Rattle.boxcode.specs.Code.{cell_number}
use Rattle.boxcode.specs.Check.{check_at, data_size, data_cell}
use Rattle.plan.specs.Verdict.{accepted, refusal}
use Rattle.plan.specs.Bytes.{code_of}
use Rattle.writer.specs.Write.{written_bytes}
use Rattle.alter.specs.Alter.{turned_data, alter_checks, Altered, altered, alter}
use Rattle.promise.specs.Promise.{Passes, DataFor, SheetFor, cells_of, BelongsTo, data_in}

-- ---- the words

abbrev pub PositionIn : List ℕ → ℕ → Type 0
PositionIn plan d = d < data_size (code_of plan)

abbrev pub turned_at : List ℕ → ℕ → List ℕ → List ℕ
turned_at plan d bits = turned_data (code_of plan) d bits

abbrev pub HoldsBit : (plan : List ℕ) (d i j : ℕ) → Type 0
HoldsBit plan d i j = data_cell (code_of plan) d ≡ cell_number (code_of plan) i j

abbrev pub IsCheck : (plan : List ℕ) (i j : ℕ) → Type 0
IsCheck plan i j = check_at (code_of plan) (cell_number (code_of plan) i j) ≡ true

-- a position may come more than once
abbrev pub PositionsIn : List ℕ → List ℕ → Type 0
PositionsIn plan ds = (n : ℕ) → n < length ds → PositionIn plan (get_or ds n 0)

unfoldable pub alter_each : List ℕ → List ℕ → List ℕ → Altered
alter_each plan sheet [] = altered accepted sheet
alter_each plan sheet (d ∷ ds) =
    let o = alter plan sheet d in
    cond (eqb o.verdict.number 0) (alter_each plan o.sheet ds) o

unfoldable pub turned_each : List ℕ → List ℕ → List ℕ → List ℕ
turned_each plan [] bits = bits
turned_each plan (d ∷ ds) bits = turned_each plan ds (turned_at plan d bits)

unfoldable pub times : ℕ → List ℕ → ℕ
times e [] = 0
times e (d ∷ ds) = cond (eqb d e) (suc (times e ds)) (times e ds)

-- ---- one alteration

-- 02, request f: "The sheet must equal the one written afresh from the altered data"
abbrev pub Afresh : Type 0
Afresh = (plan sheet : List ℕ) (d : ℕ) → Passes plan → SheetFor plan sheet → BelongsTo plan sheet → PositionIn plan d
    → alter plan sheet d ≡ altered accepted (written_bytes plan (turned_at plan d (data_in plan sheet)))

abbrev pub WrittenAltered : Type 0
WrittenAltered = (plan bits : List ℕ) (d : ℕ) → Passes plan → DataFor plan bits → PositionIn plan d
    → alter plan (written_bytes plan bits) d ≡ altered accepted (written_bytes plan (turned_at plan d bits))

-- 02, request f: "only that cell and check cells may differ"
pub record Alteration (plan sheet : List ℕ) (d : ℕ) (after : List ℕ) : Type 0 where
  pub form : SheetFor plan after
  pub belongs : BelongsTo plan after
  pub holds : data_in plan after ≡ turned_at plan d (data_in plan sheet)
  pub there : (i j : ℕ) → i < (code_of plan).n1 → j < (code_of plan).n2 → HoldsBit plan d i j → cells_of plan after i j ≡ not (cells_of plan sheet i j)
  pub elsewhere : (i j : ℕ) → i < (code_of plan).n1 → j < (code_of plan).n2 → (HoldsBit plan d i j → ⊥) → (IsCheck plan i j → ⊥)
      → cells_of plan after i j ≡ cells_of plan sheet i j

abbrev pub OnlyThere : Type 0
OnlyThere = (plan sheet : List ℕ) (d : ℕ) → Passes plan → SheetFor plan sheet → BelongsTo plan sheet → PositionIn plan d
    → Alteration plan sheet d (alter plan sheet d).sheet

-- ---- any run of alterations

-- 02, request f: "It holds over any run of alterations"; none is turned back
abbrev pub AnyRun : Type 0
AnyRun = (plan sheet ds : List ℕ) → Passes plan → SheetFor plan sheet → BelongsTo plan sheet → PositionsIn plan ds
    → alter_each plan sheet ds ≡ altered accepted (written_bytes plan (turned_each plan ds (data_in plan sheet)))

-- two lists that have each position equally often
abbrev pub AnyOrder : Type 0
AnyOrder = (plan sheet ds ds' : List ℕ) → Passes plan → SheetFor plan sheet → BelongsTo plan sheet → PositionsIn plan ds → PositionsIn plan ds'
    → ((d : ℕ) → times d ds ≡ times d ds') → alter_each plan sheet ds ≡ alter_each plan sheet ds'

abbrev pub Undone : Type 0
Undone = (plan sheet : List ℕ) (d : ℕ) → Passes plan → SheetFor plan sheet → BelongsTo plan sheet → PositionIn plan d
    → alter_each plan sheet (d ∷ d ∷ []) ≡ altered accepted sheet

-- ---- what is turned back

-- 02, request f: "17, the position is k or more"; with k = 0 every position is
abbrev pub PositionTold : Type 0
PositionTold = (plan sheet : List ℕ) (d : ℕ) → Passes plan → SheetFor plan sheet → data_size (code_of plan) ≤ d
    → alter plan sheet d ≡ altered (refusal 17 0 0) sheet

-- 02, request f: "then 18, the sheet does not belong"
abbrev pub BelongTold : Type 0
BelongTold = (plan sheet : List ℕ) (d : ℕ) → Passes plan → SheetFor plan sheet → PositionIn plan d → (BelongsTo plan sheet → ⊥)
    → alter plan sheet d ≡ altered (refusal 18 0 0) sheet

abbrev pub AlterRefused : Type 0
AlterRefused = (plan sheet : List ℕ) (d : ℕ) → ((alter_checks plan sheet d).number ≡ 0 → ⊥) → alter plan sheet d ≡ altered (alter_checks plan sheet d) sheet
