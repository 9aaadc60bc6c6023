-- Where two scans of one film first differ (document 02, request g), on bytes: the part of the second scan that the call hands back. The call
-- answers by `difference`. Nothing is assumed but that the test of the plan gives number 0 and that both scans are of the right form, and not that
-- either belongs to the plan. Each theorem is proved under its name in proofs/Difference.antt.
--
--   SameCell           cell (i, j) is the same in both scans
--   handed_back        the bytes handed back: those of the second scan that the part is
--   HandsNothing       the part is empty
--   HandsRow           the part is row r, and the bytes are the second scan's bytes of that row
--   FirstRow           row r is the first in which a cell differs, and it is handed back
--
--   FirstDiffers       where some cell differs, the row in which one first does is handed back
--   NoneDiffers        where no cell differs, nothing is
--   EqualScans         so of one scan given twice, whatever it is
--   NothingSaysEqual   and the other way round: where nothing is handed back though the checks pass, the scans are equal
--   DifferenceRefused  where a check fails, nothing is
--   PartInside         whatever is handed in, the part lies in the second scan
use Rattle.std.specs.Prelude.{ℕ, ◌+◌, ◌*◌, ◌≤◌, ◌<◌, ◌≡◌, List, [], length, get_or}
use Rattle.layout.specs.Cells.{row_bytes}
use Rattle.plan.specs.Bytes.{code_of}
use Rattle.buffers.specs.Buffers.{scans_checks}
use Rattle.difference.specs.Difference.{no_part, difference, part_of}
use Rattle.promise.specs.Promise.{Passes, SheetFor, cells_of}

-- ---- the words

abbrev pub SameCell : (plan first second : List ℕ) (i j : ℕ) → Type 0
SameCell plan first second i j = cells_of plan first i j ≡ cells_of plan second i j

abbrev pub handed_back : (plan first second : List ℕ) → List ℕ
handed_back plan first second = part_of (difference plan first second) second

pub record HandsNothing (plan first second : List ℕ) : Type 0 where
  pub part : difference plan first second ≡ no_part
  pub bytes : handed_back plan first second ≡ []

pub record HandsRow (plan first second : List ℕ) (r : ℕ) : Type 0 where
  pub start : (difference plan first second).start ≡ r * row_bytes (code_of plan).n2
  pub end : (difference plan first second).end ≡ (r + 1) * row_bytes (code_of plan).n2
  pub size : length (handed_back plan first second) ≡ row_bytes (code_of plan).n2
  pub bytes : (k : ℕ) → k < row_bytes (code_of plan).n2
      → get_or (handed_back plan first second) k 0 ≡ get_or second (r * row_bytes (code_of plan).n2 + k) 0

pub record FirstRow (plan first second : List ℕ) (r : ℕ) : Type 0 where
  pub on_sheet : r < (code_of plan).n1
  pub before : (i j : ℕ) → i < r → j < (code_of plan).n2 → SameCell plan first second i j
  pub here : (j : ℕ) × (j < (code_of plan).n2) × (SameCell plan first second r j → ⊥)
  pub hands : HandsRow plan first second r

-- ---- what the call hands back

-- 02, request g: "hands back the course where the scans first differ, as it lies in the second scan"
abbrev pub FirstDiffers : Type 0
FirstDiffers = (plan first second : List ℕ) (i j : ℕ) → Passes plan → SheetFor plan first → SheetFor plan second
    → i < (code_of plan).n1 → j < (code_of plan).n2 → (SameCell plan first second i j → ⊥)
    → (r : ℕ) × FirstRow plan first second r

-- 02, request g: "or an empty part if none differs or the plan's test, 11 or 13 fails"
abbrev pub NoneDiffers : Type 0
NoneDiffers = (plan first second : List ℕ) → ((i j : ℕ) → i < (code_of plan).n1 → j < (code_of plan).n2 → SameCell plan first second i j)
    → HandsNothing plan first second

abbrev pub EqualScans : Type 0
EqualScans = (plan scan : List ℕ) → HandsNothing plan scan scan

abbrev pub NothingSaysEqual : Type 0
NothingSaysEqual = (plan first second : List ℕ) → Passes plan → SheetFor plan first → SheetFor plan second
    → handed_back plan first second ≡ [] → first ≡ second

abbrev pub DifferenceRefused : Type 0
DifferenceRefused = (plan first second : List ℕ) → ((scans_checks plan first second).number ≡ 0 → ⊥) → HandsNothing plan first second

abbrev pub PartInside : Type 0
PartInside = (plan first second : List ℕ)
    → let p = difference plan first second in (p.start ≤ p.end) × (p.end ≤ length second)
