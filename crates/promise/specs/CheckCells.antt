-- How few check cells there can be (document 02, request l), on bytes, for bursts of any cells of their rectangle (t = 0). Nothing else is assumed but
-- that the test of the plan gives number 0.
-- Each theorem is proved under its name in proofs/CheckCells.antt.
--
--   AnyCells       t is 0: a burst may have any cells of its rectangle
--   TwoWindows     the sheet has at least 2 × b1 rows: two windows stand one below the other
--   TwoStrips      the sheet has at least 2 × b2 columns: two strips stand side by side
--   check_cells    how many cells of the sheet are check cells
--
--   RowFloor       the row table takes at least 2 × b1 × b2 check cells
--   ColumnFloor    the column table takes at least b1 × b2
--   CheckFloor     so a sheet of at least 2 × b1 by 2 × b2 cells has at least 3 × b1 × b2 check cells
--   ThreeByThree   and 27, for bursts (01: blots) of 3 by 3 and 6 by 6 cells or more
--   FloorsMet      some plan that passes has just these rv, rh and check cells (AtFloor): none of the first three holds with one more
use Rattle.std.specs.Prelude.{ℕ, ◌*◌, ◌≤◌, ◌≡◌, List}
use Rattle.finite.specs.Search.{count_below}
use Rattle.boxcode.specs.Check.{check_at}
use Rattle.plan.specs.Bytes.{code_of}
use Rattle.promise.specs.Promise.{Passes}

-- ---- the words

-- 02, request m: "The figures of the check-cell list cover t = 0 alone"
abbrev pub AnyCells : List ℕ → Type 0
AnyCells plan = (code_of plan).t ≡ 0

abbrev pub TwoWindows : List ℕ → Type 0
TwoWindows plan = let c = code_of plan in 2 * c.b1 ≤ c.n1

abbrev pub TwoStrips : List ℕ → Type 0
TwoStrips plan = let c = code_of plan in 2 * c.b2 ≤ c.n2

unfoldable pub check_cells : List ℕ → ℕ
check_cells plan = let c = code_of plan in count_below (c.n1 * c.n2) (check_at c)

-- ---- the floors

-- 02, request l: "if n1 is at least 2 × b1, rv is at least 2 × b1 × b2"
abbrev pub RowFloor : Type 0
RowFloor = (plan : List ℕ) → Passes plan → AnyCells plan → TwoWindows plan → let c = code_of plan in 2 * c.b1 * c.b2 ≤ c.rv

-- 02, request l: "if n2 is at least 2 × b2, rh is at least b1 × b2"
abbrev pub ColumnFloor : Type 0
ColumnFloor = (plan : List ℕ) → Passes plan → AnyCells plan → TwoStrips plan → let c = code_of plan in c.b1 * c.b2 ≤ c.rh

abbrev pub CheckFloor : Type 0
CheckFloor = (plan : List ℕ) → Passes plan → AnyCells plan → TwoWindows plan → TwoStrips plan
    → let c = code_of plan in 3 * (c.b1 * c.b2) ≤ check_cells plan

-- 02, request l: "a 3 by 3 blot on a sheet of 6 by 6 cells or more costs at least 27"
abbrev pub ThreeByThree : Type 0
ThreeByThree = (plan : List ℕ) → Passes plan → AnyCells plan
    → let c = code_of plan in c.b1 ≡ 3 → c.b2 ≡ 3 → 6 ≤ c.n1 → 6 ≤ c.n2 → 27 ≤ check_cells plan

-- ---- they are met

pub record AtFloor (plan : List ℕ) : Type 0 where
  pub passes : Passes plan
  pub any : AnyCells plan
  pub windows : TwoWindows plan
  pub strips : TwoStrips plan
  pub row : (code_of plan).rv ≡ 2 * (code_of plan).b1 * (code_of plan).b2
  pub column : (code_of plan).rh ≡ (code_of plan).b1 * (code_of plan).b2
  pub cells : check_cells plan ≡ 3 * ((code_of plan).b1 * (code_of plan).b2)

abbrev pub FloorsMet : Type 0
FloorsMet = (plan : List ℕ) × AtFloor plan
