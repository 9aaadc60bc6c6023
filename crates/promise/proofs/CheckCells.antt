-- How few check cells there can be, proved: one declaration for each theorem of specs/CheckCells.antt, of that type.
--
--   row-floor, column-floor, check-floor, three-by-three, floors-met
--
-- Assumes nothing.
use mathlib.Core.Path.{◌≡◌, refl, ap, ap₂}
use mathlib.Core.List.{List}
use Prim.Native.Nat.{ℕ, ◌+◌, ◌*◌, ◌≤◌}
use native.Mathlib.Omega.{arith}
use Rattle.layout.specs.Number.{u16_at}
use Rattle.boxcode.proofs.Floor as floor
use Rattle.plan.specs.declared.verdict.Verdict.{Verdict}
use Rattle.plan.specs.Header.{header_of}
use Rattle.plan.specs.Bytes.{code_of}
use Rattle.accept.proofs.Acceptance.{accepted-plan}
use Rattle.cases.specs.Plans.{T, plan_t, plan_bytes}
use Rattle.cases.proofs.Cases.{t-accepted}
use Rattle.promise.specs.Promise.{Passes}
use Rattle.promise.specs.CheckCells as promise

pub row-floor : promise.RowFloor
row-floor plan P any w =
    let c = code_of plan in
    let A = accepted-plan plan P in
    let least : 2 * c.b1 * c.b2 ≤ c.rv = floor.row-floor c A.formed A.conditions any (omega arith) in
    omega arith

pub column-floor : promise.ColumnFloor
column-floor plan P any s =
    let c = code_of plan in
    let A = accepted-plan plan P in
    let least : c.b1 * c.b2 ≤ c.rh = floor.column-floor c A.formed A.conditions any (omega arith) in
    omega arith

cells_are : (plan : List ℕ) → Passes plan → promise.check_cells plan ≡ (code_of plan).rv + (code_of plan).rh
unfolding promise.check_cells
cells_are plan P = floor.checks-on (code_of plan) (accepted-plan plan P).formed

pub check-floor : promise.CheckFloor
check-floor plan P any w s = omega (arith, row-floor plan P any w, column-floor plan P any s, cells_are plan P)

pub three-by-three : promise.ThreeByThree
three-by-three plan P any e f l m =
    let n : (code_of plan).b1 * (code_of plan).b2 ≡ 9 = ap₂ ◌*◌ e f in
    let least : 3 * ((code_of plan).b1 * (code_of plan).b2) ≤ promise.check_cells plan = check-floor plan P any (omega arith) (omega arith) in
    omega arith

-- document 01's plan T: 2 × 4 cells, bursts of 1 × 2, 4 and 2 digits
pub floors-met : promise.FloorsMet
unfolding T plan_t plan_bytes code_of header_of u16_at
floors-met =
    let P : Passes T = ap (λ (v : Verdict). v.number) t-accepted in
    (T, record { passes = P; any = refl; windows = omega arith; strips = omega arith; row = refl; column = refl; cells = cells_are T P })
