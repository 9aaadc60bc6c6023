-- `layout::stored::bytes_in` meets its contract: each arm is told which layout it has. Assumes nothing.
use mathlib.Core.Path.{◌≡◌, ap}
use Prim.Native.Nat.{ℕ, ◌*◌, ◌≤◌}
use native.Mathlib.Nat.{mul-le-mul}
use native.Mathlib.Omega.{arith}
use Rattle.layout.specs.Cells.{row_bytes, sheet_bytes}
use Rattle.layout.specs.Stored.{size_in}
use Rattle.layout.proofs.Layouts.{size-most}
use Rattle.layout.proofs.stored.bytes_in.Goals as goal

pub returns-in-ByRow : goal.returns-in-ByRow
unfolding sheet_bytes
returns-in-ByRow c =
    let e : c.args.n1 * c.row_bytes.result ≡ size_in c.args.lay c.args.n1 c.args.n2 =
    rw c.in-ByRow.is (ap (λ (w : ℕ). c.args.n1 * w) c.row_bytes.ensures) in
    (e, rw e (size-most c.args.lay c.args.n1 c.args.n2 c.requires))

pub returns-in-ByColumn : goal.returns-in-ByColumn
unfolding sheet_bytes
returns-in-ByColumn c =
    let e : c.args.n2 * c.row_bytes-in-ByColumn.result ≡ size_in c.args.lay c.args.n1 c.args.n2 =
    rw c.in-ByColumn.is (ap (λ (w : ℕ). c.args.n2 * w) c.row_bytes-in-ByColumn.ensures) in
    (e, rw e (size-most c.args.lay c.args.n1 c.args.n2 c.requires))

pub overflow_mul-result : goal.overflow_mul-result
unfolding row_bytes
overflow_mul-result c =
    let p = c.requires in
    let w : c.row_bytes.result ≤ 88 = omega (arith, c.row_bytes.ensures, p.n2_most) in
    omega (arith, mul-le-mul p.n1_most w)

pub overflow_mul-result-in-ByColumn : goal.overflow_mul-result-in-ByColumn
unfolding row_bytes
overflow_mul-result-in-ByColumn c =
    let p = c.requires in
    let w : c.row_bytes-in-ByColumn.result ≤ 64 = omega (arith, c.row_bytes-in-ByColumn.ensures, p.n1_most) in
    omega (arith, mul-le-mul p.n2_most w)
