-- `difference::row_part` meets its contract: byte k is far below 2 to the power 64, and a row is short. Assumes nothing.
use mathlib.Core.Path.{◌≡◌, ap}
use Prim.Native.Nat.{ℕ, ◌+◌, ◌*◌, ◌/◌, ◌%◌, ◌≤◌}
use native.Mathlib.Nat.{one-mul, add-mul, div-le_self, div-add-mod'}
use native.Mathlib.Omega.{arith}
use Rattle.layout.specs.Cells.{row_bytes}
use Rattle.difference.specs.declared.Part.{Part}
use Rattle.difference.specs.Difference.{row_part}
use Rattle.difference.proofs.row_part.Goals as goal

-- the claim comes first, so that a wrong row is refused by it and not by a bound
pub returns : goal.returns
unfolding row_part
returns c =
    let k = c.args.k in
    let whole : ℕ → Part = λ w. record { start = k / w * w; end = (k / w + 1) * w } in
    ap whole c.row_bytes-size.ensures

pub overflow_mul-start : goal.overflow_mul-start
overflow_mul-start c =
    let k = c.args.k in
    let w = c.row_bytes-size.result in
    let e : k / w * w + k % w ≡ k = div-add-mod' k w in
    omega arith

pub overflow_add-end : goal.overflow_add-end
overflow_add-end c =
    let k = c.args.k in
    let w = c.row_bytes-size.result in
    let e : k / w ≤ k = div-le_self k w in
    omega arith

pub overflow_mul-end : goal.overflow_mul-end
unfolding row_bytes
overflow_mul-end c =
    let k = c.args.k in
    let w = c.row_bytes-size.result in
    let e : k / w * w + k % w ≡ k = div-add-mod' k w in
    let f : (k / w + 1) * w ≡ k / w * w + 1 * w = add-mul (k / w) 1 w in
    let g : 1 * w ≡ w = one-mul w in
    omega arith
