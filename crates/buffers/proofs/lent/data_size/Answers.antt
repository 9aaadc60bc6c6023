-- `buffers::lent::data_size` meets its contract. Assumes nothing.
use Prim.Native.Nat.{◌*◌, ◌≤◌}
use native.Mathlib.Nat.{mul-le-mul}
use native.Mathlib.Omega.{arith}
use Rattle.buffers.proofs.lent.data_size.Goals as goal

pub overflow_mul-result : goal.overflow_mul-result
overflow_mul-result c =
    let m : c.args.h.n1 * c.args.h.n2 ≤ 512 * 698 = mul-le-mul c.requires.small.n1_most c.requires.small.n2_most in
    omega arith
