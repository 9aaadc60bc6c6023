-- `buffers::lent::data_bytes` meets its contract: at most 512 × 698 bits. Assumes nothing.
use mathlib.Core.Path.{◌∙◌}
use Prim.Native.Nat.{◌≤◌}
use native.Mathlib.Nat.{mul-le-mul}
use native.Mathlib.Omega.{arith}
use Rattle.layout.specs.Cells.{row_bytes}
use Rattle.buffers.proofs.lent.data_bytes.Goals as goal

pub row_bytes-requires : goal.row_bytes-requires
row_bytes-requires c =
    let size-most : c.data_size.result ≤ 357376 = let m = mul-le-mul c.requires.small.n1_most c.requires.small.n2_most in
    omega (arith, c.data_size.ensures) in
    omega (arith, size-most)

pub returns : goal.returns
returns c =
    let size-most : c.data_size.result ≤ 357376 = let m = mul-le-mul c.requires.small.n1_most c.requires.small.n2_most in
    omega (arith, c.data_size.ensures) in
    let e = c.row_bytes.ensures in
    (e ∙ rw c.data_size.ensures, unfold row_bytes in omega (arith, e, size-most))
