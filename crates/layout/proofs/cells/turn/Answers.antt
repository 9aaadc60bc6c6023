-- `layout::cells::turn` meets its contract: 1 shifted is a power of two. Assumes nothing.
use Prim.Native.Nat.{◌%◌, ◌^◌}
use native.Mathlib.Nat.{one-mul}
use native.Mathlib.Omega.{arith}
use lib.Pow.{shl_exact}
use Rattle.gf2.specs.Xor.{◌⊕◌}
use Rattle.layout.specs.Cells.{turned}
use Rattle.layout.proofs.cells.turn.Goals as goal

pub returns : goal.returns
unfolding turned ◌⊕◌
returns c =
    let j = c.args.j in
    rw (c.byte_of-k.ensures, shl_exact {a = 1} 1 (j % 8) 8 (omega arith) (omega arith), one-mul (2 ^ (j % 8)))
