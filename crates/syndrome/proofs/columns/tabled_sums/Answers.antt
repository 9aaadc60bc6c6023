use native.Mathlib.Omega.{arith}
use Rattle.layout.specs.Cells.{row_bytes}
use Rattle.syndrome.proofs.Block.{fed-no-block, fed-block}
use Rattle.syndrome.proofs.columns.tabled_sums.Goals as goal

pub loop-b-init : goal.loop-b-init
unfolding row_bytes
loop-b-init c = let e = c.row_bytes-b.ensures in fed-no-block _ _ _ (omega arith)

pub loop-b-preserved : goal.loop-b-preserved
loop-b-preserved c =
    let l = c.loop-b in
    rw c.bitxor-held.ensures (fed-block _ _ l.b _ _ (omega arith) l.invariant c.block_sums.ensures)
