use Prim.Native.Nat.{ℕ, ◌<◌}
use native.Mathlib.Omega.{arith}
use lib.ListN.{length-take}
use lib.Seq.{get_or-take}
use Rattle.plan.specs.Table.{word_at}
use Rattle.encode.proofs.Pieces.{table_none, table-next}
use Rattle.encode.proofs.parts.put_table.Goals as goal

pub loop-k-init : goal.loop-k-init
loop-k-init c = table_none _ _ _

pub loop-k-preserved : goal.loop-k-preserved
loop-k-preserved c =
    let l : c.loop-k.k < c.args.count = omega (arith, length-take {A = ℕ}) in
    table-next (word_at c.args.words.now) _ _ _ _ _ c.loop-k.invariant (rw get_or-take at c.put_u32.ensures)
