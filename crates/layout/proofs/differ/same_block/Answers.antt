use Rattle.layout.proofs.Agreement.{seen_none, seen_next}
use Rattle.layout.proofs.differ.same_block.Goals as goal

pub loop-j-init : goal.loop-j-init
loop-j-init c = seen_none _ _ _

pub loop-j-preserved : goal.loop-j-preserved
loop-j-preserved c = let l = c.loop-j in seen_next _ _ _ l.j l.seen l.invariant
