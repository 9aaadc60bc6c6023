use Rattle.std.proofs.Common.{refl, arith}
use Rattle.gf2.specs.Xor.{◌⊕◌}
use Rattle.accept.proofs.Remains.{block_start, block-next}
use Rattle.accept.proofs.rest.differ_block.Goals as goal

pub loop-at-init : goal.loop-at-init
loop-at-init c = block_start _ _ _ _

pub loop-at-preserved : goal.loop-at-preserved
unfolding ◌⊕◌
loop-at-preserved c = block-next c.loop-at.invariant (omega arith) _ refl
