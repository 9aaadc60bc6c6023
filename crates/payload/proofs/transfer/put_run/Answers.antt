use mathlib.Core.Path.{refl}
use Rattle.payload.specs.Transfer.{put_run}
use Rattle.payload.proofs.Run.{put-more}
use Rattle.payload.proofs.transfer.put_run.Goals as goal

pub loop-j-init : goal.loop-j-init
unfolding put_run
loop-j-init c = refl

pub loop-j-preserved : goal.loop-j-preserved
loop-j-preserved c = put-more _ _ _ _ _ _ _ _ _ _ _ _ c.bit.ensures c.cell-dark.ensures c.loop-j.invariant c.turn_in.ensures
