use mathlib.Core.Path.{refl}
use Rattle.payload.specs.Transfer.{take_run}
use Rattle.payload.proofs.Run.{take_more}
use Rattle.payload.proofs.transfer.take_run.Goals as goal

pub loop-j-init : goal.loop-j-init
unfolding take_run
loop-j-init c = refl

pub loop-j-preserved : goal.loop-j-preserved
loop-j-preserved c = take_more _ _ _ _ _ _ _ _ _ _ _ _ c.bit.ensures c.cell_in-dark.ensures c.loop-j.invariant c.turn_if.ensures
