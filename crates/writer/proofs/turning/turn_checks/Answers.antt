use Rattle.writer.proofs.Balanced.{turned_none, turned-next}
use Rattle.writer.proofs.turning.turn_checks.Goals as goal

pub loop-k-init : goal.loop-k-init
loop-k-init c = turned_none _ _ _ _

pub loop-k-preserved : goal.loop-k-preserved
loop-k-preserved c = turned-next _ _ _ _ _ _ _ c.loop-k.invariant c.turn_check.ensures
