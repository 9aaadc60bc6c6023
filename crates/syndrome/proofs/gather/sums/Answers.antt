use native.Mathlib.Omega.{arith}
use Rattle.syndrome.proofs.Fed.{fed-none}
use Rattle.syndrome.proofs.gather.sums.Goals as goal

pub loop-k-init : goal.loop-k-init
loop-k-init c = fed-none _ _ _ _ (omega arith)
