use mathlib.Core.Path.{◌≡◌}
use native.Mathlib.Omega.{arith}
use Rattle.mend.proofs.Turns.{sum-start, sum_more}
use Rattle.trial.specs.Trial.{pattern_sum}
use Rattle.trial.proofs.pattern.sum_of.Goals as goal

pub loop-k-init : goal.loop-k-init
loop-k-init c = sum-start _

pub loop-k-preserved : goal.loop-k-preserved
loop-k-preserved c = sum_more _ _ _ _ c.loop-k.invariant c.picked-sum.ensures

pub returns : goal.returns
unfolding pattern_sum
returns c = let e : c.loop-k.k ≡ 16 = omega arith in rw e at c.loop-k.invariant
