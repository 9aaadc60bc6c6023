-- `trial::sheet::try_all` meets its contract. The invariants: none of the trials before those of the rectangle at top and left has the
-- two sums. Assumes nothing.
use Rattle.plan.specs.Bytes.{code_with}
use Rattle.trial.proofs.Trials.{Vain, before}
use Rattle.trial.proofs.sheet.try_all.Given as goal

abbrev pub invariant-loop-left : goal.invariant-loop-left
invariant-loop-left l = let c = code_with l.view.plan.now l.view.header in Vain c l.v l.s (before c l.v l.s l.top l.left)

abbrev pub invariant-loop-top : goal.invariant-loop-top
invariant-loop-top l = let c = code_with l.view.plan.now l.view.header in Vain c l.v l.s (before c l.v l.s l.top 0)
