use mathlib.Core.Path.{◌≡◌, sym, ◌∙◌}
use native.Mathlib.Nat.{zero-mul}
use native.Mathlib.Omega.{arith}
use Rattle.mend.specs.Strip.{laid_line, laid_sum}
use Rattle.mend.proofs.Turns.{times-next, mod-start, mod-next, sum-start, sum_more}
use Rattle.mend.proofs.strip.laid_sum.Goals as goal

pub loop-init : goal.loop-init
loop-init c = (mod-start _ _, sym (zero-mul _), sum-start _)

pub loop-preserved : goal.loop-preserved
loop-preserved c =
    let w = c.loop in
    let a = c.args in (
      c.after-u.ensures ∙ mod-next a.i w.counter a.b1 w.u w.invariant.0,
      omega (arith, times-next w.counter a.b2),
      sum_more _ _ _ _ w.invariant.2 (unfold laid_line in rw (← w.invariant.0, ← w.invariant.1) c.row_sum-sum.ensures),
    )

pub returns : goal.returns
unfolding laid_sum
returns c = let e : c.loop.counter ≡ c.args.b1 = omega arith in rw e at c.loop.invariant.2
