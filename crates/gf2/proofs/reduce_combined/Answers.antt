use mathlib.Core.Path.{sym, ◌∙◌}
use native.Mathlib.Omega.{arith}
use Rattle.gf2.specs.Xor.{◌⊕◌}
use Rattle.gf2.specs.Basis.{lowered}
use Rattle.gf2.proofs.Reduction.{log-top, reduced-more, reduced-done, reduced-le}
use Rattle.gf2.proofs.Combined.{combined-more, combined-done}
use Rattle.gf2.proofs.reduce_combined.Goals as goal

pub returns-then-left-next : goal.returns-then-left-next
unfolding lowered ◌⊕◌
returns-then-left-next c =
    let a = c.loop-left in
    let g = c.ilog2-k.ensures in
    let h = rw (log-top a.left _ g.power_le g.next_power_gt g.bound) at c.if-left-next.true in
    (sym (a.invariant.1 ∙ reduced-done _ _ h), sym (a.invariant.2 ∙ combined-done _ _ _ _ h))

pub loop-left-preserved : goal.loop-left-preserved
unfolding lowered ◌⊕◌
loop-left-preserved c =
    let a = c.loop-left in
    let g = c.ilog2-k.ensures in
    let e = log-top a.left _ g.power_le g.next_power_gt g.bound in
    let h = rw e at c.if-left-next.false in
    rw e (omega arith, a.invariant.1 ∙ reduced-more _ _ h, a.invariant.2 ∙ combined-more _ _ _ _ h)

pub returns : goal.returns
returns c =
    let a = c.loop-left in
    let b = c.args.basis.now in
    (omega (arith, reduced-le b a.left), sym (a.invariant.2 ∙ combined-done _ _ _ _ (omega arith)))
