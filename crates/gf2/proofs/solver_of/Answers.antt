use Prim.Native.Nat.{◌<◌}
use mathlib.Core.Path.{refl, sym, ◌∙◌}
use native.Mathlib.Omega.{arith}
use native.Mathlib.Numerals.{add-one}
use Rattle.gf2.specs.Basis.{inserted}
use Rattle.gf2.specs.Solver.{solver_of}
use Rattle.gf2.proofs.Reduction.{log-top}
use Rattle.gf2.proofs.Extension.{solver-full, solver-stop, solver-next, solver-end, bit_is}
use Rattle.gf2.proofs.solver_of.Goals as goal

pub loop-i-init : goal.loop-i-init
unfolding solver_of
loop-i-init c = refl

pub returns-then-i-ge64 : goal.returns-then-i-ge64
returns-then-i-ge64 c =
    let a = c.loop-i in
    sym (a.invariant ∙ solver-full _ a.basis a.combos a.i (omega arith) c.if-i-ge64.true)

pub returns-then-left-eq0 : goal.returns-then-left-eq0
returns-then-left-eq0 c =
    let a = c.loop-i in
    let r = c.reduce_combined-r in
    sym (a.invariant ∙ solver-stop _ a.basis a.combos a.i (omega arith) (omega arith) (sym r.ensures.0 ∙ c.if-left-eq0.true))

pub loop-i-preserved : goal.loop-i-preserved
unfolding inserted
loop-i-preserved c =
    let a = c.loop-i in
    let r = c.reduce_combined-r in
    let g = c.ilog2-k.ensures in
    let l : a.i < 64 = omega arith in
    a.invariant ∙ solver-next _ a.basis a.combos a.i (omega arith) l (λ e. c.if-left-eq0.false (r.ensures.0 ∙ e))
    ∙ rw (← r.ensures.0, ← log-top _ _ g.power_le g.next_power_gt g.bound, ← bit_is a.i l, ← r.ensures.1, add-one)

pub returns : goal.returns
returns c =
    let a = c.loop-i in
    sym (a.invariant ∙ solver-end _ a.basis a.combos a.i (omega arith))
