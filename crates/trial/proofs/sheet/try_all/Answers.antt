use mathlib.Core.Path.{◌≡◌}
use Prim.Native.Nat.{◌+◌, ◌-◌, ◌*◌, ◌^◌, ◌≤◌, ◌<◌}
use native.Mathlib.Omega.{arith}
use Rattle.gf2.proofs.Extension.{bit_is}
use Rattle.boxcode.specs.Burst.{patterns, lefts}
use Rattle.plan.specs.Bytes.{code_with}
use Rattle.trial.proofs.Trials.{trial-misses, trial-turns, trial-finds, trial-ends}
use Rattle.trial.proofs.sheet.try_all.Goals as goal

pub returns-then-pattern-patterns : goal.returns-then-pattern-patterns
unfolding lefts patterns
returns-then-pattern-patterns c =
    let h = c.args.view.header in
    let e = bit_is (h.b1 * h.b2) (omega arith) in
    let low : c.try_rectangle-pattern.result < 2 ^ (h.b1 * h.b2) = omega arith in
    trial-finds (code_with c.args.view.plan.now h) _ _ _ _ _ c.loop-top-test.true c.loop-left-test.true c.loop-left.invariant
    c.try_rectangle-pattern.ensures low

pub loop-left-preserved : goal.loop-left-preserved
unfolding lefts patterns
loop-left-preserved c =
    let h = c.args.view.header in
    let e = bit_is (h.b1 * h.b2) (omega arith) in
    let most : 2 ^ (h.b1 * h.b2) ≤ c.try_rectangle-pattern.result = omega arith in
    trial-misses (code_with c.args.view.plan.now h) _ _ _ _ c.loop-left-test.true c.loop-left.invariant (rw (← c.try_rectangle-pattern.ensures) most)

pub loop-top-preserved : goal.loop-top-preserved
unfolding lefts
loop-top-preserved c =
    let h = c.args.view.header in
    let e : c.loop-left.left ≡ h.n2 - h.b2 + 1 = omega arith in
    trial-turns (code_with c.args.view.plan.now h) _ _ _ (rw e at c.loop-left.invariant)

pub returns : goal.returns
returns c =
    let h = c.args.view.header in
    let e : c.loop-top.top ≡ h.n1 - h.b1 + 1 = omega arith in
    trial-ends (code_with c.args.view.plan.now h) _ _ (rw e at c.loop-top.invariant)
