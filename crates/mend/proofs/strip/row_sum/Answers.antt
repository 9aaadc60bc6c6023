use mathlib.Core.Path.{◌≡◌, ap, ◌∙◌}
use Prim.Native.Nat.{ℕ, ◌+◌, ◌*◌}
use native.Mathlib.Omega.{arith}
use Rattle.mend.specs.Strip.{laid_cell, laid_row}
use Rattle.mend.proofs.Turns.{times-next, mod-start, mod-next, sum-start, sum_more}
use Rattle.mend.proofs.strip.row_sum.Goals as goal

next_place : (a d b u at : ℕ) → at ≡ (a + d) * b + u → at + b ≡ (a + (d + 1)) * b + u
next_place a d b u at e =
    let n : (a + d + 1) * b ≡ (a + d) * b + b = times-next (a + d) b in
    let m : (a + (d + 1)) * b ≡ (a + d + 1) * b = ap (λ (n : ℕ). n * b) (let z : a + (d + 1) ≡ a + d + 1 = omega arith in z) in
    omega arith

pub loop-init : goal.loop-init
loop-init c = (mod-start _ _, omega arith, sum-start _)

pub loop-preserved : goal.loop-preserved
loop-preserved c =
    let w = c.loop in
    let a = c.args in (
      c.after-t.ensures ∙ mod-next a.a w.counter a.b2 w.t w.invariant.0,
      next_place a.a w.counter a.b1 a.u w.at w.invariant.1,
      sum_more _ _ _ _ w.invariant.2 (unfold laid_cell in rw (← w.invariant.0, ← w.invariant.1) c.picked-sum.ensures),
    )

pub returns : goal.returns
unfolding laid_row
returns c = let e : c.loop.counter ≡ c.args.b2 = omega arith in rw e at c.loop.invariant.2
