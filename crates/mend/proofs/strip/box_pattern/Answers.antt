use mathlib.Core.Path.{◌≡◌, ap₂, ◌∙◌}
use Prim.Native.Nat.{ℕ, ◌+◌, ◌*◌}
use native.Mathlib.Omega.{arith}
use Rattle.mend.specs.Strip.{box_pattern}
use Rattle.mend.proofs.Turns.{digits-start, digits_more, digits-all, digits-below, digit-most, box-size}
use Rattle.mend.proofs.strip.box_pattern.Goals as goal

pub loop-k-init : goal.loop-k-init
loop-k-init c = digits-start _ _

pub overflow_mul-y : goal.overflow_mul-y
overflow_mul-y c = omega (arith, digits-below _ _ _ _ c.loop-k.invariant (box-size c.requires.burst_size))

pub overflow_add-y : goal.overflow_add-y
overflow_add-y c =
    omega (arith, digits-below _ _ _ _ c.loop-k.invariant (box-size c.requires.burst_size), digit-most _ _ c.laid_digit.ensures)

pub loop-k-preserved : goal.loop-k-preserved
loop-k-preserved c = ap₂ (λ (y d : ℕ). 2 * y + d) c.loop-k.invariant c.laid_digit.ensures ∙ digits_more _ _ _ (omega arith) (omega arith)

pub returns : goal.returns
unfolding box_pattern
returns c =
    let e : c.loop-k.k ≡ 0 = omega arith in
    (rw e at c.loop-k.invariant) ∙ digits-all _ _
