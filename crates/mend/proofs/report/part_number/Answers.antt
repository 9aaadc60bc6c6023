use mathlib.Core.Path.{◌≡◌, ap₂, ◌∙◌}
use Prim.Native.Nat.{ℕ, ◌+◌, ◌*◌}
use native.Mathlib.Omega.{arith}
use Rattle.mend.specs.Report.{part_digit, part_number}
use Rattle.mend.proofs.Turns.{digits-start, digits_more, digits-all, digits-below, digit-most, part-size}
use Rattle.mend.proofs.report.part_number.Goals as goal

pub loop-k-init : goal.loop-k-init
loop-k-init c = digits-start _ _

pub overflow_mul-y : goal.overflow_mul-y
overflow_mul-y c = omega (arith, digits-below _ _ _ _ c.loop-k.invariant (part-size c.requires))

pub overflow_add-y : goal.overflow_add-y
overflow_add-y c = omega (arith, digits-below _ _ _ _ c.loop-k.invariant (part-size c.requires), digit-most _ _ c.digit.ensures)

pub loop-k-preserved : goal.loop-k-preserved
unfolding part_digit
loop-k-preserved c = ap₂ (λ (y d : ℕ). 2 * y + d) c.loop-k.invariant c.digit.ensures ∙ digits_more _ _ _ (omega arith) (omega arith)

pub returns : goal.returns
unfolding part_number
returns c =
    let e : c.loop-k.k ≡ 0 = omega arith in
    (rw e at c.loop-k.invariant) ∙ digits-all _ _
