use mathlib.Core.Path.{refl, ap, ◌∙◌}
use native.Mathlib.Nat.{mul-le-mul_right, zero-mul}
use lib.ListN.{length}
use Rattle.gf2.proofs.Taking.{taking-none, taking-full}
use Rattle.maker.proofs.Cells.{empty-size}
use Rattle.maker.proofs.taking.take_cells.Goals as goal

pub loop-i-init : goal.loop-i-init
loop-i-init c = rw (zero-mul c.args.h.n2) (taking-none _ _ _ _ (ap length c.empty_basis.ensures ∙ empty-size) refl)

pub returns-then-wanted-taken : goal.returns-then-wanted-taken
returns-then-wanted-taken c =
    taking-full _ _ _ _ _ _ c.loop-i.invariant c.if-wanted-taken.true _ (mul-le-mul_right c.args.h.n2 c.loop-i.auto.i-end)
