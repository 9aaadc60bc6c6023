-- `gf2::reduce_combined` meets its contract. The loop's invariant: from what is left and the combination so far, the result is the
-- same as from v and y. Assumes nothing.
use Prim.Native.Nat.{◌≤◌}
use mathlib.Core.Path.{◌≡◌}
use Rattle.gf2.specs.Basis.{reduced}
use Rattle.gf2.specs.Solver.{combined}
use Rattle.gf2.proofs.reduce_combined.Given as goal

abbrev pub invariant-loop-left : goal.invariant-loop-left
invariant-loop-left l =
    (l.left ≤ l.v)
    × (reduced l.basis l.v ≡ reduced l.basis l.left)
    × (combined l.basis l.combos l.v l.y ≡ combined l.basis l.combos l.left l.combo)

abbrev pub decreases-loop-left : goal.decreases-loop-left
decreases-loop-left l = l.left
