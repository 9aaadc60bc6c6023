-- `gf2::sweep_pairs` meets its contract. The invariant: the words of the pairs before the index are taken off. Assumes nothing.
use mathlib.Core.Path.{◌≡◌}
use Prim.Native.Nat.{◌*◌}
use lib.ListN.{take}
use Rattle.gf2.specs.Swept.{swept}
use Rattle.gf2.proofs.sweep_pairs.Given as goal

abbrev pub invariant-loop-i : goal.invariant-loop-i
invariant-loop-i l = l.left ≡ swept (take (l.i * 2) l.words) l.v
