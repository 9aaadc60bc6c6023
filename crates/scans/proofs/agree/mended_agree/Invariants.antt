-- `scans::agree::mended_agree` meets its contract. The invariant: no byte before k differs. Assumes nothing.
use mathlib.Core.Path.{◌≡◌}
use Prim.Native.Nat.{ℕ, ◌<◌}
use lib.ListN.{get_or}
use Rattle.layout.specs.declared.stored.Layout.TheVariants.{ByRow}
use Rattle.reader.specs.Turn.{box_turned}
use Rattle.scans.proofs.agree.mended_agree.Given as goal

abbrev pub invariant-loop-k : goal.invariant-loop-k
invariant-loop-k l =
    (j : ℕ) → j < l.k
    → get_or (box_turned ByRow l.h.n1 l.h.n2 l.first l.burst.top l.burst.left l.h.b1 l.h.b2 l.burst.pattern) j 0
    ≡ get_or (box_turned ByRow l.h.n1 l.h.n2 l.second l.burst2.top l.burst2.left l.h.b1 l.h.b2 l.burst2.pattern) j 0
