-- `stackform::entries_broken` meets its contract. The invariant: the header breaks the rules for no sheet before i. Assumes nothing.
use mathlib.Core.Path.{◌≡◌}
use mathlib.Core.Bool.{false}
use Prim.Native.Nat.{ℕ, ◌<◌}
use Rattle.stackform.specs.Stack.{entry_broken}
use Rattle.stackform.proofs.entries_broken.Given as goal

abbrev pub invariant-loop-i : goal.invariant-loop-i
invariant-loop-i l = (j : ℕ) → j < l.i → entry_broken l.size l.count l.stack j ≡ false
