-- `gf2::powers::first_break` meets its contract. The invariant: there is no break before k. Assumes nothing.
use mathlib.Core.Path.{◌≡◌}
use mathlib.Core.Bool.{false}
use Prim.Native.Nat.{ℕ, ◌<◌}
use Rattle.gf2.specs.Powers.{breaks_at}
use Rattle.gf2.proofs.powers.first_break.Given as goal

abbrev pub invariant-loop-k : goal.invariant-loop-k
invariant-loop-k l = (j : ℕ) → j < l.k → breaks_at l.p l.words j ≡ false
