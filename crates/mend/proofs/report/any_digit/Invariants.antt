-- `mend::report::any_digit` meets its contract. The invariant: none of the first l digits is 1. Assumes nothing.
use mathlib.Core.Path.{◌≡◌}
use mathlib.Core.Bool.{false}
use Prim.Native.Nat.{ℕ, ◌+◌, ◌*◌, ◌<◌}
use Rattle.finite.specs.Search.{bit}
use Rattle.mend.proofs.report.any_digit.Given as goal

abbrev pub invariant-loop-l : goal.invariant-loop-l
invariant-loop-l l = (j : ℕ) → j < l.l → bit l.x (l.from + j * l.step) ≡ false
