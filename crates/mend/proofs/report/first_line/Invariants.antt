-- `mend::report::first_line` meets its contract. The invariant: no line before k has a cell. Assumes nothing.
use mathlib.Core.Path.{◌≡◌}
use mathlib.Core.Bool.{false}
use Prim.Native.Nat.{ℕ, ◌<◌}
use Rattle.mend.specs.Report.{line_has}
use Rattle.mend.proofs.report.first_line.Given as goal

abbrev pub invariant-loop-k : goal.invariant-loop-k
invariant-loop-k l = (j : ℕ) → j < l.k → line_has l.x l.jump l.step l.count j ≡ false
