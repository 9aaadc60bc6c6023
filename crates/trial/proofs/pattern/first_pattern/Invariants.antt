-- `trial::pattern::first_pattern` meets its contract. The invariant: no pattern before x fits. Assumes nothing.
use mathlib.Core.Path.{◌≡◌}
use mathlib.Core.Bool.{false}
use Prim.Native.Nat.{ℕ, ◌<◌}
use Rattle.plan.specs.Table.{word_at}
use Rattle.trial.specs.Trial.{fits_few}
use Rattle.trial.proofs.pattern.first_pattern.Given as goal

abbrev pub invariant-loop-x : goal.invariant-loop-x
invariant-loop-x l = (j : ℕ) → j < l.x → fits_few l.t l.n (word_at l.rows) (word_at l.columns) l.v l.s j ≡ false
