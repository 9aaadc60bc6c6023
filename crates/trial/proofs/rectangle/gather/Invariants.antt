-- `trial::rectangle::gather` meets its contract. The invariant: the first k words are the entries of the first k cells. Assumes nothing.
use mathlib.Core.Path.{◌≡◌}
use Prim.Native.Nat.{ℕ, ◌+◌, ◌/◌, ◌%◌, ◌<◌}
use lib.ListN.{get_or}
use Rattle.plan.specs.Bytes.{code_with}
use Rattle.trial.specs.Trial.{weight_by}
use Rattle.trial.proofs.rectangle.gather.Given as goal

abbrev pub invariant-loop-k : goal.invariant-loop-k
invariant-loop-k l =
    (j : ℕ) → j < l.k → get_or l.entry-items j 0 ≡ weight_by l.table (code_with l.view.plan.now l.view.header) (l.top + j / l.view.header.b2) (l.left + j % l.view.header.b2)
