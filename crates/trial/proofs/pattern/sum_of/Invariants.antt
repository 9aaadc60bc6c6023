-- `trial::pattern::sum_of` meets its contract. The invariant: the first k cells are summed. Assumes nothing.
use mathlib.Core.Path.{◌≡◌}
use Rattle.gf2.specs.Sum.{chosen_sum}
use Rattle.finite.specs.Search.{bit}
use Rattle.plan.specs.Table.{word_at}
use Rattle.trial.proofs.pattern.sum_of.Given as goal

abbrev pub invariant-loop-k : goal.invariant-loop-k
invariant-loop-k l = l.sum ≡ chosen_sum l.k (bit l.x) (word_at l.entries)
