-- `sparse::sums::among` meets its contract. The invariant: whether one of the sums so far is x. Assumes nothing.
use Rattle.std.proofs.Common.{◌≡◌, nat_eq}
use Rattle.finite.specs.Search.{any_below}
use Rattle.plan.specs.Table.{word_at}
use Rattle.sparse.proofs.sums.among.Given as goal

abbrev pub invariant-loop-sum : goal.invariant-loop-sum
invariant-loop-sum l = l.found ≡ any_below l.sum-index (λ e. nat_eq (word_at l.sums e) l.x)
