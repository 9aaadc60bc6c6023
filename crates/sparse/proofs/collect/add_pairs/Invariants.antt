-- `sparse::collect::add_pairs` meets its contract. The invariant: the sums of the first d of the sets are added. Assumes nothing.
use Rattle.std.proofs.Common.{◌+◌, nat_eq}
use Rattle.finite.specs.Search.{any_below}
use Rattle.gf2.specs.Xor.{◌⊕◌}
use Rattle.plan.specs.Table.{word_at}
use Rattle.sparse.specs.Collect.{Grown}
use Rattle.sparse.proofs.collect.add_pairs.Given as goal

abbrev pub invariant-loop-d : goal.invariant-loop-d
invariant-loop-d l =
    Grown l.initial.sums l.count (λ x. any_below l.d (λ e. nat_eq (word_at l.words (l.first + e) ⊕ word_at l.words l.k) x)) (l.count + l.d)
    l.sums l.marks
