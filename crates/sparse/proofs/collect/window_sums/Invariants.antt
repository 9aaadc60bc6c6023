-- `sparse::collect::window_sums` meets its contract. The invariant: the sums of the sets of the first k places, of which no two are equal.
-- Assumes nothing.
use Rattle.plan.specs.Table.{word_at}
use Rattle.sparse.proofs.Windows.{Begun}
use Rattle.sparse.proofs.collect.window_sums.Given as goal

abbrev pub invariant-loop-k : goal.invariant-loop-k
invariant-loop-k l = Begun l.t (word_at l.words) l.first l.k l.count l.sums l.marks
