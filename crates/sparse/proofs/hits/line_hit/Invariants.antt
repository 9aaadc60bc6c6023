-- `sparse::hits::line_hit` meets its contract. The invariant: none of the first d places is the last of a set that has one of the sums.
-- Assumes nothing.
use Rattle.std.proofs.Common.{◌≡◌, ℕ, ◌+◌, ◌<◌, false}
use Rattle.plan.specs.Table.{word_at}
use Rattle.sparse.specs.Sets.{hit_at, one_of}
use Rattle.sparse.proofs.hits.line_hit.Given as goal

abbrev pub invariant-loop-d : goal.invariant-loop-d
invariant-loop-d l = (j : ℕ) → j < l.d → hit_at l.t (word_at l.words) l.from (l.last + j) (one_of l.sums) ≡ false
