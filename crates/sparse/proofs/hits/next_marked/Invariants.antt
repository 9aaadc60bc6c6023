-- `sparse::hits::next_marked` meets its contract. The invariant: no place before l makes with k a number that has a mark. Assumes nothing.
use Rattle.std.proofs.Common.{◌≡◌, ℕ, ◌≤◌, ◌<◌, Bool, false, List}
use Rattle.gf2.specs.Xor.{◌⊕◌}
use Rattle.plan.specs.Table.{word_at}
use Rattle.sparse.specs.Sets.{has_mark}
use Rattle.sparse.proofs.hits.next_marked.Given as goal

-- places j and k
abbrev pub mark_at : List ℕ → List ℕ → ℕ → ℕ → Bool
mark_at words marks k j = has_mark marks (word_at words j ⊕ word_at words k)

abbrev pub invariant-loop-l : goal.invariant-loop-l
invariant-loop-l l = (j : ℕ) → l.from ≤ j → j < l.l → mark_at l.words l.marks l.k j ≡ false
