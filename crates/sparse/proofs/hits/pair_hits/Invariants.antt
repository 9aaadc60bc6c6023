-- `sparse::hits::pair_hits` meets its contract. The invariant: no place before l makes with k a set that has one of the sums. Assumes nothing.
use mathlib.Core.Path.{◌≡◌}
use mathlib.Core.Bool.{Bool, false}
use mathlib.Core.List.{List}
use Prim.Native.Nat.{ℕ, ◌-◌, ◌≤◌, ◌<◌}
use Rattle.gf2.specs.Xor.{◌⊕◌}
use Rattle.plan.specs.Table.{word_at}
use Rattle.sparse.specs.Sets.{one_of}
use Rattle.sparse.proofs.hits.pair_hits.Given as goal

-- places j and k
abbrev pub pair_at : List ℕ → List ℕ → ℕ → ℕ → Bool
pair_at words sums k j = one_of sums (word_at words j ⊕ word_at words k)

abbrev pub invariant-loop-l : goal.invariant-loop-l
invariant-loop-l l = ((j : ℕ) → l.from ≤ j → j < l.l → pair_at l.words l.sums l.k j ≡ false) × (l.from ≤ l.l) × (l.l ≤ l.k)

abbrev pub decreases-loop-l : goal.decreases-loop-l
decreases-loop-l l = l.k - l.l
