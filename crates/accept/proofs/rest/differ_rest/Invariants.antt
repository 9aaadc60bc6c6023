-- `accept::rest::differ_rest` meets its contract. The invariant: the words from the end of the strip up to k are reduced by it, and at k, if that is
-- not the end, the strip's first remainder stands again. Assumes nothing.
use mathlib.Core.Path.{◌≡◌}
use Prim.Native.Nat.{◌+◌, ◌-◌, ◌%◌, ◌≤◌, ◌<◌}
use lib.ListN.{length}
use Rattle.plan.specs.Table.{word_at}
use Rattle.accept.specs.Windows.{reduction}
use Rattle.accept.proofs.Remains.{Filled}
use Rattle.accept.proofs.rest.differ_rest.Given as goal

abbrev pub invariant-loop-k : goal.invariant-loop-k
invariant-loop-k l =
    (l.k ≤ length l.words) × (l.first + l.size ≤ l.k) × (l.k < length l.words → (l.k - l.first) % l.size ≡ 0)
    × Filled (reduction (word_at l.words) l.first l.size) (l.first + l.size) l.k (length l.words) l.rest

abbrev pub decreases-loop-k : goal.decreases-loop-k
decreases-loop-k l = length l.words - l.k
