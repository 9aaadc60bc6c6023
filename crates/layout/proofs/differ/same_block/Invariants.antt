-- `layout::differ::same_block` meets its contract. The invariant: nothing is seen exactly if none of the first j bytes differs. Assumes nothing.
use Rattle.std.proofs.Common.{◌≡◌, not, ◌+◌, nat_eq}
use Rattle.finite.specs.Search.{any_below}
use Rattle.layout.specs.Differ.{differ_at}
use Rattle.layout.proofs.differ.same_block.Given as goal

abbrev pub invariant-loop-j : goal.invariant-loop-j
invariant-loop-j l = nat_eq l.seen 0 ≡ not (any_below l.j (λ m. differ_at l.s l.t (l.at + m)))
