-- `layout::cells::first_unused` meets its contract. The invariant: no byte of the first i rows has an unused bit 1. Assumes nothing.
use Rattle.std.proofs.Common.{◌≡◌, false, ℕ, ◌*◌, ◌<◌}
use Rattle.layout.specs.Cells.{unused_at}
use Rattle.layout.proofs.cells.first_unused.Given as goal

abbrev pub invariant-loop-i : goal.invariant-loop-i
invariant-loop-i l = (k : ℕ) → k < l.i * l.size → unused_at l.n2 l.s k ≡ false
