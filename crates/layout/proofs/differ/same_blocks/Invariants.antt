-- `layout::differ::same_blocks` meets its contract. The invariant: no byte of the first b blocks differs. Assumes nothing.
use Rattle.std.proofs.Common.{◌*◌}
use Rattle.layout.specs.Differ.{AgreeUpTo}
use Rattle.layout.proofs.differ.same_blocks.Given as goal

abbrev pub invariant-loop-b : goal.invariant-loop-b
invariant-loop-b l = AgreeUpTo l.s l.t (64 * l.b)
