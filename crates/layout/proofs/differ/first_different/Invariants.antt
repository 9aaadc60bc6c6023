-- `layout::differ::first_different` meets its contract. The invariant: no byte before k differs. Assumes nothing.
use Rattle.layout.specs.Differ.{AgreeUpTo}
use Rattle.layout.proofs.differ.first_different.Given as goal

abbrev pub invariant-loop-k : goal.invariant-loop-k
invariant-loop-k l = AgreeUpTo l.s l.t l.k
