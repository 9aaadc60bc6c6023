-- `payload::transfer::take` meets its contract. The invariant: the data of the cells before the cursor is taken, and nothing else. Assumes nothing.
use mathlib.Core.Path.{◌≡◌}
use Prim.Native.Nat.{◌+◌, ◌-◌, ◌*◌}
use Rattle.layout.specs.Cells.{bytes_of}
use Rattle.layout.specs.Stored.{cell_in}
use Rattle.boxcode.specs.Check.{data_size}
use Rattle.plan.specs.Bytes.{code_with}
use Rattle.position.specs.Walk.{At}
use Rattle.payload.proofs.Progress.{taken_to}
use Rattle.payload.proofs.transfer.take.Given as goal

abbrev pub invariant-loop-at : goal.invariant-loop-at
invariant-loop-at l =
    (l.k ≡ data_size (code_with l.view.plan.now l.view.header)) × (l.n2 ≡ l.view.header.n2) × At (code_with l.view.plan.now l.view.header) l.at
    × (l.bits ≡ bytes_of 1 (data_size (code_with l.view.plan.now l.view.header)) (taken_to (code_with l.view.plan.now l.view.header) (cell_in l.lay l.view.header.n1 l.view.header.n2 l.sheet) l.at.cell))

abbrev pub decreases-loop-at : goal.decreases-loop-at
decreases-loop-at l = (l.view.header.n1 * l.view.header.n2 + l.view.header.n1 + 1) - (l.at.cell + l.at.row)
