-- `payload::transfer::put` meets its contract. The invariant: the data of the cells before the cursor is put, and nothing else. Assumes nothing.
use mathlib.Core.Path.{◌≡◌}
use mathlib.Core.List.{List}
use Prim.Native.Nat.{ℕ, ◌+◌, ◌-◌, ◌*◌}
use Rattle.layout.specs.Cells.{cell_of}
use Rattle.layout.specs.Stored.{bytes_in}
use Rattle.boxcode.specs.Check.{Bits, data_size}
use Rattle.boxcode.specs.Syndrome.{Cells}
use Rattle.plan.specs.declared.header.Header.{Header}
use Rattle.plan.specs.Bytes.{code_with}
use Rattle.position.specs.Walk.{At}
use Rattle.payload.proofs.Progress.{put_to}
use Rattle.payload.proofs.transfer.put.Given as goal

-- the data, and what of it is put before cell number t, as cells
abbrev pub data_in : List ℕ → Header → List ℕ → Bits
data_in plan h bits d = cell_of (data_size (code_with plan h)) bits 0 d

abbrev pub cells_to : List ℕ → Header → List ℕ → ℕ → Cells
cells_to plan h bits t = put_to (code_with plan h) (data_in plan h bits) t

abbrev pub invariant-loop-at : goal.invariant-loop-at
invariant-loop-at l =
    (l.k ≡ data_size (code_with l.view.plan.now l.view.header)) × (l.n2 ≡ l.view.header.n2) × At (code_with l.view.plan.now l.view.header) l.at
    × (l.sheet ≡ bytes_in l.lay l.view.header.n1 l.view.header.n2 (cells_to l.view.plan.now l.view.header l.bits l.at.cell))

abbrev pub decreases-loop-at : goal.decreases-loop-at
decreases-loop-at l = (l.view.header.n1 * l.view.header.n2 + l.view.header.n1 + 1) - (l.at.cell + l.at.row)
