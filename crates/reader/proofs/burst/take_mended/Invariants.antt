-- `reader::burst::take_mended` meets its contract. The invariant: the data of the sheet with the first k digits turned over. Assumes nothing.
use mathlib.Core.Path.{◌≡◌}
use Rattle.layout.specs.Cells.{cell_of}
use Rattle.layout.specs.declared.stored.Layout.TheVariants.{ByRow}
use Rattle.plan.specs.Bytes.{code_with}
use Rattle.payload.specs.Packed.{packed_data}
use Rattle.reader.specs.Turn.{digits_turned}
use Rattle.reader.proofs.burst.take_mended.Given as goal

abbrev pub invariant-loop-k : goal.invariant-loop-k
invariant-loop-k l =
    let s = digits_turned ByRow l.accepted.view.header.n1 l.accepted.view.header.n2 l.sheet l.top l.left l.accepted.view.header.b2 l.pattern l.k in
    l.bits ≡ packed_data (code_with l.accepted.view.plan.now l.accepted.view.header) (cell_of l.accepted.view.header.n2 s)
