-- `syndrome::gather::sums` meets its contract. The invariant is 02 b)'s sentence: what is held is the two sums of the rows fed so far. Assumes nothing.
use Rattle.layout.specs.Cells.{cell_of}
use Rattle.plan.specs.Bytes.{code_with}
use Rattle.syndrome.specs.Gather.{Fed}
use Rattle.syndrome.proofs.gather.sums.Given as goal

abbrev pub invariant-loop-k : goal.invariant-loop-k
invariant-loop-k l = Fed (code_with l.view.plan.now l.view.header) (cell_of l.view.header.n2 l.sheet) l.run l.k l.held
