-- `accept::rest::differ_block` meets its contract. The invariant: the words before k + at are done. Assumes nothing.
use Rattle.plan.specs.Table.{word_at}
use Rattle.accept.specs.Windows.{Block}
use Rattle.accept.proofs.rest.differ_block.Given as goal

abbrev pub invariant-loop-at : goal.invariant-loop-at
invariant-loop-at l = Block (word_at l.words) l.first l.k l.at l.initial.rest l.rest
