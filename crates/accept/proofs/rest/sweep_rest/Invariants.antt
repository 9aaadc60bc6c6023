-- `accept::rest::sweep_rest` meets its contract. The invariant: the words from the end of the window up to k are as its basis leaves them.
-- Assumes nothing.
use Rattle.std.proofs.Common.{◌+◌, length, take}
use Rattle.gf2.specs.Swept.{swept}
use Rattle.plan.specs.Table.{word_at}
use Rattle.accept.proofs.Remains.{Filled}
use Rattle.accept.proofs.rest.sweep_rest.Given as goal

abbrev pub invariant-loop-k : goal.invariant-loop-k
invariant-loop-k l = Filled (λ x. swept (take l.taken l.members) (word_at l.words x)) (l.first + l.size) l.k (length l.words) l.rest
