-- `syndrome::gather::byte_sums` meets its contract. The invariant: the walk stands after t cells. Assumes nothing.
use Rattle.syndrome.proofs.Part.{Walk}
use Rattle.syndrome.proofs.gather.byte_sums.Given as goal

abbrev pub invariant-loop-t : goal.invariant-loop-t
invariant-loop-t l = Walk l.x l.j l.b1 l.b2 l.q l.rows l.columns l.rest l.place l.k l.row l.column l._t
