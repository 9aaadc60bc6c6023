-- `syndrome::gather::row_words` meets its contract. The invariant: the first k words are the first k entries of the row. Assumes nothing.
use Prim.Native.Nat.{◌+◌, ◌*◌}
use Rattle.plan.specs.Bytes.{row_entry_at}
use Rattle.syndrome.specs.Gather.{RowWords}
use Rattle.syndrome.proofs.gather.row_words.Given as goal

abbrev pub invariant-loop-k : goal.invariant-loop-k
invariant-loop-k l = RowWords (λ e. row_entry_at l.view.plan.now (l.i * l.view.header.b2 + e)) l.k l.words
