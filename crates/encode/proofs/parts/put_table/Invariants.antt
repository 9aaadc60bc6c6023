-- `encode::parts::put_table` meets its contract. The invariant: the first k words are written. Assumes nothing.
use mathlib.Core.Path.{◌≡◌}
use Rattle.layout.specs.Number.{overwritten}
use Rattle.plan.specs.Table.{word_at}
use Rattle.encode.specs.Encode.{table_bytes}
use Rattle.encode.proofs.parts.put_table.Given as goal

abbrev pub invariant-loop-k : goal.invariant-loop-k
invariant-loop-k l = l.plan ≡ overwritten l.initial.plan l.at (table_bytes l.k (word_at l.words))
