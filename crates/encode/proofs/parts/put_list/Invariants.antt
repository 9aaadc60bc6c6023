-- `encode::parts::put_list` meets its contract. The invariant: the first k pairs are written. Assumes nothing.
use mathlib.Core.Path.{◌≡◌}
use Prim.Native.Nat.{◌/◌, ◌%◌}
use Rattle.layout.specs.Number.{overwritten}
use Rattle.plan.specs.Table.{word_at}
use Rattle.encode.specs.Encode.{list_bytes}
use Rattle.encode.proofs.parts.put_list.Given as goal

abbrev pub invariant-loop-k : goal.invariant-loop-k
invariant-loop-k l = l.plan ≡ overwritten l.initial.plan l.at (list_bytes l.k (λ j. word_at l.cells j / l.n2) (λ j. word_at l.cells j % l.n2))
