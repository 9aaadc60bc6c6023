-- `mend::strip::laid_sum` meets its contract. The invariant: as many rows are summed as turns were made; u is the remainder of the
-- next, and its digits begin at first. Assumes nothing.
use mathlib.Core.Path.{◌≡◌}
use Prim.Native.Nat.{◌+◌, ◌*◌, ◌%◌}
use Rattle.gf2.specs.Sum.{xor_sum}
use Rattle.plan.specs.Table.{word_at}
use Rattle.mend.specs.Strip.{laid_line}
use Rattle.mend.proofs.strip.laid_sum.Given as goal

abbrev pub invariant-loop : goal.invariant-loop
invariant-loop l =
    (l.u ≡ (l.i + l.counter) % l.b1)
    × (l.first ≡ l.counter * l.b2)
    × (l.sum ≡ xor_sum l.counter (laid_line l.b1 l.b2 (word_at l.columns) l.i l.a l.x))
