-- `mend::strip::row_sum` meets its contract. The invariant: as many columns are summed as turns were made; t is the remainder of
-- the next, and at the place of its entry. Assumes nothing.
use mathlib.Core.Path.{◌≡◌}
use Prim.Native.Nat.{◌+◌, ◌*◌, ◌%◌}
use Rattle.gf2.specs.Sum.{xor_sum}
use Rattle.plan.specs.Table.{word_at}
use Rattle.mend.specs.Strip.{laid_cell}
use Rattle.mend.proofs.strip.row_sum.Given as goal

abbrev pub invariant-loop : goal.invariant-loop
invariant-loop l =
    (l.t ≡ (l.a + l.counter) % l.b2)
    × (l.at ≡ (l.a + l.counter) * l.b1 + l.u)
    × (l.sum ≡ xor_sum l.counter (laid_cell l.b1 l.b2 (word_at l.columns) l.u l.first l.a l.x))
