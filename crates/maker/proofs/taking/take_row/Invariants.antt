-- `maker::taking::take_row` meets its contract. The invariant: of the cells before row i and the first j of that row, what is held are the
-- first rv + rh that are taken. Assumes nothing.
use mathlib.Core.Path.{◌≡◌}
use Prim.Native.Nat.{◌+◌, ◌*◌, ◌%◌}
use Rattle.plan.specs.Table.{word_at}
use Rattle.gf2.specs.Taking.{TakenIn}
use Rattle.maker.specs.Taken.{bare_code, cell_joint}
use Rattle.maker.proofs.taking.take_row.Given as goal

abbrev pub invariant-loop-j : goal.invariant-loop-j
invariant-loop-j l =
    (l.along ≡ l.j % l.h.b2)
    × TakenIn (cell_joint (bare_code l.h (word_at l.rows) (word_at l.columns))) (l.h.rv + l.h.rh) (l.i * l.h.n2 + l.j) l.words l.cells l.count
