-- `maker::taking::take_cells` meets its contract. The invariant: what is held are the first rv + rh cells that are taken before row i.
-- Assumes nothing.
use Prim.Native.Nat.{◌*◌}
use Rattle.maker.specs.Taken.{HeldTo}
use Rattle.maker.proofs.taking.take_cells.Given as goal

abbrev pub invariant-loop-i : goal.invariant-loop-i
invariant-loop-i l = HeldTo l.h l.rows l.columns (l.i * l.h.n2) l.taken
