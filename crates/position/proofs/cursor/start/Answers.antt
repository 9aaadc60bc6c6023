-- `position::cursor::start` meets its contract. Assumes nothing.
use mathlib.Core.Path.{refl}
use native.Mathlib.Omega.{arith}
use Rattle.position.proofs.Before.{none_before}
use Rattle.position.proofs.Stand.{at-begin}
use Rattle.position.proofs.cursor.start.Goals as goal

pub row_ends-requires : goal.row_ends-requires
row_ends-requires c = let pre = c.requires in record { formed = pre.formed; row_le_n1 = omega arith; check_value = none_before _ }

pub returns : goal.returns
returns c = record { at = at-begin _ _ _ c.next_check.ensures c.row_ends.ensures; first = refl }
