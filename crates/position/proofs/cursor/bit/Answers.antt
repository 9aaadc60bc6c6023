-- `position::cursor::bit` meets its contract. Assumes nothing.
use native.Mathlib.Omega.{arith}
use Rattle.position.proofs.Order.{bit-down, bit_up}
use Rattle.position.proofs.cursor.bit.Goals as goal

pub returns-then-row-eq1 : goal.returns-then-row-eq1
returns-then-row-eq1 c = bit-down _ _ _ _ (omega arith) (omega arith)

pub returns : goal.returns
returns c = bit_up _ _ _ (omega arith)
