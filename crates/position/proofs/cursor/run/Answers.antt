-- `position::cursor::run` meets its contract. Assumes nothing.
use native.Mathlib.Omega.{arith}
use Rattle.position.specs.Walk.{run_length}
use Rattle.position.proofs.cursor.run.Goals as goal

pub returns : goal.returns
unfolding run_length
returns c = omega arith
