-- `layout::number::u16_at` meets its contract: std's number of two bytes is the one of specs/. Assumes nothing.
use Rattle.std.proofs.Common.{arith}
use Rattle.layout.specs.Number.{u16_at}
use Rattle.layout.proofs.number.u16_at.Goals as goal

pub returns : goal.returns
unfolding u16_at
returns c = record { value = omega arith; below = omega arith }
