-- `payload::held::turn_bit_if` meets its contract. Assumes nothing.
use Rattle.payload.proofs.held.turn_bit_if.Goals as goal

pub returns-then-not-asked : goal.returns-then-not-asked
returns-then-not-asked c = rw c.if-not-asked.true

pub returns : goal.returns
returns c = rw c.if-not-asked.false c.turn_bit.ensures
