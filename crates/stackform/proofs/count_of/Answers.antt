-- `stackform::count_of` meets its contract: the number at the stack's first byte. Assumes nothing.
use Rattle.stackform.specs.Stack.{sheet_count}
use Rattle.stackform.proofs.count_of.Goals as goal

pub returns : goal.returns
unfolding sheet_count
returns c = (c.u16_at.ensures.value, c.u16_at.ensures.below)
