-- `buffers::lent::unused_verdict` meets its contract. Assumes nothing.
use Rattle.buffers.specs.Buffers.{unused_verdict}
use Rattle.buffers.proofs.lent.unused_verdict.Goals as goal

pub returns : goal.returns
unfolding unused_verdict
returns c = rw (← c.requires.s_len, ← c.first_unused_in-k.ensures) c.refuse_if.ensures
