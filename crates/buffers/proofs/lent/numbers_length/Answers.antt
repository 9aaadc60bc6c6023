-- `buffers::lent::numbers_length` meets its contract. Assumes nothing.
use Rattle.buffers.specs.Buffers.{length_verdict}
use Rattle.buffers.proofs.lent.numbers_length.Goals as goal

pub returns : goal.returns
unfolding length_verdict
returns c = c.length_verdict.ensures
