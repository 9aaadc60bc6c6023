-- `buffers::lent::sums_length` meets its contract. Assumes nothing.
use Rattle.buffers.specs.Buffers.{length_verdict}
use Rattle.buffers.proofs.lent.sums_length.Goals as goal

pub returns : goal.returns
unfolding length_verdict
returns c = c.length_verdict.ensures
