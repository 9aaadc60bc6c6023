-- `buffers::lent::data_length` meets its contract. Assumes nothing.
use mathlib.Core.Path.{◌∙◌}
use Rattle.buffers.specs.Buffers.{length_verdict}
use Rattle.buffers.proofs.lent.data_length.Goals as goal

pub returns : goal.returns
unfolding length_verdict
returns c = c.length_verdict.ensures ∙ rw c.data_bytes.ensures.0
