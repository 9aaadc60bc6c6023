-- `buffers::lent::data_lengths` meets its contract: at most 64 times 45056 bytes. Assumes nothing.
use mathlib.Core.Path.{◌∙◌}
use native.Mathlib.Nat.{mul-le-mul}
use native.Mathlib.Omega.{arith}
use Rattle.buffers.specs.Buffers.{length_verdict}
use Rattle.buffers.proofs.lent.data_lengths.Goals as goal

pub overflow_mul-count : goal.overflow_mul-count
overflow_mul-count c = let m = mul-le-mul c.requires.count_bound c.data_bytes.ensures.1 in omega arith

pub returns : goal.returns
unfolding length_verdict
returns c = c.length_verdict.ensures ∙ rw c.data_bytes.ensures.0
