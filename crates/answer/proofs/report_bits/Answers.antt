-- `answer::report_bits` meets its contract: the six numbers are in range, so no sum wraps. Assumes nothing.
use mathlib.Core.Path.{refl}
use Rattle.answer.specs.Answer.{report_bits}
use Rattle.answer.proofs.report_bits.Goals as goal

pub returns : goal.returns
unfolding report_bits
returns c = refl
