-- `answer::pack_part` meets its contract: start and length are in range, so the sum does not wrap. Assumes nothing.
use mathlib.Core.Path.{refl}
use Rattle.answer.specs.Answer.{packed_part}
use Rattle.answer.proofs.pack_part.Goals as goal

pub returns : goal.returns
unfolding packed_part
returns c = refl
