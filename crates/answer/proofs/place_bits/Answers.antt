-- `answer::place_bits` meets its contract: the places are in range, so the sum does not wrap. Assumes nothing.
use mathlib.Core.Path.{refl}
use Rattle.answer.specs.Answer.{place_bits}
use Rattle.answer.proofs.place_bits.Goals as goal

pub returns : goal.returns
unfolding place_bits
returns c = refl
