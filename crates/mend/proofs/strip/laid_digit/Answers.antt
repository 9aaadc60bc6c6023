-- `mend::strip::laid_digit` meets its contract. Assumes nothing.
use Rattle.mend.specs.Strip.{laid_digit}
use Rattle.mend.proofs.Turns.{bit-value}
use Rattle.mend.proofs.strip.laid_digit.Goals as goal

pub returns : goal.returns
unfolding laid_digit
returns c = bit-value _ _
