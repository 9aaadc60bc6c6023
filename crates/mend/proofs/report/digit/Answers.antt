-- `mend::report::digit` meets its contract. Assumes nothing.
use Rattle.mend.proofs.Turns.{bit-value}
use Rattle.mend.proofs.report.digit.Goals as goal

pub returns : goal.returns
returns c = bit-value _ _
