-- `mend::report::count_digits` meets its contract. Assumes nothing.
use native.Mathlib.Omega.{arith}
use Rattle.mend.proofs.FewFits.{shifted}
use Rattle.mend.proofs.Turns.{ones-digits}
use Rattle.mend.proofs.report.count_digits.Goals as goal

pub returns : goal.returns
returns c = rw (shifted c.args.n (omega arith)) (ones-digits c.args.x c.args.n)
