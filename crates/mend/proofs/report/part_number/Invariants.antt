-- `mend::report::part_number` meets its contract. The invariant: y has the digits from k on. Assumes nothing.
use mathlib.Core.Path.{◌≡◌}
use Prim.Native.Nat.{◌*◌}
use Rattle.mend.specs.Report.{part_digit}
use Rattle.mend.proofs.Turns.{digits_from}
use Rattle.mend.proofs.report.part_number.Given as goal

abbrev pub invariant-loop-k : goal.invariant-loop-k
invariant-loop-k l = l.y ≡ digits_from (l.height * l.width) l.k (part_digit l.b2 l.row l.column l.width l.x)
