-- `mend::report::past_line` meets its contract. The invariant: no line from k on has a cell. Assumes nothing.
use mathlib.Core.Path.{◌≡◌}
use Rattle.finite.specs.Search.{past_of}
use Rattle.mend.specs.Report.{line_has}
use Rattle.mend.proofs.report.past_line.Given as goal

abbrev pub invariant-loop-k : goal.invariant-loop-k
invariant-loop-k l = past_of l.lines (line_has l.x l.jump l.step l.count) ≡ past_of l.k (line_has l.x l.jump l.step l.count)
