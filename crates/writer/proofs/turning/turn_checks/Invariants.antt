-- `writer::turning::turn_checks` meets its contract. The invariant: the first k check cells are turned over as asked. Assumes nothing.
use mathlib.Core.Path.{◌≡◌}
use Rattle.plan.specs.Bytes.{code_with}
use Rattle.writer.specs.Steps.{turned_to}
use Rattle.writer.proofs.turning.turn_checks.Given as goal

abbrev pub invariant-loop-k : goal.invariant-loop-k
invariant-loop-k l = l.sheet ≡ turned_to l.lay (code_with l.view.plan.now l.view.header) l.y l.k l.initial.sheet
