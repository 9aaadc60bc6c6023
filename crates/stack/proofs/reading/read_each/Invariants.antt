-- `stack::reading::read_each` meets its contract: after i rounds the first i sheets are read, and no other byte is changed. Assumes nothing.
use mathlib.Core.Path.{◌≡◌}
use Rattle.plan.specs.Bytes.{code_with}
use Rattle.stack.specs.ReadStack.{lent}
use Rattle.stack.specs.Step.{partly}
use Rattle.stack.proofs.reading.read_each.Given as goal

abbrev pub invariant-loop-i : goal.invariant-loop-i
invariant-loop-i l = lent l.stack l.numbers l.bits ≡ partly l.accepted.view.plan.now (code_with l.accepted.view.plan.now l.accepted.view.header) l.count l.i (lent l.initial.stack l.initial.numbers l.initial.bits)
