use mathlib.Core.Path.{sym, ◌∙◌}
use native.Mathlib.Omega.{arith}
use borrow.Author.Count.{below_more}
use Rattle.finite.proofs.Search.{none_any, first-none}
use Rattle.mend.specs.Report.{line_has}
use Rattle.mend.proofs.Turns.{first_found}
use Rattle.mend.proofs.report.first_line.Goals as goal

pub returns-then-any_digit : goal.returns-then-any_digit
unfolding line_has
returns-then-any_digit c = first_found _ _ _ c.loop-k-test.true c.loop-k.invariant (sym c.any_digit.ensures ∙ c.if-any_digit.true)

pub loop-k-preserved : goal.loop-k-preserved
unfolding line_has
loop-k-preserved c = below_more _ _ c.loop-k.invariant (sym c.any_digit.ensures ∙ c.if-any_digit.false)

pub returns : goal.returns
returns c = sym (first-none _ _ (none_any _ _ (λ j l. c.loop-k.invariant j (omega arith))))
