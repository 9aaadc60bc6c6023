use mathlib.Core.Path.{◌≡◌, sym, ◌∙◌}
use native.Mathlib.Omega.{arith}
use Rattle.finite.specs.Search.{past_of}
use Rattle.mend.specs.Report.{line_has}
use Rattle.mend.proofs.Turns.{past-here, past-before}
use Rattle.mend.proofs.report.past_line.Goals as goal

pub returns-then-any_digit : goal.returns-then-any_digit
unfolding line_has
returns-then-any_digit c =
    omega arith ∙ past-here c.loop-k.k _ (omega arith) (sym c.any_digit.ensures ∙ c.if-any_digit.true) ∙ sym c.loop-k.invariant

pub loop-k-preserved : goal.loop-k-preserved
unfolding line_has
loop-k-preserved c = c.loop-k.invariant ∙ past-before _ _ (omega arith) (sym c.any_digit.ensures ∙ c.if-any_digit.false)

pub returns : goal.returns
unfolding past_of
returns c = let e : c.loop-k.k ≡ 0 = omega arith in sym (rw e at c.loop-k.invariant)
