use mathlib.Core.Path.{sym}
use native.Mathlib.Omega.{arith}
use Rattle.finite.proofs.Search.{any_here, none_any}
use Rattle.mend.specs.Report.{any_of}
use Rattle.mend.proofs.Turns.{one-true}
use Rattle.mend.proofs.report.any_digit.Goals as goal

pub returns-then-digit-eq1 : goal.returns-then-digit-eq1
unfolding any_of
returns-then-digit-eq1 c =
    sym (any_here _ _ c.loop-l.l (omega arith) (one-true _ _ c.digit.ensures c.if-digit-eq1.true))

pub returns : goal.returns
unfolding any_of
returns c = sym (none_any _ _ (λ j l. c.loop-l.invariant j (omega arith)))
