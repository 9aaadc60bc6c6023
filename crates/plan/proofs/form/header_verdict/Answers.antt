-- `plan::form::header_verdict` meets its contract: check 1, then the fields; the header that they were asked of goes into the view.
-- Assumes nothing.
use mathlib.Core.Path.{◌∙◌}
use borrow.Author.Tests.{lt-ltb, le-ltb}
use Rattle.plan.specs.Verdict.{◌or_else◌}
use Rattle.plan.specs.Form.{header_verdict}
use Rattle.plan.proofs.Sequence.{passed, told-err}
use Rattle.plan.proofs.Framing.{fields-framed}
use Rattle.plan.proofs.form.header_verdict.Goals as goal

pub returns-then-plan-lt-LENGTH-clause-told : goal.returns-then-plan-lt-LENGTH-clause-told
unfolding header_verdict ◌or_else◌
returns-then-plan-lt-LENGTH-clause-told c = rw (lt-ltb _ _ c.if-plan-lt-LENGTH.true)

pub returns-in_err-fields_verdict-clause-told : goal.returns-in_err-fields_verdict-clause-told
unfolding header_verdict ◌or_else◌
returns-in_err-fields_verdict-clause-told c =
    let s = told-err _ _ c.from_residual.ensures.1 in
    rw (le-ltb _ _ c.if-plan-lt-LENGTH.false, ← c.header_of-header.ensures) (s ∙ c.in_err-fields_verdict.ensures)

pub invariant_of-result : goal.invariant_of-result
invariant_of-result c = record { framed = rw c.header_of-header.ensures (fields-framed _ (passed (rw c.header_of-header.ensures at c.in_ok-fields_verdict.ensures))) }

pub returns-clause-told : goal.returns-clause-told
unfolding header_verdict ◌or_else◌
returns-clause-told c = rw (le-ltb _ _ c.if-plan-lt-LENGTH.false, ← c.header_of-header.ensures) c.in_ok-fields_verdict.ensures
