-- `alter::altering::alter` meets its contract: a refusal leaves the sheet, and where the checks pass it is altered. Assumes nothing.
use mathlib.Core.Path.{◌≡◌, refl, sym, ap₂, ◌∙◌}
use Rattle.plan.specs.Bytes.{code_of}
use Rattle.plan.proofs.Framing.{same-header}
use Rattle.plan.proofs.Sequence.{passed, turned-back, hands-on}
use Rattle.accept.proofs.Acceptance.{accepted-with}
use Rattle.writer.specs.Write.{written_in}
use Rattle.alter.specs.Alter.{altered_bytes, altered}
use Rattle.alter.proofs.Passing.{alter-zero, alter-refused, alter-done}
use Rattle.alter.proofs.altering.alter.Goals as goal

pub returns-in_err-accepted : goal.returns-in_err-accepted
returns-in_err-accepted c =
    let e = c.in_err-accepted.ensures.told in
    rw (hands-on _ _ c.from_residual.ensures.1 e) (sym (alter-refused _ _ _ (turned-back _ e)))

pub alter_sheet-requires : goal.alter_sheet-requires
unfolding code_of
alter_sheet-requires c =
    let m = alter-zero _ _ _ (passed c.in_ok-accepted.ensures.told) in
    let e = c.in_ok-accepted.ensures.view in
    rw (same-header c.in_ok-accepted.accepted.view.framed e, e)
    (record { position_bound = m.below; right_form = m.right.form; belongs = m.belongs })

pub returns : goal.returns
unfolding altered_bytes code_of written_in
returns c =
    let t = c.in_ok-accepted.ensures.told in
    let e = c.in_ok-accepted.ensures.view in
    let whole : let a = c.args in c.alter_sheet.new.sheet ≡ altered_bytes a.plan.now a.sheet.now a.position =
    rw (same-header c.in_ok-accepted.accepted.view.framed e, e) at c.alter_sheet.ensures in
    ap₂ altered t whole ∙ sym (alter-done _ _ _ (passed t))
