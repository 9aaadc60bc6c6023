-- `putback::putting::put_back` meets its contract: a refusal leaves the sheet, and where the checks pass the burst is turned over. Assumes nothing.
use mathlib.Core.Path.{◌≡◌, refl, sym, ap₂, ◌∙◌}
use Rattle.plan.specs.Bytes.{code_of}
use Rattle.plan.proofs.Framing.{same-header}
use Rattle.plan.proofs.Sequence.{passed, turned-back, hands-on}
use Rattle.accept.proofs.Acceptance.{accepted-with}
use Rattle.putback.specs.PutBack.{back_bytes, left_back}
use Rattle.putback.proofs.Passing.{back-zero, back-refused, back_done}
use Rattle.putback.proofs.putting.put_back.Goals as goal

pub returns-in_err-accepted : goal.returns-in_err-accepted
returns-in_err-accepted c =
    let e = c.in_err-accepted.ensures.told in
    rw (hands-on _ _ c.from_residual.ensures.1 e) (sym (back-refused _ _ _ (turned-back _ e)))

pub turn_told-requires : goal.turn_told-requires
unfolding code_of
turn_told-requires c =
    let m = back-zero _ _ _ (passed c.in_ok-accepted.ensures.told) in
    let e = c.in_ok-accepted.ensures.view in
    rw (same-header c.in_ok-accepted.accepted.view.framed e, e)
    (record { right_form = m.right.form; answer_value = m.burst })

pub returns : goal.returns
unfolding code_of
returns c =
    let t = c.in_ok-accepted.ensures.told in
    let e = c.in_ok-accepted.ensures.view in
    let whole : let a = c.args in c.turn_told.new.sheet ≡ back_bytes (code_of a.plan.now) a.sheet.now a.answer =
    rw (same-header c.in_ok-accepted.accepted.view.framed e, e) at c.turn_told.ensures in
    ap₂ left_back t whole ∙ sym (back_done _ _ _ (passed t))
