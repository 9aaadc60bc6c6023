-- `writer::writing::write` meets its contract: a refusal leaves the sheet, and where the checks pass all of it is written. Assumes nothing.
use mathlib.Core.Path.{◌≡◌, refl, sym, ap₂, ◌∙◌}
use Rattle.plan.specs.Bytes.{code_of}
use Rattle.plan.proofs.Framing.{same-header}
use Rattle.plan.proofs.Sequence.{turned-back, hands-on}
use Rattle.accept.proofs.Acceptance.{accepted-with}
use Rattle.buffers.proofs.Passing.{write-zero, checked-passes}
use Rattle.writer.specs.Write.{wrote, written_in}
use Rattle.writer.proofs.Outcomes.{write-refused, write_done}
use Rattle.writer.proofs.writing.write.Goals as goal

pub returns-in_err-accepted : goal.returns-in_err-accepted
returns-in_err-accepted c =
    let e = c.in_err-accepted.ensures.checked.verdict in
    rw (hands-on _ _ c.from_residual.ensures.1 e) (sym (write-refused _ _ _ _ (turned-back _ e)))

pub write_sheet-requires : goal.write_sheet-requires
unfolding code_of
write_sheet-requires c =
    let C = c.in_ok-accepted.ensures.checked in
    let L = (write-zero _ _ _ _ (checked-passes C)).lengths in
    let e = c.in_ok-accepted.ensures.view in
    rw (same-header c.in_ok-accepted.accepted.view.framed e, e)
    (record { unpacked = C.unpacked refl; bits_len = L.bits_size; sheet_len = L.sheet_len })

pub returns : goal.returns
unfolding code_of written_in
returns c =
    let C = c.in_ok-accepted.ensures.checked in
    let e = c.in_ok-accepted.ensures.view in
    let whole : let a = c.args in c.write_sheet.new.sheet ≡ written_in a.lay a.plan.now a.bits.now =
    rw (same-header c.in_ok-accepted.accepted.view.framed e, e) at c.write_sheet.ensures in
    ap₂ wrote C.verdict whole ∙ sym (write_done _ _ _ _ (checked-passes C))
