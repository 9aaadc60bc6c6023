-- `transpose::turning::turn_over` meets its contract: a refusal leaves the target, and where the checks pass all of it is written. Assumes nothing.
use mathlib.Core.Path.{◌≡◌, sym, ap₂, ◌∙◌}
use Rattle.layout.proofs.Layouts.{in_size}
use Rattle.plan.specs.Bytes.{code_of}
use Rattle.plan.proofs.Framing.{same-header}
use Rattle.plan.proofs.Sequence.{turned-back, hands-on}
use Rattle.buffers.proofs.Passing.{transpose-zero, checked-passes}
use Rattle.transpose.specs.Transpose.{turned_sheet, turned_over}
use Rattle.transpose.proofs.Outcomes.{turn-refused, turn-done}
use Rattle.transpose.proofs.turning.turn_over.Goals as goal

pub returns-in_err-accepted : goal.returns-in_err-accepted
returns-in_err-accepted c =
    let e = c.in_err-accepted.ensures.checked.verdict in
    rw (hands-on _ _ c.from_residual.ensures.1 e) (sym (turn-refused _ _ _ _ (turned-back _ e)))

pub transpose_in-requires : goal.transpose_in-requires
unfolding code_of
transpose_in-requires c =
    let a = c.args in
    let m = transpose-zero _ _ _ _ (checked-passes c.in_ok-accepted.ensures.checked) in
    let F = m.accepted.formed in
    let size = in_size a.lay (code_of a.plan.now).n1 (code_of a.plan.now).n2 a.source.now m.form in
    rw (same-header c.in_ok-accepted.accepted.view.framed c.in_ok-accepted.ensures.view)
    (record { sizes = record { n1_most = F.n1_most; n2_most = F.n2_most }; source_len = size; target_len = m.target_size })

pub returns : goal.returns
unfolding code_of turned_sheet
returns c =
    let C = c.in_ok-accepted.ensures.checked in
    let whole : let a = c.args in c.transpose_in.new.target ≡ turned_sheet a.lay a.plan.now a.source.now =
    rw (same-header c.in_ok-accepted.accepted.view.framed c.in_ok-accepted.ensures.view) at c.transpose_in.ensures in
    ap₂ turned_over C.verdict whole ∙ sym (turn-done _ _ _ _ (checked-passes C))
