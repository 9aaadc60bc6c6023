-- `scans::reading::read_two` meets its contract: what writes is reached only where checks 1 to 13 pass. Assumes nothing.
use mathlib.Core.Path.{refl, ap, ◌∙◌}
use Rattle.layout.specs.declared.stored.Layout.TheVariants.{ByRow}
use Rattle.boxcode.specs.Code.{Code}
use Rattle.plan.specs.Bytes.{code_of, code_with}
use Rattle.plan.proofs.Framing.{same-header, same-code}
use Rattle.plan.proofs.Sequence.{turned-back, hands-on}
use Rattle.accept.proofs.Acceptance.{accepted-with}
use Rattle.buffers.proofs.Passing.{two-zero, checked-passes}
use Rattle.reader.specs.Read.{mend_outcome}
use Rattle.scans.specs.ReadTwo.{decide}
use Rattle.scans.proofs.Decided.{two-refuses, two-decides}
use Rattle.scans.proofs.reading.read_two.Goals as goal

pub returns-in_err-accepted : goal.returns-in_err-accepted
returns-in_err-accepted c =
    let e = c.in_err-accepted.ensures.checked.verdict in
    rw (hands-on _ _ c.from_residual.ensures.1 e) (two-refuses _ _ _ _ (turned-back _ e))

pub read_scans-requires : goal.read_scans-requires
unfolding code_of
read_scans-requires c =
    let C = c.in_ok-accepted.ensures.checked in
    let R = two-zero _ _ _ _ (checked-passes C) in
    let e = c.in_ok-accepted.ensures.view in
    rw (same-header c.in_ok-accepted.accepted.view.framed e, e)
    (record {
      unpacked = C.unpacked refl;
      right_form = R.both.first_form;
      right_form_2 = R.both.second_form;
      bits_len = R.bits_size;
    })

pub returns : goal.returns
returns c =
    let a = c.args in
    let e = same-code c.in_ok-accepted.accepted.view.framed c.in_ok-accepted.ensures.view in
    c.read_scans.ensures
    ∙ ap (λ (k : Code). decide (mend_outcome ByRow k a.first.now a.bits.now) (mend_outcome ByRow k a.second.now a.bits.now) a.bits.now) e
    ∙ two-decides a.plan.now a.first.now a.second.now a.bits.now (checked-passes c.in_ok-accepted.ensures.checked)
