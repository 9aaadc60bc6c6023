-- `difference::differing_part` meets its contract: a refusal gives the empty part, and so do equal scans. Assumes nothing.
use mathlib.Core.Path.{sym, ap, ap₂, ◌∙◌}
use Prim.Native.Nat.{ℕ, ◌/◌}
use Rattle.layout.specs.Cells.{row_bytes}
use Rattle.plan.specs.declared.header.Header.{Header}
use Rattle.plan.specs.Bytes.{code_of}
use Rattle.plan.proofs.Framing.{same-header}
use Rattle.plan.proofs.Sequence.{turned-back}
use Rattle.buffers.proofs.Passing.{both_zero, checked-passes}
use Rattle.difference.specs.Difference.{row_part}
use Rattle.difference.proofs.Outcomes.{difference-refused, same_none, byte-part, byte_small}
use Rattle.difference.proofs.differing_part.Goals as goal

pub returns-in_default : goal.returns-in_default
returns-in_default c = sym (difference-refused _ _ _ (turned-back _ c.in_default.ensures.checked.verdict))

pub first_different-k-requires : goal.first_different-k-requires
first_different-k-requires c =
    let m = both_zero _ _ _ (checked-passes c.in-Ok.ensures.checked) in
    m.first_form.size ∙ sym m.second_form.size

pub returns-then-k-second : goal.returns-then-k-second
returns-then-k-second c =
    let m = both_zero _ _ _ (checked-passes c.in-Ok.ensures.checked) in
    sym (same_none _ _ _ m (sym c.first_different-k.ensures ∙ c.if-k-second.true))

pub row_part-requires : goal.row_part-requires
unfolding code_of
row_part-requires c =
    let m = both_zero _ _ _ (checked-passes c.in-Ok.ensures.checked) in
    rw (same-header c.in-Ok.accepted.view.framed c.in-Ok.ensures.view, c.first_different-k.ensures) (byte_small _ _ _ m)

pub returns : goal.returns
unfolding code_of
returns c =
    let m = both_zero _ _ _ (checked-passes c.in-Ok.ensures.checked) in
    let width = ap (λ (h : Header). h.n2) (same-header c.in-Ok.accepted.view.framed c.in-Ok.ensures.view) in
    c.row_part.ensures
    ∙ ap₂ (λ (n k : ℕ). row_part n (k / row_bytes n)) width c.first_different-k.ensures
    ∙ sym (byte-part _ _ _ m (λ e. c.if-k-second.false (c.first_different-k.ensures ∙ e)))
