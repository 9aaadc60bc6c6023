-- `runsums::sum_run` meets its contract: a refusal leaves the buffer, and where the checks pass the two sums fill it. Assumes nothing.
use mathlib.Core.Path.{◌≡◌, refl, sym, ap₂, ◌∙◌}
use mathlib.Core.List.{◌++◌}
use Prim.Native.Nat.{ℕ}
use Rattle.layout.specs.Number.{low_bytes}
use Rattle.layout.specs.Cells.{cell_of}
use Rattle.plan.specs.Bytes.{code_with, code_of}
use Rattle.plan.proofs.Framing.{same-header}
use Rattle.plan.proofs.Sequence.{turned-back, hands-on}
use Rattle.syndrome.specs.Gather.{RunSums}
use Rattle.buffers.proofs.Passing.{sum-zero, checked-passes}
use Rattle.runsums.specs.RunSums.{run_bytes, summed}
use Rattle.runsums.proofs.Outcomes.{sum-refused, sum_done}
use Rattle.runsums.proofs.sum_run.Goals as goal

pub returns-in_err-accepted : goal.returns-in_err-accepted
returns-in_err-accepted c =
    let e = c.in_err-accepted.ensures.checked.verdict in
    rw (hands-on _ _ c.from_residual.ensures.1 e) (sym (sum-refused _ _ _ _ _ (turned-back _ e)))

pub sums-requires : goal.sums-requires
unfolding code_of
sums-requires c =
    let C = c.in_ok-accepted.ensures.checked in
    let m = (sum-zero _ _ _ (checked-passes C)).right in
    let e = c.in_ok-accepted.ensures.view in
    rw (same-header c.in_ok-accepted.accepted.view.framed e, e) (record { unpacked = C.unpacked refl; sheet_len = m.form.size })

pub put_sums-requires : goal.put_sums-requires
put_sums-requires c = (sum-zero _ _ _ (checked-passes c.in_ok-accepted.ensures.checked)).room

pub returns : goal.returns
unfolding code_of run_bytes
returns c =
    let C = c.in_ok-accepted.ensures.checked in
    let e = c.in_ok-accepted.ensures.view in
    let v = c.in_ok-accepted.accepted.view in
    let filled : let a = c.args in c.put_sums.new.room ≡ run_bytes (code_of a.plan.now) a.first a.past a.sheet.now =
    let s : RunSums (code_with v.plan.now v.header) (cell_of v.header.n2 c.args.sheet.now) c.args.first c.args.past c.sums.result = c.sums.ensures in
    rw (same-header v.framed e, e)
    at (c.put_sums.ensures ∙ ap₂ (λ (v h : ℕ). low_bytes 4 v ++ low_bytes 4 h) s.row s.column) in
    ap₂ summed C.verdict filled ∙ sym (sum_done _ _ _ _ _ (checked-passes C))
