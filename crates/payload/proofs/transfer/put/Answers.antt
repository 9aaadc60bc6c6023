use mathlib.Core.Path.{refl, sym, ap, ◌∙◌}
use native.Mathlib.Omega.{arith}
use lib.ListN.{length}
use Rattle.layout.proofs.Layouts.{bytes-size}
use Rattle.boxcode.specs.Check.{data_size}
use Rattle.boxcode.proofs.Check.{sheet-cells, checks-fit}
use Rattle.plan.specs.Bytes.{code_with}
use Rattle.position.proofs.Stand.{at_most, at_ahead, past_end}
use Rattle.payload.proofs.Run.{reaches}
use Rattle.payload.proofs.Progress.{put_first, put_step, put_all}
use Rattle.payload.proofs.transfer.put.Invariants.{data_in, cells_to}
use Rattle.payload.proofs.transfer.put.Goals as goal

pub overflow_mul-k : goal.overflow_mul-k
overflow_mul-k c = let s = c.args.view.framed.small in omega (arith, sheet-cells s.n1_most s.n2_most)

pub overflow_add-k : goal.overflow_add-k
overflow_add-k c = omega arith

pub overflow_sub-k : goal.overflow_sub-k
overflow_sub-k c = checks-fit _ c.requires.formed

pub clear-requires : goal.clear-requires
clear-requires c = tt

pub start-at-requires : goal.start-at-requires
start-at-requires c = let pre = c.requires in record { formed = pre.formed }

pub loop-at-init : goal.loop-at-init
unfolding data_size
loop-at-init c =
    let a = c.args in (
      refl,
      refl,
      c.start-at.ensures.at,
      c.clear.ensures
          ∙ rw (c.requires.sheet_len, c.start-at.ensures.first) (put_first a.lay (code_with a.view.plan.now a.view.header) _),
    )

pub run-len-requires : goal.run-len-requires
run-len-requires c =
    let pre = c.requires in
    let v = c.loop-at.invariant in
    (at_ahead _ pre.formed _ v.2 (omega arith), v.2.column_most)

pub put_run-requires : goal.put_run-requires
put_run-requires c =
    let a = c.args in
    let pre = c.requires in
    let l = c.loop-at in
    let v = l.invariant in
    let s = ap length v.3 ∙ bytes-size a.lay a.view.header.n1 a.view.header.n2 (cells_to a.view.plan.now a.view.header a.bits.now l.at.cell) in
    reaches a.lay (code_with a.view.plan.now a.view.header) pre.formed _ v.2 (omega arith) _ _ _ _ _ v.0 pre.bits_len refl s c.run-len.ensures

pub step-at-requires : goal.step-at-requires
step-at-requires c =
    let pre = c.requires in
    record { formed = pre.formed; at = c.loop-at.invariant.2; row_lt_n1 = omega arith; len_value = c.run-len.ensures }

pub loop-at-smaller : goal.loop-at-smaller
loop-at-smaller c =
    let pre = c.requires in
    let l = at_most _ pre.formed _ c.loop-at.invariant.2 (omega arith) in
    let o = c.step-at.ensures.on in
    omega arith

pub loop-at-preserved : goal.loop-at-preserved
loop-at-preserved c =
    let pre = c.requires in
    let v = c.loop-at.invariant in
    let w = c.step-at.ensures in (
      v.0,
      refl,
      w.at,
      put_step _ pre.formed _ v.2 (omega arith) _ w _ _ _ v.0 refl c.run-len.ensures _ _ _ _ v.3 c.put_run.ensures,
    )

pub shape_of-sheet : goal.shape_of-sheet
shape_of-sheet c =
    let a = c.args in
    let l = c.loop-at in
    ap length l.invariant.3 ∙ bytes-size a.lay a.view.header.n1 a.view.header.n2 (cells_to a.view.plan.now a.view.header a.bits.now l.at.cell) ∙ sym c.requires.sheet_len

pub returns : goal.returns
returns c =
    let a = c.args in
    let v = c.loop-at.invariant in
    v.3 ∙ put_all a.lay (code_with a.view.plan.now a.view.header) (data_in a.view.plan.now a.view.header a.bits.now) _ (past_end _ _ v.2 (omega arith))
