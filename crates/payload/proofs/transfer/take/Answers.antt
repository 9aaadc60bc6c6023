use mathlib.Core.Path.{refl, sym, ap, ◌∙◌}
use native.Mathlib.Omega.{arith}
use lib.ListN.{length}
use Rattle.layout.proofs.Form.{bytes-form, row-sheet}
use Rattle.boxcode.specs.Check.{data_size}
use Rattle.boxcode.proofs.Check.{sheet-cells, checks-fit}
use Rattle.position.proofs.Stand.{at_most, at_ahead, past_end}
use Rattle.payload.proofs.Run.{reaches}
use Rattle.payload.proofs.Progress.{take-first, take_step, take_all}
use Rattle.payload.proofs.transfer.take.Goals as goal

pub overflow_mul-k : goal.overflow_mul-k
overflow_mul-k c = let s = c.args.view.framed.small in omega (arith, sheet-cells s.n1_most s.n2_most)

pub overflow_add-k : goal.overflow_add-k
overflow_add-k c = omega arith

pub overflow_sub-k : goal.overflow_sub-k
overflow_sub-k c = checks-fit _ c.requires.formed

pub clear-requires : goal.clear-requires
clear-requires c = tt

pub start-at-requires : goal.start-at-requires
start-at-requires c = let pre = c.requires in record { formed = pre.formed }

pub loop-at-init : goal.loop-at-init
unfolding data_size
loop-at-init c =
    let pre = c.requires in (
      refl,
      refl,
      c.start-at.ensures.at,
      c.clear.ensures
          ∙ rw (pre.bits_len, ← row-sheet (data_size _), c.start-at.ensures.first) (take-first _ pre.formed _),
    )

pub run-len-requires : goal.run-len-requires
run-len-requires c =
    let pre = c.requires in
    let v = c.loop-at.invariant in
    (at_ahead _ pre.formed _ v.2 (omega arith), v.2.column_most)

pub take_run-requires : goal.take_run-requires
take_run-requires c =
    let pre = c.requires in
    let v = c.loop-at.invariant in
    let b = ap length v.3 ∙ (bytes-form _ _ _).size ∙ row-sheet _ in
    reaches _ _ pre.formed _ v.2 (omega arith) _ _ _ _ _ v.0 b refl pre.sheet_len c.run-len.ensures

pub step-at-requires : goal.step-at-requires
step-at-requires c =
    let pre = c.requires in
    record { formed = pre.formed; at = c.loop-at.invariant.2; row_lt_n1 = omega arith; len_value = c.run-len.ensures }

pub loop-at-smaller : goal.loop-at-smaller
loop-at-smaller c =
    let pre = c.requires in
    let l = at_most _ pre.formed _ c.loop-at.invariant.2 (omega arith) in
    let o = c.step-at.ensures.on in
    omega arith

pub loop-at-preserved : goal.loop-at-preserved
loop-at-preserved c =
    let pre = c.requires in
    let v = c.loop-at.invariant in
    let w = c.step-at.ensures in (
      v.0,
      refl,
      w.at,
      take_step _ pre.formed _ v.2 (omega arith) _ w _ _ _ v.0 refl c.run-len.ensures _ _ _ _ v.3 c.take_run.ensures,
    )

pub shape_of-bits : goal.shape_of-bits
shape_of-bits c =
    let pre = c.requires in
    ap length c.loop-at.invariant.3 ∙ (bytes-form _ _ _).size ∙ row-sheet _ ∙ sym pre.bits_len

pub returns : goal.returns
returns c =
    let pre = c.requires in
    let v = c.loop-at.invariant in
    v.3 ∙ take_all _ pre.formed _ _ (past_end _ _ v.2 (omega arith))
