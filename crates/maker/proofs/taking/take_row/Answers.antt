use mathlib.Core.Path.{sym, ap, ◌∙◌}
use Prim.Native.Nat.{◌*◌, ◌<◌}
use native.Mathlib.Nat.{add_assoc, mod-add-mod}
use native.Mathlib.Omega.{arith}
use lib.ListN.{take}
use Rattle.gf2.specs.Swept.{swept}
use Rattle.gf2.proofs.Taking.{taking-full}
use Rattle.maker.proofs.Cells.{cell-joint, taken_step, next_row}
use Rattle.maker.proofs.taking.take_row.Goals as goal

pub loop-j-preserved : goal.loop-j-preserved
loop-j-preserved c =
    let a = c.args in
    let l = c.loop-j in
    let room : l.count < 64 = omega arith in
    let e = c.joint-entry.ensures ∙ sym (cell-joint _ a.i l.j c.loop-j-test.true) in (
      c.after-along.ensures ∙ rw l.invariant.0 (mod-add-mod l.j a.h.b2 1),
      rw (← add_assoc (a.i * a.h.n2) l.j 1, c.more_taken-count.ensures.0)
          (taken_step _ _ _ _ _ _ l.invariant.1 _ c.if-wanted-count.false room (c.sweep-left.ensures ∙ ap (swept (take l.count l.words)) e)),
    )

pub returns-then-wanted-count : goal.returns-then-wanted-count
returns-then-wanted-count c =
    taking-full _ _ _ _ _ _ c.loop-j.invariant.1 c.if-wanted-count.true _ (omega (arith, next_row c.args.i c.args.h.n2))
