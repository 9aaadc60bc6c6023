use mathlib.Core.Path.{◌≡◌, sym, ◌∙◌}
use Prim.Native.Nat.{◌+◌}
use native.Mathlib.Omega.{arith}
use Rattle.position.proofs.Before.{up-to-first, up-to-next, up-to-last, up-to-end}
use Rattle.position.proofs.cursor.checks_before.Goals as goal

pub loop-q-init : goal.loop-q-init
loop-q-init c = let pre = c.requires in up-to-first _ pre.formed _ _ pre.known_bound

pub returns-then-t-next_check : goal.returns-then-t-next_check
returns-then-t-next_check c = up-to-last _ c.requires.formed _ _ _ c.loop-q.invariant c.next_check.ensures (omega arith)

pub loop-q-preserved : goal.loop-q-preserved
loop-q-preserved c = up-to-next _ _ _ _ _ c.loop-q.invariant (omega arith) c.next_check.ensures (omega arith) (omega arith)

pub returns : goal.returns
returns c =
    let e : c.loop-q.q ≡ c.args.view.header.rv + c.args.view.header.rh = omega (arith, c.loop-q.invariant.most) in
    sym e ∙ up-to-end _ c.requires.formed _ _ c.loop-q.invariant (omega arith)
