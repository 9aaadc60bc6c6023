use mathlib.Core.Path.{◌≡◌}
use Prim.Native.Nat.{◌+◌}
use native.Mathlib.Omega.{arith}
use Rattle.position.proofs.Before.{up-to-next}
use Rattle.position.proofs.Placed.{count_most, follows-here, follows-past}
use Rattle.position.proofs.find.data_after.Goals as goal

pub overflow_add-t : goal.overflow_add-t
overflow_add-t c =
    let p = c.requires in
    omega (arith, count_most _ p.formed _ p.count_bound)

pub returns-then-t-next_check : goal.returns-then-t-next_check
returns-then-t-next_check c =
    let p = c.requires in
    follows-here _ p.formed _ p.count_bound _ _ c.loop-q.invariant c.next_check.ensures (omega arith)

pub loop-q-preserved : goal.loop-q-preserved
loop-q-preserved c = up-to-next _ _ _ _ _ c.loop-q.invariant (omega arith) c.next_check.ensures (omega arith) (omega arith)

pub overflow_add-result : goal.overflow_add-result
overflow_add-result c =
    let p = c.requires in
    omega (arith, count_most _ p.formed _ p.count_bound)

pub returns : goal.returns
returns c =
    let p = c.requires in
    let e : c.loop-q.q ≡ c.args.view.header.rv + c.args.view.header.rh = omega arith in
    rw e at (follows-past _ p.formed _ p.count_bound _ c.loop-q.invariant (omega arith))
