use mathlib.Core.Path.{◌≡◌, ap, ◌∙◌}
use Prim.Native.Nat.{◌*◌}
use native.Mathlib.Omega.{arith}
use Rattle.finite.specs.Search.{bit}
use Rattle.reader.proofs.Outcome.{data_after, data-first, data-next, data-all}
use Rattle.reader.proofs.burst.take_mended.Goals as goal

pub loop-k-init : goal.loop-k-init
loop-k-init c =
    let p = c.requires in
    c.take.ensures ∙ data-first _ c.args.accepted.accepted.formed _ p.right_form _ _ _ p.fact

pub loop-k-preserved : goal.loop-k-preserved
unfolding bit
loop-k-preserved c =
    let p = c.requires in
    data-next _ c.args.accepted.accepted.formed _ p.right_form _ _ _ p.fact _ _ _ c.loop-k-test.true c.loop-k.invariant c.turn_bit_if.ensures

pub returns : goal.returns
returns c =
    let p = c.requires in
    let e : c.loop-k.k ≡ c.args.accepted.view.header.b1 * c.args.accepted.view.header.b2 = omega arith in
    c.loop-k.invariant
    ∙ ap (data_after _ c.args.accepted.accepted.formed _ p.right_form _ _ _ p.fact) e
    ∙ data-all _ c.args.accepted.accepted.formed _ p.right_form _ _ _ p.fact
