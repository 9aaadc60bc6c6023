use mathlib.Core.Path.{◌≡◌, ap, ◌∙◌}
use Prim.Native.Nat.{◌*◌}
use native.Mathlib.Omega.{arith}
use Rattle.finite.specs.Search.{bit}
use Rattle.reader.specs.Turn.{digits_turned, box_turned}
use Rattle.reader.proofs.Turned.{digits-none, digits-next}
use Rattle.reader.proofs.turn.turn_box.Goals as goal

pub loop-k-init : goal.loop-k-init
loop-k-init c = digits-none _ _ _ _ _ _ _ _

pub loop-k-preserved : goal.loop-k-preserved
unfolding bit
loop-k-preserved c = digits-next _ _ _ _ _ _ _ _ _ _ _ c.loop-k.invariant c.turn_in.ensures

pub returns : goal.returns
unfolding box_turned
returns c =
    let e : c.loop-k.k ≡ c.args.b1 * c.args.b2 = omega arith in
    c.loop-k.invariant ∙ ap (digits_turned _ _ _ _ _ _ _ _) e
