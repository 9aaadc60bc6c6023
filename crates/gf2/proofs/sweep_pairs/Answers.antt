use mathlib.Core.Path.{◌≡◌, refl}
use Prim.Native.Nat.{◌+◌, ◌*◌}
use native.Mathlib.Omega.{arith}
use Rattle.gf2.specs.Xor.{◌⊕◌}
use Rattle.gf2.specs.Swept.{swept}
use Rattle.gf2.proofs.Swept.{swept-more}
use Rattle.gf2.proofs.sweep_pairs.Goals as goal

pub loop-i-init : goal.loop-i-init
unfolding swept
loop-i-init c = refl

pub loop-i-preserved : goal.loop-i-preserved
unfolding ◌⊕◌
loop-i-preserved c =
    let l = c.loop-i in
    let a = c.args in
    let e = swept-more a.words.now (l.i * 2) a.v l.invariant c.min-left.ensures in
    let f = swept-more a.words.now (l.i * 2 + 1) a.v e c.min-left-in-loop-i.ensures in
    let n : l.i * 2 + 1 + 1 ≡ (l.i + 1) * 2 = omega arith in
    rw n at f
