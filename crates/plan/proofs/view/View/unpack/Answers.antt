use native.Mathlib.Omega.{arith}
use Rattle.plan.proofs.view.View.unpack.Goals as goal

pub returns : goal.returns
returns c =
    let f = c.loop-k.invariant in
    record { size = f.0; entry = λ j l. (f.1 j (omega arith)).value; below = λ j l. (f.1 j (omega arith)).below }
