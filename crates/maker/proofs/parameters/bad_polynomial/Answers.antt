-- `maker::parameters::bad_polynomial` meets its contract. Assumes nothing.
use mathlib.Core.Path.{ap}
use mathlib.Core.Bool.{◌||◌}
use Prim.Native.Nat.{ℕ, ◌%◌}
use lib.Dec.{eqb, leb}
use Rattle.accept.proofs.JointEntries.{shift-exact}
use Rattle.maker.specs.Make.{bad_polynomial}
use Rattle.maker.proofs.parameters.bad_polynomial.Goals as goal

pub returns : goal.returns
unfolding bad_polynomial
returns c =
    let low = c.args.low in
    ap (λ (n : ℕ). eqb (low % 2) 0 || leb n low) (shift-exact c.args.degree c.requires)
