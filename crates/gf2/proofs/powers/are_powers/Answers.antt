-- `gf2::powers::are_powers` meets its contract. Assumes nothing.
use native.Mathlib.Omega.{arith}
use Rattle.gf2.specs.Powers.{are_powers}
use Rattle.gf2.proofs.Multiplication.{break-le}
use Rattle.gf2.proofs.powers.are_powers.Goals as goal

pub overflow_add-result : goal.overflow_add-result
overflow_add-result c =
    let l = c.first_break.ensures in
    omega (arith, break-le c.modulus_of-p.result c.args.words.now)

pub returns : goal.returns
unfolding are_powers
returns c = rw (c.first_break.ensures, c.modulus_of-p.ensures)
