-- `gf2::find_combination` meets its contract. Assumes nothing.
use mathlib.Core.Path.{◌∙◌}
use native.Mathlib.Omega.{arith}
use Rattle.gf2.proofs.Solving.{solver-solves}
use Rattle.gf2.proofs.find_combination.Goals as goal

pub returns : goal.returns
returns c =
    let p = c.requires in
    c.solve.ensures
    ∙ rw c.solver_of-solver.ensures
    (solver-solves _ p.members_len_bound (λ k _. (c.type_inv.members k).fits) p.members_value c.args.target (omega arith))
