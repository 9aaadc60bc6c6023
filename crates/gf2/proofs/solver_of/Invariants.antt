-- `gf2::solver_of` meets its contract. The loop's invariant: going on with the members from i on gives the solver.
-- Assumes nothing.
use mathlib.Core.Path.{◌≡◌}
use lib.ListN.{drop}
use Rattle.gf2.specs.Solver.{solver_from, solver_of}
use Rattle.gf2.proofs.solver_of.Given as goal

abbrev pub invariant-loop-i : goal.invariant-loop-i
invariant-loop-i l = solver_of l.members ≡ solver_from (drop l.i l.members) l.basis l.combos l.i
