-- `gf2::solve` meets its contract. Assumes nothing.
use mathlib.Core.Path.{sym, ◌∙◌}
use borrow.Author.Tests.{eq-eqb, ne_eqb}
use Rattle.gf2.specs.Solver.{solved}
use Rattle.gf2.proofs.solve.Goals as goal

pub returns-then-r-eq0 : goal.returns-then-r-eq0
unfolding solved
returns-then-r-eq0 c =
    let r = c.reduce_combined-r in
    rw (eq-eqb _ 0 (sym r.ensures.0 ∙ c.if-r-eq0.true), ← r.ensures.1)

pub returns-else-r-eq0 : goal.returns-else-r-eq0
unfolding solved
returns-else-r-eq0 c =
    let r = c.reduce_combined-r in
    rw (ne_eqb _ 0 (λ e. c.if-r-eq0.false (r.ensures.0 ∙ e)))
