-- `trial::pattern::picked` meets its contract. Assumes nothing.
use mathlib.Core.Path.{sym}
use borrow.Author.Tests.{eq-eqb, ne_eqb}
use Rattle.finite.specs.Search.{bit}
use Rattle.boxcode.proofs.Image.{picked, unpicked}
use Rattle.trial.proofs.pattern.picked.Goals as goal

pub returns-then-x-k-eq1 : goal.returns-then-x-k-eq1
unfolding bit
returns-then-x-k-eq1 c = sym (picked _ _ (eq-eqb _ 1 c.if-x-k-eq1.true))

pub returns-else-x-k-eq1 : goal.returns-else-x-k-eq1
unfolding bit
returns-else-x-k-eq1 c = sym (unpicked _ _ (ne_eqb _ 1 c.if-x-k-eq1.false))
