-- `sparse::hits::hit_at` meets its contract: the set of k alone, and where there may be two places, the pairs. Assumes nothing.
use mathlib.Core.Path.{sym, ◌∙◌}
use Rattle.sparse.proofs.Marks.{hit-one, hit_few, hit-two}
use Rattle.sparse.proofs.hits.hit_at.Goals as goal

pub returns-then-has : goal.returns-then-has
returns-then-has c = sym (hit-one _ _ _ _ _ (sym c.has.ensures ∙ c.if-has.true))

pub returns-then-t-ne2 : goal.returns-then-t-ne2
returns-then-t-ne2 c = sym (hit_few _ _ _ _ _ (sym c.has.ensures ∙ c.if-has.false) c.if-t-ne2.true)

pub returns : goal.returns
returns c =
    c.pair_hits.ensures
    ∙ sym (hit-two _ _ _ _ _ (sym c.has.ensures ∙ c.if-has.false) c.if-t-ne2.false)
