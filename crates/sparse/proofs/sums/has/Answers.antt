-- `sparse::sums::has` meets its contract: a number without its mark is none of the sums. Assumes nothing.
use mathlib.Core.Path.{sym, ◌∙◌}
use Rattle.sparse.proofs.Marks.{unmarked}
use Rattle.sparse.proofs.sums.has.Goals as goal

pub returns-then-not-marked : goal.returns-then-not-marked
returns-then-not-marked c = sym (unmarked _ _ _ c.requires (sym c.marked.ensures ∙ c.if-not-marked.true))
