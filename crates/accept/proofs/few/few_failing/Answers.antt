-- `accept::few::few_failing` meets its contract: on a table of powers one row of pairs tells all. Assumes nothing.
use mathlib.Core.Path.{sym, ◌∙◌}
use Rattle.accept.proofs.SparseShift.{few-row}
use Rattle.accept.proofs.few.few_failing.Goals as goal

pub returns-then-are_powers : goal.returns-then-are_powers
returns-then-are_powers c =
    let a = c.args in
    let e = sym c.are_powers.ensures ∙ c.if-are_powers.true in
    c.pairs_of.ensures ∙ sym (few-row a.table a.words.now a.step a.size a.count a.t c.requires.windows.0 e)
