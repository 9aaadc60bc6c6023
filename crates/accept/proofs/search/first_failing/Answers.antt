-- `accept::search::first_failing` meets its contract: on a table of powers one row of pairs tells all. Assumes nothing.
use mathlib.Core.Path.{sym, ◌∙◌}
use Rattle.accept.proofs.Shift.{powers-row}
use Rattle.accept.proofs.search.first_failing.Goals as goal

pub returns-then-are_powers : goal.returns-then-are_powers
returns-then-are_powers c =
    let e = sym c.are_powers.ensures ∙ c.if-are_powers.true in
    c.first_row.ensures
    ∙ sym (powers-row c.args.t c.args.words.now c.args.step c.args.size c.args.count c.requires.windows.0 e)
