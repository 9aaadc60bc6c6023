-- `accept::few::row_of` meets its contract: where no two sets of the window have the same sum, the new lines of the later ones decide.
-- Assumes nothing.
use Rattle.std.proofs.Common.{ℕ, ◌+◌, ◌-◌, Bool, length, None, sym, ap, ◌∙◌}
use Rattle.plan.specs.Table.{word_at}
use Rattle.accept.specs.Pairs.{in_row}
use Rattle.accept.specs.Windows.{line_clear}
use Rattle.accept.proofs.SparseRows.{rows_self, rows_row}
use Rattle.accept.proofs.few.row_of.Goals as goal

pub returns-in_default : goal.returns-in_default
returns-in_default c =
    let a = c.args in
    let few = c.requires.windows.1 in
    sym (rows_self a.t few.some few.few (word_at a.words.now) (length a.words.now) a.step a.size a.count a.i c.requires.windows.0 few.step_most few.here
    c.in_default.ensures)

pub returns : goal.returns
returns c =
    let a = c.args in
    let few = c.requires.windows.1 in
    let W = c.in-Some.ensures {u = tt} in
    c.later.ensures
    ∙ ap (λ (T : ℕ → Bool). in_row (line_clear a.t (word_at a.words.now) 0 a.step a.size T) a.i (a.i + 1) (a.count - (a.i + 1)) None)
    (λ y x. W.sums_of.are x y)
    ∙ sym (rows_row a.t few.some few.few (word_at a.words.now) (length a.words.now) a.step a.size a.count a.i c.requires.windows.0 few.step_most
    few.here W.free)
