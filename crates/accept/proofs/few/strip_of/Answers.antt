-- `accept::few::strip_of` meets its contract: the new lines decide, by the words that the strip leaves. Assumes nothing.
use Rattle.std.proofs.Common.{◌∙◌}
use Rattle.accept.proofs.SparseRows.{strip-row}
use Rattle.accept.proofs.few.strip_of.Goals as goal

pub returns : goal.returns
returns c =
    let a = c.args in
    let few = c.requires.windows.1 in
    c.later.ensures
    ∙ strip-row a.t few.some few.few a.words.now _ a.step a.size a.count a.i c.requires.windows.0 few.step_most few.here
    c.differ_rest.ensures.1 _ c.only_zero-n.ensures.are
