-- `mend::fit::window_fit` meets its contract: the solution for the window's entries answers for the window, or where bursts have few cells the few
-- entries that make the sum. Assumes nothing.
use mathlib.Core.Path.{◌∙◌}
use native.Mathlib.Omega.{arith}
use Rattle.plan.specs.Bytes.{code_with}
use Rattle.mend.proofs.Window.{window-free, fit_is, few_words, few-fit}
use Rattle.mend.proofs.fit.window_fit.Goals as goal

pub returns-then-h-ne0 : goal.returns-then-h-ne0
returns-then-h-ne0 c =
    let k = code_with c.args.accepted.view.plan.now c.args.accepted.view.header in
    let A = c.args.accepted.accepted in
    few-fit k A.formed c.args.i c.requires.b1_bound A.conditions (omega arith) c.args.v c.few_fit.result
    (few_words k c.args.i c.args.accepted.view.header.t c.args.v _ c.gather-words.ensures c.few_fit.result c.few_fit.ensures)

pub find_combination-requires-clause-members_value : goal.find_combination-requires-clause-members_value
find_combination-requires-clause-members_value c =
    let A = c.args.accepted.accepted in
    rw c.gather-words.ensures.entries
    (window-free (code_with c.args.accepted.view.plan.now c.args.accepted.view.header) A.formed c.args.i c.requires.b1_bound A.conditions c.if-h-ne0.false)

pub returns : goal.returns
returns c =
    let k = code_with c.args.accepted.view.plan.now c.args.accepted.view.header in
    let A = c.args.accepted.accepted in
    (rw c.gather-words.ensures.entries at c.find_combination.ensures)
    ∙ fit_is k A.formed c.args.i c.requires.b1_bound A.conditions c.if-h-ne0.false c.args.v (omega arith)
