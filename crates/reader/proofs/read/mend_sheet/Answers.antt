-- `reader::read::mend_sheet` meets its contract: no burst is 14, and a burst is turned over. Assumes nothing.
use mathlib.Core.Path.{◌∙◌}
use Rattle.plan.specs.Bytes.{code_with}
use Rattle.reader.proofs.Outcome.{mend-none, mend-some}
use Rattle.reader.proofs.read.mend_sheet.Goals as goal

pub returns-in_default : goal.returns-in_default
returns-in_default c =
    mend-none c.args.lay (code_with c.args.accepted.view.plan.now c.args.accepted.view.header) _ _ (rw c.in_default.is at c.find_burst.ensures)

pub returns : goal.returns
returns c =
    let b = rw c.in-Some.is at c.find_burst.ensures in
    c.apply_burst.ensures ∙ mend-some c.args.lay (code_with c.args.accepted.view.plan.now c.args.accepted.view.header) _ _ _ b
