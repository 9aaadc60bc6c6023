-- `accept::conditions::condition_verdict` meets its contract: the words are the table, so the search is the code's. Assumes nothing.
use mathlib.Core.Path.{◌∙◌}
use Rattle.accept.proofs.Tables.{plan-condition}
use Rattle.accept.proofs.conditions.condition_verdict.Goals as goal

pub returns-clause-told : goal.returns-clause-told
returns-clause-told c =
    let v = c.args.view in
    c.table_verdict.ensures ∙ plan-condition v.plan.now v.header v.framed.small c.args.t _ c.unpack.ensures
