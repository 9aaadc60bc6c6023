-- `reader::burst::find_burst` meets its contract: the burst is asked for by the two sums, whichever way. Assumes nothing.
use Rattle.plan.specs.Bytes.{code_with}
use Rattle.mend.proofs.First.{first_found}
use Rattle.reader.proofs.burst.find_burst.Goals as goal

pub returns-in-ByTrial : goal.returns-in-ByTrial
returns-in-ByTrial c =
    let s = c.sheet_sums-s.ensures in
    rw (← s.row, ← s.column, c.try_all.ensures) (first_found (code_with c.args.accepted.view.plan.now c.args.accepted.view.header) _ _ c.args.accepted.accepted.formed)
