-- `reader::burst::apply_burst` meets its contract. Assumes nothing.
use mathlib.Core.Path.{refl}
use Rattle.plan.specs.Bytes.{code_with}
use Rattle.reader.proofs.Outcome.{burst-taken}
use Rattle.reader.proofs.burst.apply_burst.Goals as goal

pub returns : goal.returns
returns c =
    let p = c.requires in
    burst-taken c.args.lay (code_with c.args.accepted.view.plan.now c.args.accepted.view.header) c.args.accepted.accepted.formed _ p.form_in _ _ _ p.fact _ _ _ _
    refl c.report_of.ensures c.turn_box.ensures c.take.ensures
