-- `scans::reading::read_alone` meets its contract: no burst is 14, and with a burst the data is taken. Assumes nothing.
use mathlib.Core.Path.{ap, ◌∙◌}
use Rattle.layout.specs.declared.stored.Layout.TheVariants.{ByRow}
use Rattle.plan.specs.Verdict.{accepted}
use Rattle.plan.specs.Bytes.{code_with}
use Rattle.reader.proofs.Outcome.{mend-none, mend-some}
use Rattle.scans.specs.ReadTwo.{two_read, alone}
use Rattle.scans.proofs.reading.read_alone.Goals as goal

pub returns-in_default : goal.returns-in_default
returns-in_default c =
    ap alone (mend-none ByRow (code_with c.args.accepted.view.plan.now c.args.accepted.view.header) _ _ (rw c.in_default.is at c.find_burst.ensures))

pub returns : goal.returns
returns c =
    let b = rw c.in-Some.is at c.find_burst.ensures in
    ap (two_read accepted) c.take_mended.ensures ∙ ap alone (mend-some ByRow (code_with c.args.accepted.view.plan.now c.args.accepted.view.header) _ _ _ b)
