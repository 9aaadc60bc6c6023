-- `scans::reading::read_both` meets its contract: the data buffer is written only where the mended sheets agree. Assumes nothing.
use mathlib.Core.Path.{ap, ◌∙◌}
use Rattle.plan.specs.Verdict.{accepted}
use Rattle.scans.specs.ReadTwo.{two_read}
use Rattle.scans.proofs.Mended.{agree-found}
use Rattle.scans.proofs.Decided.{decide-agree, decide-differ}
use Rattle.scans.proofs.reading.read_both.Goals as goal

pub returns-then-not-mended_agree : goal.returns-then-not-mended_agree
returns-then-not-mended_agree c =
    let p = c.requires in
    let A = c.args.accepted.accepted in
    decide-differ _ _ _ _ _ _ _
    (agree-found _ A.formed A.conditions _ p.right_form _ _ _ p.fact _ p.right_form_2 _ _ _ p.fact_2 _ c.mended_agree.ensures
    ∙ c.if-not-mended_agree.true)

pub returns : goal.returns
returns c =
    let p = c.requires in
    let A = c.args.accepted.accepted in
    ap (two_read accepted) c.take_mended.ensures
    ∙ decide-agree _ _ _ _ _ _ _
    (agree-found _ A.formed A.conditions _ p.right_form _ _ _ p.fact _ p.right_form_2 _ _ _ p.fact_2 _ c.mended_agree.ensures
    ∙ c.if-not-mended_agree.false)
