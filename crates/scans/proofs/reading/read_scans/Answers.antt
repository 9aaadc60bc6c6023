-- `scans::reading::read_scans` meets its contract: by whether each scan has a burst. Assumes nothing.
use mathlib.Core.Path.{ap, ap₂, ◌∙◌}
use mathlib.Core.List.{[]}
use Rattle.layout.specs.declared.stored.Layout.TheVariants.{ByRow}
use Rattle.boxcode.specs.Reader.{no_report}
use Rattle.mend.specs.Report.{report_as}
use Rattle.plan.specs.Verdict.{accepted}
use Rattle.plan.specs.Bytes.{code_with}
use Rattle.reader.specs.Read.{Outcome, mend_outcome}
use Rattle.reader.proofs.Outcome.{mend-none, mend-some}
use Rattle.scans.specs.ReadTwo.{two_read, decide}
use Rattle.scans.proofs.Decided.{decide-first, decide-alone}
use Rattle.scans.proofs.reading.read_scans.Goals as goal

pub returns-in_default : goal.returns-in_default
returns-in_default c =
    let a = c.args in
    let k = code_with a.accepted.view.plan.now a.accepted.view.header in
    c.read_alone.ensures
    ∙ decide-alone k _ _ _
    ∙ ap (λ (o : Outcome). decide o (mend_outcome ByRow k a.second.now a.bits.now) a.bits.now)
    (mend-none ByRow k _ _ (rw c.in_default.is at c.find_burst.ensures))

pub returns-in_default-find_burst : goal.returns-in_default-find_burst
returns-in_default-find_burst c =
    let a = c.args in
    let k = code_with a.accepted.view.plan.now a.accepted.view.header in
    let b = rw c.in-Some.is at c.find_burst.ensures in
    ap (two_read accepted) c.take_mended.ensures
    ∙ decide-first _ (report_as no_report) _ _ _ [] _
    ∙ ap₂ (λ (o q : Outcome). decide o q a.bits.now) (mend-some ByRow k _ _ _ b)
    (mend-none ByRow k _ _ (rw c.in_default-find_burst.is at c.find_burst-2.ensures))

pub returns : goal.returns
returns c =
    let a = c.args in
    let k = code_with a.accepted.view.plan.now a.accepted.view.header in
    let b = rw c.in-Some.is at c.find_burst.ensures in
    let q = rw c.in-Some-find_burst.is at c.find_burst-2.ensures in
    c.read_both.ensures ∙ ap₂ (λ (o r : Outcome). decide o r a.bits.now) (mend-some ByRow k _ _ _ b) (mend-some ByRow k _ _ _ q)
