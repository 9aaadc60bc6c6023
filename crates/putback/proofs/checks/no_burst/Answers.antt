-- `putback::checks::no_burst` meets its contract: by the rectangle, then by how many cells there are, and then by the whole answer. In each
-- answer F is the fields of the answer, W that the rectangle lies within, S that it has rows and columns, and K whether there are too many
-- cells. Assumes nothing.
use mathlib.Core.Path.{◌≡◌, ap, ◌∙◌}
use mathlib.Core.Bool.{not}
use lib.Dec.{eqb}
use Rattle.answer.proofs.Fields.{fields-range}
use Rattle.plan.specs.Bytes.{code_with}
use Rattle.putback.specs.PutBack.{no_burst}
use Rattle.putback.proofs.Told.{no-outside, no-crowded}
use Rattle.putback.proofs.Made.{taken_out, outside_told, wide-told, report-needs, no-nothing, told-crowded, told-range, no_other}
use Rattle.putback.proofs.checks.no_burst.Goals as goal

pub outside-requires : goal.outside-requires
outside-requires c = rw c.unpack-told.ensures (fields-range _)

pub returns-then-outside : goal.returns-then-outside
returns-then-outside c = no-outside _ _ (outside_told _ (taken_out c.unpack-told.ensures) c.outside.ensures ∙ c.if-outside.true)

pub returns-then-told : goal.returns-then-told
returns-then-told c =
    let a = c.args in
    let F = taken_out c.unpack-told.ensures in
    let W = outside_told _ F c.outside.ensures ∙ c.if-outside.false in
    let n : not (eqb a.answer 0) ≡ no_burst (code_with a.accepted.view.plan.now a.accepted.view.header) a.answer =
    no-nothing _ c.args.accepted.accepted.formed _ W (wide-told F c.if-told.true) in
    n

pub report_of-report-requires : goal.report_of-report-requires
report_of-report-requires c =
    let F = taken_out c.unpack-told.ensures in
    let W = outside_told _ F c.outside.ensures ∙ c.if-outside.false in
    let r = report-needs _ c.args.accepted.accepted.formed _ W (wide-told F c.if-told.false) F in
    record { burst_size = r.0; top_bound = r.1 }

pub returns-then-not-few : goal.returns-then-not-few
returns-then-not-few c =
    let F = taken_out c.unpack-told.ensures in
    let W = outside_told _ F c.outside.ensures ∙ c.if-outside.false in
    let S = wide-told F c.if-told.false in
    let K = told-crowded _ c.args.accepted.accepted.formed _ W S F c.report_of-report.ensures c.few.ensures in
    no-crowded _ _ W (K ∙ ap not c.if-not-few.true)

pub pack_report-requires : goal.pack_report-requires
pack_report-requires c =
    let F = taken_out c.unpack-told.ensures in
    let W = outside_told _ F c.outside.ensures ∙ c.if-outside.false in
    let S = wide-told F c.if-told.false in
    let K = told-crowded _ c.args.accepted.accepted.formed _ W S F c.report_of-report.ensures c.few.ensures in
    told-range _ c.args.accepted.accepted.formed _ W S F c.report_of-report.ensures (K ∙ ap not c.if-not-few.false) c.told.ensures

pub returns : goal.returns
returns c =
    let g = c.args in
    let F = taken_out c.unpack-told.ensures in
    let W = outside_told _ F c.outside.ensures ∙ c.if-outside.false in
    let S = wide-told F c.if-told.false in
    let K = told-crowded _ c.args.accepted.accepted.formed _ W S F c.report_of-report.ensures c.few.ensures in
    let n : not (eqb c.pack_report.result g.answer) ≡ no_burst (code_with g.accepted.view.plan.now g.accepted.view.header) g.answer =
    no_other _ c.args.accepted.accepted.formed _ W S F c.report_of-report.ensures (K ∙ ap not c.if-not-few.false) c.told.ensures c.pack_report.ensures in
    n
