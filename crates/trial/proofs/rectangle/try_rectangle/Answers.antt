-- `trial::rectangle::try_rectangle` meets its contract: the entries of the cells give the sums of each pattern. Assumes nothing.
use mathlib.Core.Path.{◌∙◌}
use Rattle.finite.proofs.Search.{least-equal}
use Rattle.boxcode.specs.Burst.{patterns}
use Rattle.plan.specs.Bytes.{code_with}
use Rattle.trial.proofs.Trials.{gathered-tried}
use Rattle.trial.proofs.rectangle.try_rectangle.Goals as goal

pub returns : goal.returns
unfolding patterns
returns c =
    let p = c.requires in
    let same = gathered-tried (code_with c.args.view.plan.now c.args.view.header) _ _ p.b1_bound p.b2_bound c.args.view.framed.small.box_positions _ _ in
    c.first_pattern.ensures ∙ least-equal _ _ _ (λ x l. same c.gather-rows.ensures c.gather-columns.ensures _ _ x)
