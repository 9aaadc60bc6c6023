-- `writer::solving::check_digits` meets its contract: the joint entries of the check cells span every target. Assumes nothing.
use Rattle.plan.specs.Bytes.{code_with}
use Rattle.writer.proofs.Solved.{free-joints, combination-makes}
use Rattle.writer.proofs.solving.check_digits.Goals as goal

pub find_combination-requires-clause-members_value : goal.find_combination-requires-clause-members_value
find_combination-requires-clause-members_value c =
    rw c.check_joints-joints.ensures.held (free-joints (code_with c.args.view.plan.now c.args.view.header) c.requires.formed c.requires.conditions)

pub returns : goal.returns
returns c =
    let p = c.requires in
    let e = rw c.check_joints-joints.ensures.held at c.find_combination.ensures in
    rw c.unwrap_or.ensures
    (combination-makes (code_with c.args.view.plan.now c.args.view.header) p.formed p.conditions c.args.target p.target_bound c.find_combination.result e)
