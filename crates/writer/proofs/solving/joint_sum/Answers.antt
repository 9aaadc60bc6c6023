-- `writer::solving::joint_sum` meets its contract: the two sums, joined. Assumes nothing.
use Rattle.layout.specs.Stored.{cell_in}
use Rattle.plan.specs.Bytes.{code_with}
use Rattle.writer.proofs.Solved.{joint-value}
use Rattle.writer.proofs.solving.joint_sum.Goals as goal

pub joined-requires : goal.joined-requires
joined-requires c =
    let p = c.requires in
    (c.args.view.framed.small.rv_most, c.sheet_sums-s.ensures.row_below, c.sheet_sums-s.ensures.column_below)

pub returns : goal.returns
returns c =
    let s = c.sheet_sums-s.ensures in
    rw c.joined.ensures
    (joint-value (code_with c.args.view.plan.now c.args.view.header) c.requires.formed
    (cell_in c.args.lay c.args.view.header.n1 c.args.view.header.n2 c.args.sheet.now) _ _ s.row s.column)
