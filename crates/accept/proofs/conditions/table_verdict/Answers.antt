-- `accept::conditions::table_verdict` meets its contract: each arm is told which table it has. Assumes nothing.
use mathlib.Core.Path.{◌∙◌}
use Rattle.plan.specs.declared.table.Table.TheVariants.{Rows, Columns}
use Rattle.accept.specs.Windows.{table_verdict, windows_pass}
use Rattle.accept.proofs.Tables.{table-windows}
use Rattle.accept.proofs.conditions.table_verdict.Goals as goal

pub lines_verdict-requires : goal.lines_verdict-requires
lines_verdict-requires c =
    let p = c.requires.small in
    record { le_burst = (p.b1_pos, p.n1_least, table-windows c.args.h p Rows, p.t_most); entries32 = rw c.in-Rows.is at c.requires.entries32 }

pub lines_verdict-requires-in-Columns : goal.lines_verdict-requires-in-Columns
lines_verdict-requires-in-Columns c =
    let p = c.requires.small in
    record { le_burst = (p.b2_pos, p.n2_least, table-windows c.args.h p Columns, p.t_most); entries32 = rw c.in-Columns.is at c.requires.entries32 }

pub returns-in-Rows : goal.returns-in-Rows
unfolding table_verdict windows_pass
returns-in-Rows c = c.lines_verdict.ensures ∙ rw c.in-Rows.is

pub returns-in-Columns : goal.returns-in-Columns
unfolding table_verdict windows_pass
returns-in-Columns c = c.lines_verdict-in-Columns.ensures ∙ rw c.in-Columns.is
