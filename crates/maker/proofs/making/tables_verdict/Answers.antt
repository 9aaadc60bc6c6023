-- `maker::making::tables_verdict` meets its contract: check 9 is asked for only where check 8 passed. Assumes nothing.
use Rattle.plan.proofs.Sequence.{stops, goes-on}
use Rattle.maker.proofs.making.tables_verdict.Goals as goal

pub table_verdict-requires : goal.table_verdict-requires
table_verdict-requires c = record { small = c.requires.small; entries32 = c.requires.tables.rows_below }

pub returns-in_err-table_verdict : goal.returns-in_err-table_verdict
returns-in_err-table_verdict c = stops _ _ _ c.from_residual.ensures.1 c.in_err-table_verdict.ensures

pub table_verdict-requires-2 : goal.table_verdict-requires-2
table_verdict-requires-2 c = record { small = c.requires.small; entries32 = c.requires.tables.columns_below }

pub returns : goal.returns
returns c = goes-on c.in_ok-table_verdict.ensures c.table_verdict-2.ensures
