-- `syndrome::columns::column_sums` meets its contract: the sums by the unpacked tables are those by the plan's. Assumes nothing.
use Rattle.syndrome.proofs.Block.{tables-of, plan-sums}
use Rattle.syndrome.proofs.columns.column_sums.Goals as goal

pub tabled_sums-requires : goal.tabled_sums-requires
tabled_sums-requires c =
    let p = c.requires in
    record { tables = tables-of _ _ c.args.view.framed _ _ c.unpack.ensures p.unpacked; sheet_len = p.sheet_len }

pub returns : goal.returns
returns c =
    let p = c.requires in
    plan-sums _ _ c.args.view.framed _ _ c.unpack.ensures p.unpacked _ _ _ _ c.tabled_sums.ensures
