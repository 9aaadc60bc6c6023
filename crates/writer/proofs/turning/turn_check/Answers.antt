-- `writer::turning::turn_check` meets its contract: the check cells stand on the sheet. Assumes nothing.
use Prim.Native.Nat.{◌<◌}
use Rattle.finite.specs.Search.{bit}
use Rattle.writer.proofs.turning.turn_check.Goals as goal

pub turn_in-requires : goal.turn_in-requires
turn_in-requires c =
    let F = c.requires.formed in
    let e = c.check_cell-cell.ensures.value in
    let i : c.check_cell-cell.result.row < c.args.view.header.n1 = rw e (F.check_rows c.args.k c.requires.k_bound) in
    let j : c.check_cell-cell.result.column < c.args.view.header.n2 = rw e (F.check_columns c.args.k c.requires.k_bound) in
    record { sizes = record { n1_most = F.n1_most; n2_most = F.n2_most }; s_len = c.requires.sheet_len; i_lt_n1 = (i, j) }

pub returns : goal.returns
unfolding bit
returns c = rw c.check_cell-cell.ensures.value at c.turn_in.ensures
