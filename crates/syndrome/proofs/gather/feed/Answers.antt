-- `syndrome::gather::feed` meets its contract: the row's sums are added to those held. Assumes nothing.
use Rattle.syndrome.proofs.Fed.{fed-row}
use Rattle.syndrome.proofs.gather.feed.Goals as goal

pub returns : goal.returns
returns c =
    let pre = c.requires in
    rw c.bitxor.ensures (fed-row _ _ _ _ _ _ pre.k_bound pre.fed c.row_sums.ensures)
