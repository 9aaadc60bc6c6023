-- `runsums::put_sums` meets its contract: both numbers fill the buffer. Assumes nothing.
use Rattle.runsums.proofs.Outcomes.{put_both}
use Rattle.runsums.proofs.put_sums.Goals as goal

pub returns : goal.returns
returns c = put_both _ _ _ _ _ c.requires c.put_u32.ensures c.put_u32-2.ensures
