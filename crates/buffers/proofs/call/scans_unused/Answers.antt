-- `buffers::call::scans_unused` meets its contract: the first that fails answers. Assumes nothing.
use Rattle.plan.proofs.Sequence.{stops, goes-on}
use Rattle.buffers.proofs.call.scans_unused.Goals as goal

pub returns-in_err-sheet_unused : goal.returns-in_err-sheet_unused
returns-in_err-sheet_unused c = stops _ _ _ c.from_residual.ensures.1 c.in_err-sheet_unused.ensures

pub returns : goal.returns
returns c = goes-on c.in_ok-sheet_unused.ensures c.sheet_unused-2.ensures
