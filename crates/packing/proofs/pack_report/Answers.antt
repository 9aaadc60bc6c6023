-- `packing::pack_report` meets its contract: the fields are those of the verdict and of the report. Assumes nothing.
use Rattle.packing.proofs.pack_report.Goals as goal

pub returns : goal.returns
returns c = c.pack.ensures
