-- `plan::header::read` meets its contract: eleven numbers, each in its place. Assumes nothing.
use Rattle.plan.specs.Header.{header_of}
use Rattle.plan.proofs.header.read.Goals as goal

pub returns : goal.returns
unfolding header_of
returns c = cc
