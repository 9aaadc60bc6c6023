-- `line::parts::copy` meets its contract. Assumes nothing.
use Rattle.text.proofs.Putting.{put-copied}
use Rattle.line.proofs.parts.copy.Goals as goal

pub returns : goal.returns
returns c = rw c.copy_from_slice.ensures.after (put-copied c.args.to.now c.args.from.now c.requires)
