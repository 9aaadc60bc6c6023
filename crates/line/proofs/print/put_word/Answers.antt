-- `line::print::put_word` meets its contract. Assumes nothing.
use Rattle.text.proofs.Putting.{put-more}
use Rattle.line.proofs.print.put_word.Goals as goal

pub returns : goal.returns
returns c = put-more c.put_byte-m.ensures c.put_byte.ensures
