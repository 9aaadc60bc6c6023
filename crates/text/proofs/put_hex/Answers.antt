-- `text::put_hex` meets its contract. Assumes nothing.
use Rattle.text.specs.Text.{hex_bytes}
use Rattle.text.proofs.Putting.{put-more, put_as}
use Rattle.text.proofs.put_hex.Goals as goal

pub returns : goal.returns
unfolding hex_bytes
returns c = put_as (put-more c.put_byte-m.ensures c.put_byte.ensures) (cc)
