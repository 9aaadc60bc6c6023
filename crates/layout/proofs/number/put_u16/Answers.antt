-- `layout::number::put_u16` meets its contract: its two bytes, the low one first. Assumes nothing.
use Rattle.std.proofs.Common.{◌∙◌, arith}
use Rattle.layout.proofs.Overwriting.{put-overwritten, low-two, low-length}
use Rattle.layout.proofs.number.put_u16.Goals as goal

pub returns : goal.returns
returns c =
    let e = low-length 2 c.args.x in
    put-overwritten _ _ _ _ _ (c.copy_from_slice.ensures.after ∙ c.to_le_bytes.ensures ∙ low-two c.args.x) (omega arith) (omega arith)
