-- `layout::number::put_u32` meets its contract: its four bytes, the low one first. Assumes nothing.
use Rattle.std.proofs.Common.{◌∙◌, arith}
use Rattle.layout.proofs.Overwriting.{put-overwritten, low-four, low-length}
use Rattle.layout.proofs.number.put_u32.Goals as goal

pub returns : goal.returns
returns c =
    let e = low-length 4 c.args.x in
    put-overwritten _ _ _ _ _ (c.copy_from_slice.ensures.after ∙ c.to_le_bytes.ensures ∙ low-four c.args.x) (omega arith) (omega arith)
