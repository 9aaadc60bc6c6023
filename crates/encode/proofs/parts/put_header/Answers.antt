-- `encode::parts::put_header` meets its contract: five pairs, and one number. Assumes nothing.
use Rattle.encode.proofs.Pieces.{header-written}
use Rattle.encode.proofs.parts.put_header.Goals as goal

pub returns : goal.returns
returns c =
    let h = c.args.h in
    header-written h _ _ _ _ _ _ _ c.put_pair.ensures c.put_pair-2.ensures c.put_pair-3.ensures c.put_pair-4.ensures
    c.put_pair-5.ensures c.put_u16.ensures
