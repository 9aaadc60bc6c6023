-- `buffers::lent::sheet_bytes` meets its contract. Assumes nothing.
use Rattle.buffers.proofs.lent.sheet_bytes.Goals as goal

pub returns : goal.returns
returns c = c.bytes_in.ensures

pub bytes_in-requires : goal.bytes_in-requires
bytes_in-requires c = let s = c.requires in record { n1_most = s.n1_most; n2_most = s.n2_most }
