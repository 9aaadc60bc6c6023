-- `accept::rest::pair_free` meets its contract: a part is free where all of it is counted. Assumes nothing.
use Rattle.std.proofs.Common.{◌+◌, ◌&&◌, nat_eq, ap, ◌∙◌, arith}
use Rattle.accept.proofs.Remains.{rest-free}
use Rattle.accept.proofs.rest.pair_free.Goals as goal

pub returns : goal.returns
returns c =
    let e = c.max-from.ensures in
    ap (◌&&◌ (nat_eq c.args.taken c.args.size))
    (rest-free _ (c.args.second + c.args.size) c.args.rest.now (omega arith) (omega arith) c.keep-more.ensures.count ∙ rw e)
