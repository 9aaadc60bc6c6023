use Rattle.std.proofs.Common.{◌≡◌, length, sym, arith}
use lib.Seq.{length-take-le}
use Rattle.accept.proofs.Remains.{prepared-rows, kept-inside}
use Rattle.accept.proofs.rest.sweep_rest.Goals as goal

pub slice_bounds-members-end : goal.slice_bounds-members-end
slice_bounds-members-end c = kept-inside c.args.first c.args.size c.args.words.now c.keep-base.ensures c.requires.0

pub slice_bounds-sweep-end : goal.slice_bounds-sweep-end
slice_bounds-sweep-end c = sym (length-take-le _ _ (kept-inside c.args.first c.args.size c.args.words.now c.keep-base.ensures c.requires.0))

pub returns : goal.returns
returns c =
    let e : c.loop-k.k ≡ length c.args.words.now = omega arith in
    prepared-rows c.args.words.now c.args.size c.args.first c.requires.0.inside c.loop-k.rest c.keep-base.ensures (rw e at c.loop-k.invariant)
