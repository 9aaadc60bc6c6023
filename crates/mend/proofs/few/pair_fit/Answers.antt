use mathlib.Core.Path.{◌∙◌}
use Prim.Native.Nat.{◌^◌}
use native.Mathlib.Omega.{arith}
use lib.ListN.{length}
use Rattle.gf2.specs.Xor.{◌⊕◌}
use Rattle.gf2.proofs.Xor.{xor_is}
use Rattle.plan.specs.Table.{word_at}
use Rattle.mend.proofs.FewFits.{shifted, two-fit, pairs-more, pair_found, pair-missed}
use Rattle.mend.proofs.few.pair_fit.Goals as goal

pub returns-in-Some : goal.returns-in-Some
returns-in-Some c =
    let words = c.args.words.now in
    let k = c.loop-k.k in
    let l = c.in-Some.l in
    let p = pair_found words k c.args.v (omega arith) l c.in-Some.ensures.0 (c.in-Some.ensures.1 ∙ xor_is _ _) in
    rw (shifted l (omega (arith, p.0)), shifted k (omega arith), xor_is (2 ^ l) (2 ^ k))
    (two-fit (word_at words) (length words) l k c.args.v p.0 c.loop-k-test.true p.1)

pub loop-k-preserved : goal.loop-k-preserved
unfolding ◌⊕◌
loop-k-preserved c =
    let words = c.args.words.now in
    let k = c.loop-k.k in
    pairs-more (word_at words) c.args.v k c.loop-k.invariant (pair-missed words k c.args.v (omega arith) c.in_default.ensures)
