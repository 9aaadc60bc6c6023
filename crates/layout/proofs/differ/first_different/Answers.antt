use Rattle.std.proofs.Common.{arith, below_more}
use Rattle.finite.proofs.Search.{search-finds, search-ends}
use Rattle.layout.specs.Differ.{first_different}
use Rattle.layout.proofs.Agreement.{same_at, other_at}
use Rattle.layout.proofs.differ.first_different.Goals as goal

pub returns-then-s-k : goal.returns-then-s-k
unfolding first_different
returns-then-s-k c =
    let l = c.loop-k in
    search-finds _ _ l.k c.loop-k-test.true l.invariant.same (other_at _ _ l.k c.if-s-k.true)

pub loop-k-preserved : goal.loop-k-preserved
loop-k-preserved c =
    let l = c.loop-k in
    record { most = omega arith; same = below_more _ _ l.invariant.same (same_at _ _ l.k c.if-s-k.false) }

pub returns : goal.returns
unfolding first_different
returns c = let A = c.loop-k.invariant in search-ends _ _ _ (omega arith) (omega arith) (λ j l. A.same j (omega arith))
