use Rattle.std.proofs.Common.{arith}
use Rattle.plan.specs.Table.{word_at}
use Rattle.accept.proofs.Remains.{filled-block, cycle-home}
use Rattle.accept.proofs.rest.differ_rest.Goals as goal

pub loop-k-preserved : goal.loop-k-preserved
loop-k-preserved c =
    let a = c.args in
    let l = c.loop-k in
    let n = c.min-n.ensures in
    let home = l.invariant.2 c.loop-k-test.true in (
      omega arith,
      omega arith,
      λ u. cycle-home (word_at a.words.now) a.first a.size l.k _ (omega arith) l.invariant.1 home (omega arith),
      filled-block (word_at a.words.now) a.first a.size l.k _ (omega arith) l.invariant.1 home l.invariant.3 c.differ_block.ensures,
    )
