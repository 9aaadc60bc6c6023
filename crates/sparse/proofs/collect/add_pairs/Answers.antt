use Rattle.std.proofs.Common.{◌+◌, arith}
use Rattle.gf2.specs.Xor.{◌⊕◌}
use Rattle.plan.specs.Table.{word_at}
use Rattle.sparse.proofs.Growth.{run-start, run-next}
use Rattle.sparse.proofs.collect.add_pairs.Goals as goal

pub loop-d-init : goal.loop-d-init
loop-d-init c =
    let a = c.args in
    run-start (λ e. word_at a.words.now (a.first + e) ⊕ word_at a.words.now a.k) _ _ _ c.requires.sums_len.0 c.requires.sums_len.1

pub loop-d-preserved : goal.loop-d-preserved
unfolding ◌⊕◌
loop-d-preserved c =
    let l = c.loop-d in
    let a = c.args in
    let r = c.add.ensures in
    run-next (λ e. word_at a.words.now (a.first + e) ⊕ word_at a.words.now a.k) l.d l.invariant (omega arith) r.sums_after r.marks_after
