use Rattle.std.proofs.Common.{sym, ◌∙◌}
use Rattle.gf2.specs.Xor.{◌⊕◌}
use Rattle.sparse.proofs.Marks.{run_more}
use Rattle.sparse.proofs.hits.next_marked.Invariants.{mark_at}
use Rattle.sparse.proofs.hits.next_marked.Goals as goal

pub loop-l-preserved : goal.loop-l-preserved
unfolding ◌⊕◌
loop-l-preserved c =
    let a = c.args in
    run_more (mark_at a.words.now a.marks.now a.k) a.from c.loop-l.l c.loop-l.invariant (sym c.marked.ensures ∙ c.if-marked.false)
