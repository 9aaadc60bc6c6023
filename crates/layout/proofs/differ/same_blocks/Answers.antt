use Rattle.std.proofs.Common.{◌≡◌, ◌+◌, ◌*◌, sym, ◌∙◌, arith}
use Rattle.layout.proofs.Agreement.{block-next}
use Rattle.layout.proofs.differ.same_blocks.Goals as goal

pub loop-b-preserved : goal.loop-b-preserved
loop-b-preserved c =
    let l = c.loop-b in
    let e : 64 * (l.b + 1) ≡ 64 * l.b + 64 = omega arith in
    rw e (block-next _ _ _ l.invariant (omega arith) (sym c.if-not-same_block.false ∙ c.same_block.ensures))
