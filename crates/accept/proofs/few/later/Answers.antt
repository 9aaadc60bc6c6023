use Rattle.std.proofs.Common.{not, sym, ap, ◌∙◌}
use Rattle.accept.specs.Windows.{line_clear}
use Rattle.accept.proofs.Pairing.{row_next, row-fails, row-end}
use Rattle.accept.proofs.few.later.Goals as goal

pub returns-then-line_hit : goal.returns-then-line_hit
returns-then-line_hit c =
    let l = c.loop-j in
    sym (l.invariant
    ∙ row-fails _ _ _ l.j _ c.loop-j-test.true
    (unfold line_clear in rw (← c.max-from.ensures, ← c.line_hit.ensures) (ap not c.if-line_hit.true)))

pub loop-j-preserved : goal.loop-j-preserved
loop-j-preserved c =
    let l = c.loop-j in
    l.invariant
    ∙ row_next _ _ _ l.j _ c.loop-j-test.true
    (unfold line_clear in rw (← c.max-from.ensures, ← c.line_hit.ensures) (ap not c.if-line_hit.false))

pub returns : goal.returns
returns c = sym (c.loop-j.invariant ∙ row-end _ _ _ _ _ c.loop-j-test.false)
