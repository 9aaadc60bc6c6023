use Rattle.std.proofs.Common.{sym, ◌∙◌}
use Rattle.accept.proofs.Pairing.{row_next, row-fails, row-end}
use Rattle.accept.proofs.Remains.{row-left}
use Rattle.accept.proofs.search.first_row.Goals as goal

pub returns-then-not-pair_free : goal.returns-then-not-pair_free
returns-then-not-pair_free c =
    let l = c.loop-j in
    row-left c.args.t c.args.words.now c.requires.0 c.prepare-taken.ensures c.start_of-j.ensures
    (l.invariant ∙ row-fails _ _ _ l.j _ c.loop-j-test.true (sym c.pair_free.ensures ∙ c.if-not-pair_free.true))

pub loop-j-preserved : goal.loop-j-preserved
loop-j-preserved c =
    let l = c.loop-j in
    l.invariant ∙ row_next _ _ _ l.j _ c.loop-j-test.true (sym c.pair_free.ensures ∙ c.if-not-pair_free.false)

pub returns : goal.returns
returns c =
    row-left c.args.t c.args.words.now c.requires.0 c.prepare-taken.ensures c.start_of-j.ensures
    (c.loop-j.invariant ∙ row-end _ _ _ _ _ c.loop-j-test.false)
