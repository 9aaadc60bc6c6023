use mathlib.Core.Path.{sym, ◌∙◌}
use native.Mathlib.Omega.{arith}
use native.Mathlib.Numerals.{add-one}
use Rattle.gf2.specs.Xor.{◌⊕◌}
use Rattle.gf2.proofs.Swept.{swept-next, swept-end}
use Rattle.gf2.proofs.sweep.Goals as goal

pub loop-word-preserved : goal.loop-word-preserved
unfolding ◌⊕◌
loop-word-preserved c =
    let a = c.loop-word in
    a.invariant ∙ swept-next _ a.word-index a.left (omega arith) ∙ rw (← c.min-left.ensures, add-one)

pub returns : goal.returns
returns c = sym (c.loop-word.invariant ∙ swept-end _ c.loop-word.word-index c.loop-word.left (omega arith))
