use mathlib.Core.Path.{sym, ◌∙◌}
use native.Mathlib.Omega.{arith}
use Rattle.layout.specs.declared.stored.Layout.TheVariants.{ByRow}
use Rattle.layout.proofs.Agreement.{agree-ends, agree-stops}
use Rattle.reader.proofs.Turned.{box-length}
use Rattle.scans.proofs.agree.mended_agree.Goals as goal

pub returns-then-mended_byte : goal.returns-then-mended_byte
returns-then-mended_byte c =
    let a = c.args in
    let n = box-length ByRow a.h.n1 a.h.n2 a.first.now a.burst.top a.burst.left a.h.b1 a.h.b2 a.burst.pattern in
    sym
    (agree-stops _ _ c.loop-k.k (omega arith)
    (λ e. c.if-mended_byte.true (c.mended_byte.ensures ∙ e ∙ sym c.mended_byte-in-loop-k.ensures)))

pub returns : goal.returns
returns c =
    let a = c.args in
    let n = box-length ByRow a.h.n1 a.h.n2 a.first.now a.burst.top a.burst.left a.h.b1 a.h.b2 a.burst.pattern in
    sym (agree-ends _ _ (λ j l. c.loop-k.invariant j (omega arith)))
