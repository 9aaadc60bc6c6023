use mathlib.Core.Path.{sym, ◌∙◌}
use native.Mathlib.Omega.{arith}
use Rattle.mend.proofs.Windows.{search-misses, search-finds, search-ends}
use Rattle.mend.proofs.find.search.Goals as goal

pub returns-in-loop-i : goal.returns-in-loop-i
returns-in-loop-i c =
    c.on_strips.ensures
    ∙ search-finds _ _ _ _ _ _ _ _ _ c.loop-i.invariant c.loop-i-test.true (sym c.window_fit.ensures ∙ c.in-Some.is)

pub loop-i-preserved : goal.loop-i-preserved
loop-i-preserved c =
    search-misses _ _ _ _ _ _ _ _ c.loop-i.invariant c.loop-i-test.true (sym c.window_fit.ensures ∙ c.in_default.is)

pub returns : goal.returns
returns c = search-ends _ _ _ _ _ _ _ _ c.loop-i.invariant (omega arith)
