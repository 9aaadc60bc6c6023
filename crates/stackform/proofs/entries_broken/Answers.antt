use mathlib.Core.Path.{sym, ◌∙◌}
use native.Mathlib.Nat.{le_trans}
use native.Mathlib.Omega.{arith}
use Rattle.finite.proofs.Search.{any_here, none_any}
use Rattle.stackform.proofs.entries_broken.Goals as goal

pub returns-then-entry_broken : goal.returns-then-entry_broken
returns-then-entry_broken c =
    sym (any_here _ _ c.loop-i.i (omega arith) (sym c.entry_broken.ensures ∙ c.if-entry_broken.true))

pub returns : goal.returns
returns c = sym (none_any _ _ (λ k l. c.loop-i.invariant k (le_trans l c.loop-i-test.false)))
