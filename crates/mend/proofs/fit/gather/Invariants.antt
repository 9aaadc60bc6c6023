-- `mend::fit::gather` meets its contract. The invariant: the first k words of the part are the first k entries of the window. Assumes nothing.
use mathlib.Core.Path.{◌≡◌}
use Prim.Native.Nat.{ℕ, ◌<◌}
use lib.ListN.{get_or}
use Rattle.plan.specs.Bytes.{code_with}
use Rattle.mend.specs.Window.{entry_at}
use Rattle.mend.proofs.fit.gather.Given as goal

abbrev pub invariant-loop-k : goal.invariant-loop-k
invariant-loop-k l = (j : ℕ) → j < l.k → get_or l.word-items j 0 ≡ entry_at (code_with l.view.plan.now l.view.header) l.i j
