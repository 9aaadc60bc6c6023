-- `mend::strip::first_strip` meets its contract. The invariant: on no strip before a has the pattern the H sum. Assumes nothing.
use mathlib.Core.Path.{◌≡◌}
use mathlib.Core.Bool.{false}
use Prim.Native.Nat.{ℕ, ◌<◌}
use Rattle.plan.specs.Table.{word_at}
use Rattle.mend.specs.Strip.{fits_on}
use Rattle.mend.proofs.strip.first_strip.Given as goal

abbrev pub invariant-loop-a : goal.invariant-loop-a
invariant-loop-a l = (j : ℕ) → j < l.a → fits_on l.h.b1 l.h.b2 (word_at l.columns) l.i l.x l.s j ≡ false
