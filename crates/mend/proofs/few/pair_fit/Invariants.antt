-- `mend::few::pair_fit` meets its contract. The invariant: no two words before k have the sum. Assumes nothing.
use mathlib.Core.Path.{◌≡◌}
use Prim.Native.Nat.{ℕ, ◌<◌}
use Rattle.gf2.specs.Xor.{◌⊕◌}
use Rattle.plan.specs.Table.{word_at}
use Rattle.mend.proofs.few.pair_fit.Given as goal

abbrev pub invariant-loop-k : goal.invariant-loop-k
invariant-loop-k w = (l j : ℕ) → l < j → j < w.k → word_at w.words l ⊕ word_at w.words j ≡ w.v → ⊥
