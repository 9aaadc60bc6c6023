-- `mend::strip::box_pattern` meets its contract. The invariant: y has the digits from k on. Assumes nothing.
use mathlib.Core.Path.{◌≡◌}
use Prim.Native.Nat.{◌*◌}
use Rattle.mend.specs.Strip.{laid_digit}
use Rattle.mend.proofs.Turns.{digits_from}
use Rattle.mend.proofs.strip.box_pattern.Given as goal

abbrev pub invariant-loop-k : goal.invariant-loop-k
invariant-loop-k l = l.y ≡ digits_from (l.b1 * l.b2) l.k (laid_digit l.b2 l.a l.x)
