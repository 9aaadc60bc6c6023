-- `gf2::keep` meets its contract. The loop's invariant: the first i words are those of the first i members (`Keeping`), and sweeping by
-- the older words and then by the last is sweeping by all of them. Assumes nothing.
use mathlib.Core.Path.{◌≡◌}
use Prim.Native.Nat.{◌≤◌}
use lib.ListN.{length, take}
use Rattle.gf2.proofs.Keeping.{Keeping, LastSwept}
use Rattle.gf2.proofs.keep.Given as goal

abbrev pub invariant-loop-i : goal.invariant-loop-i
invariant-loop-i l = (l.older ≤ l.i) × (length l.kept ≡ 64) × LastSwept l.kept l.older l.last l.i × Keeping l.members (take l.i l.kept) l.i
