-- `text::put_hexes` meets its contract. The invariant: the bytes of s so far are written. Assumes nothing.
use mathlib.Core.Path.{◌≡◌}
use Prim.Native.Nat.{◌+◌, ◌*◌}
use lib.ListN.{take}
use Rattle.text.specs.Text.{hex_text, Put}
use Rattle.text.proofs.put_hexes.Given as goal

abbrev pub invariant-loop-b : goal.invariant-loop-b
invariant-loop-b l = (l.m ≡ l.n + 2 * l.b-index) × Put l.initial.out l.n (hex_text (take l.b-index l.s)) l.out l.m
