-- `text::put_lines` meets its contract. The invariant: the numbers of s so far are written, in at most 21 bytes each. Assumes nothing.
use Prim.Native.Nat.{◌+◌, ◌*◌, ◌≤◌}
use lib.ListN.{take}
use Rattle.text.specs.Text.{lines_text, Put}
use Rattle.text.proofs.put_lines.Given as goal

abbrev pub invariant-loop-x : goal.invariant-loop-x
invariant-loop-x l = (l.m ≤ l.n + 21 * l.x-index) × Put l.initial.out l.n (lines_text (take l.x-index l.s)) l.out l.m
