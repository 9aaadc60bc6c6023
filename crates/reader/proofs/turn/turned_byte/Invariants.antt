-- `reader::turn::turned_byte` meets its contract. The invariant: the byte after the first m digits. Assumes nothing.
use mathlib.Core.Path.{◌≡◌}
use lib.ListN.{get_or}
use Rattle.layout.specs.declared.stored.Layout.TheVariants.{ByRow}
use Rattle.reader.specs.Turn.{digits_turned}
use Rattle.reader.proofs.turn.turned_byte.Given as goal

abbrev pub invariant-loop-m : goal.invariant-loop-m
invariant-loop-m l = l.y ≡ get_or (digits_turned ByRow l.n1 l.n2 l.sheet l.top l.left l.b2 l.x l.m) l.k 0
