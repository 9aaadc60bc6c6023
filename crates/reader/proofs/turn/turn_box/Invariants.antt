-- `reader::turn::turn_box` meets its contract. The invariant: the first k digits are turned over. Assumes nothing.
use mathlib.Core.Path.{◌≡◌}
use Rattle.reader.specs.Turn.{digits_turned}
use Rattle.reader.proofs.turn.turn_box.Given as goal

abbrev pub invariant-loop-k : goal.invariant-loop-k
invariant-loop-k l = l.sheet ≡ digits_turned l.lay l.n1 l.n2 l.initial.sheet l.top l.left l.b2 l.x l.k
