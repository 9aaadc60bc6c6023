-- `accept::few::later` meets its contract. The invariant: no window so far has a set with one of the sums. Assumes nothing.
use Rattle.std.proofs.Common.{◌≡◌, ◌-◌, None}
use Rattle.plan.specs.Table.{word_at}
use Rattle.sparse.specs.Sets.{one_of}
use Rattle.accept.specs.Pairs.{in_row}
use Rattle.accept.specs.Windows.{line_clear}
use Rattle.accept.proofs.few.later.Given as goal

abbrev pub invariant-loop-j : goal.invariant-loop-j
invariant-loop-j l =
    let ok = line_clear l.t (word_at l.words) l.floor l.step l.size (one_of l.sums) in
    in_row ok l.i l.initial.j (l.count - l.initial.j) None ≡ in_row ok l.i l.j (l.count - l.j) None
