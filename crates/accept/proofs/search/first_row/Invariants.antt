-- `accept::search::first_row` meets its contract. The invariant: no pair so far fails, by what the first window leaves. Assumes nothing.
use Rattle.std.proofs.Common.{◌≡◌, ◌-◌, None}
use Rattle.accept.specs.Pairs.{in_row}
use Rattle.accept.proofs.Remains.{left}
use Rattle.accept.proofs.search.first_row.Given as goal

abbrev pub invariant-loop-j : goal.invariant-loop-j
invariant-loop-j l =
    let ok = left l.taken l.rest l.size l.step in
    in_row ok 0 l.initial.j (l.count - l.initial.j) None ≡ in_row ok 0 l.j (l.count - l.j) None
