-- `accept::search::search` meets its contract. The invariants: no pair so far fails, and what is left to search is said by the definition.
-- Assumes nothing.
use Rattle.std.proofs.Common.{◌≡◌, ◌+◌, ◌-◌, ◌≤◌, length, None}
use Rattle.plan.specs.Table.{word_at}
use Rattle.accept.specs.Pairs.{in_row, from_row, first_failing}
use Rattle.accept.specs.Windows.{windows_free, start_of}
use Rattle.accept.proofs.search.search.Given as goal

abbrev pub invariant-search : goal.invariant-search
invariant-search l =
    let ok = windows_free l.t (word_at l.words) l.step l.size in
    (length l.rest ≡ length l.words) × (l.found ≡ None)
    × (first_failing ok (start_of l.t) l.count ≡ from_row ok (start_of l.t) l.count l.i (l.count - l.i))

abbrev pub invariant-loop-j : goal.invariant-loop-j
invariant-loop-j l =
    let ok = windows_free l.t (word_at l.words) l.step l.size in
    (l.i ≤ l.j) × (l.found ≡ None)
    × (first_failing ok (start_of l.t) l.count
    ≡ in_row ok l.i l.j (l.count - l.j) (from_row ok (start_of l.t) l.count (l.i + 1) (l.count - (l.i + 1))))
