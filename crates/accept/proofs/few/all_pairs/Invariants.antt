-- `accept::few::all_pairs` meets its contract. The invariant: the rows from i on decide. Assumes nothing.
use Rattle.std.proofs.Common.{◌≡◌, ◌-◌, length}
use Rattle.plan.specs.Table.{word_at}
use Rattle.accept.specs.Pairs.{from_row, first_failing}
use Rattle.accept.specs.Windows.{few_free, start_of}
use Rattle.accept.proofs.few.all_pairs.Given as goal

abbrev pub invariant-loop-i : goal.invariant-loop-i
invariant-loop-i l =
    let ok = few_free l.table (word_at l.words) l.t (length l.words) l.step l.size in
    (length l.rest ≡ length l.words)
    × (first_failing ok (start_of l.table) l.count ≡ from_row ok (start_of l.table) l.count l.i (l.count - l.i))
