-- `mend::find::search` meets its contract. The invariant: the windows from i on decide. Assumes nothing.
use mathlib.Core.Path.{◌≡◌}
use Prim.Native.Nat.{◌-◌}
use Rattle.plan.specs.Table.{word_at}
use Rattle.mend.specs.Search.{search_from}
use Rattle.mend.proofs.find.search.Given as goal

abbrev pub invariant-loop-i : goal.invariant-loop-i
invariant-loop-i l =
    search_from l.accepted.view.plan.now l.accepted.view.header (word_at l.columns) l.v l.s 0 l.count ≡ search_from l.accepted.view.plan.now l.accepted.view.header (word_at l.columns) l.v l.s l.i (l.count - l.i)
