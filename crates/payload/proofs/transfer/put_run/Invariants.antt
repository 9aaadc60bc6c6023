-- `payload::transfer::put_run` meets its contract. The invariant: the first j cells of the run have their data bits. Assumes nothing.
use mathlib.Core.Path.{◌≡◌}
use Rattle.payload.specs.Transfer.{put_run}
use Rattle.payload.proofs.transfer.put_run.Given as goal

abbrev pub invariant-loop-j : goal.invariant-loop-j
invariant-loop-j l = l.sheet ≡ put_run l.j l.k l.bits l.lay l.n1 l.n2 l.initial.sheet l.at
