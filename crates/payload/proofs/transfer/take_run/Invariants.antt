-- `payload::transfer::take_run` meets its contract. The invariant: the first j cells of the run have given their data bits. Assumes nothing.
use mathlib.Core.Path.{◌≡◌}
use Rattle.payload.specs.Transfer.{take_run}
use Rattle.payload.proofs.transfer.take_run.Given as goal

abbrev pub invariant-loop-j : goal.invariant-loop-j
invariant-loop-j l = l.bits ≡ take_run l.j l.lay l.n1 l.n2 l.sheet l.k l.initial.bits l.at
