-- `plan::view::View::unpack` meets its contract. The invariant: the first k words are the first k entries. Assumes nothing.
use Rattle.std.proofs.Common.{◌≡◌, ℕ, ◌<◌, length, get_or}
use Rattle.plan.specs.Bytes.{Weight}
use Rattle.plan.specs.Table.{entry_of}
use Rattle.plan.proofs.view.View.unpack.Given as goal

abbrev pub invariant-loop-k : goal.invariant-loop-k
invariant-loop-k l = (length l.words ≡ 2792) × ((j : ℕ) → j < l.k → Weight (entry_of l.self.plan.now l.self.header l.t j) (get_or l.words j 0))
