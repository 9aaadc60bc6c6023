-- `plan::form::first_large` meets its contract. The invariant: no entry before k is too large. Assumes nothing.
use Rattle.std.proofs.Common.{◌≡◌, false, ℕ, ◌^◌, ◌<◌, nat_le}
use Rattle.plan.specs.Table.{entry_of}
use Rattle.plan.proofs.form.first_large.Given as goal

abbrev pub invariant-loop-k : goal.invariant-loop-k
invariant-loop-k l = (j : ℕ) → j < l.k → nat_le (2 ^ l.width) (entry_of l.view.plan.now l.view.header l.t j) ≡ false
