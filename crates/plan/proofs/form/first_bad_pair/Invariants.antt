-- `plan::form::first_bad_pair` meets its contract. The invariant: no pair before k is bad. Assumes nothing.
use Rattle.std.proofs.Common.{◌≡◌, false, ℕ, ◌<◌}
use Rattle.plan.specs.Bytes.{code_with}
use Rattle.plan.specs.Form.{bad_pair}
use Rattle.plan.proofs.form.first_bad_pair.Given as goal

abbrev pub invariant-loop-k : goal.invariant-loop-k
invariant-loop-k l = (j : ℕ) → j < l.k → bad_pair (code_with l.view.plan.now l.view.header) j ≡ false
