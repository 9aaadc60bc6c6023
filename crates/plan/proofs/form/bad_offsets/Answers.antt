-- `plan::form::bad_offsets` meets its contract: the rule is computed in `ruled`. Assumes nothing.
use mathlib.Core.Path.{◌≡◌}
use mathlib.Core.Bool.{not, ◌||◌}
use Prim.Native.Nat.{ℕ}
use lib.Dec.{eqb}
use Rattle.plan.specs.declared.header.Header.{Header}
use Rattle.plan.specs.Header.{ruled}
use Rattle.plan.specs.Form.{bad_offsets}
use Rattle.plan.proofs.form.bad_offsets.Goals as goal

compared : (size : ℕ) (h r : Header) → r ≡ ruled h
    → (not (eqb h.rows r.rows) || not (eqb h.columns r.columns) || not (eqb h.checks r.checks) || not (eqb h.total r.total)
    || not (eqb size r.total)) ≡ bad_offsets size h
unfolding bad_offsets ruled
compared size h r e = rw e

pub returns : goal.returns
returns c = compared c.args.size c.args.h _ c.ruled-by_rule.ensures
