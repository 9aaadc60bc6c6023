-- `stack::checks::lent_checks` meets its contract: the count is looked at where the stack keeps the rules. Assumes nothing.
use mathlib.Core.Path.{◌≡◌, ◌∙◌}
use mathlib.Core.List.{List}
use Rattle.stackform.specs.Stack.{stack_broken}
use Rattle.stackform.proofs.Header.{Whole, whole}
use Rattle.boxcode.specs.Code.{Code}
use Prim.Native.Nat.{ℕ}
use Rattle.plan.specs.Bytes.{code_with}
use Rattle.plan.specs.Verdict.{accepted}
use Rattle.plan.proofs.Sequence.{passed, stops, goes-on, if-zero}
use Rattle.stack.specs.ReadStack.{sheet_size, stack_form}
use Rattle.stack.proofs.checks.lent_checks.Goals as goal

-- a stack that passed check 20 keeps the rules
kept : (c : Code) (s : List ℕ) → accepted ≡ stack_form c s → Whole (sheet_size c) s
kept c s e = whole _ _ (if-zero (stack_broken (sheet_size c) s) 19 0 0 (passed e))

pub returns-in_err-stack_form : goal.returns-in_err-stack_form
returns-in_err-stack_form c = stops _ _ _ c.from_residual.ensures.1 c.in_err-stack_form.ensures

pub count_of-requires : goal.count_of-requires
count_of-requires c =
    (kept (code_with c.args.accepted.view.plan.now c.args.accepted.view.header) c.args.stack.now c.in_ok-stack_form.ensures).counted

pub room_checks-requires : goal.room_checks-requires
room_checks-requires c =
    let K = kept (code_with c.args.accepted.view.plan.now c.args.accepted.view.header) c.args.stack.now c.in_ok-stack_form.ensures in
    record { count_bound = rw c.count_of.ensures.0 K.most }

pub returns : goal.returns
returns c = goes-on c.in_ok-stack_form.ensures (rw c.count_of.ensures.0 at c.room_checks.ensures)
