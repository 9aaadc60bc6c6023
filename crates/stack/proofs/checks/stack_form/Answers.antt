-- `stack::checks::stack_form` meets its contract. Assumes nothing.
use mathlib.Core.Path.{◌≡◌, ap, ◌∙◌}
use Prim.Native.Nat.{ℕ}
use mathlib.Core.Bool.{Bool}
use Rattle.stackform.specs.Stack.{stack_broken}
use Rattle.plan.specs.Verdict.{refusal, verdict_if, told}
use Rattle.stack.proofs.checks.stack_form.Goals as goal

pub returns : goal.returns
returns c =
    let s = c.args.stack.now in
    let e = c.broken.ensures ∙ ap (λ (k : ℕ). stack_broken k s) c.sheet_bytes.ensures.0 in
    let r : told c.refuse_if.result ≡ verdict_if c.broken.result (refusal 20 0 0) = c.refuse_if.ensures in
    r ∙ ap (λ (b : Bool). verdict_if b (refusal 20 0 0)) e
