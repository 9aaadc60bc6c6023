-- `line::choice::search_under` meets its contract: the trial is chosen where all tests are passed, and each way out before is where the plan has
-- more cells or is refused. Assumes nothing.
use mathlib.Core.Path.{ap}
use Prim.Native.Nat.{◌*◌}
use native.Mathlib.Nat.{mul-le-mul}
use native.Mathlib.Omega.{arith}
use Rattle.plan.specs.declared.header.Header.{Header}
use Rattle.plan.specs.Bytes.{code_of}
use Rattle.plan.proofs.Sequence.{passed, turned-back}
use Rattle.accept.proofs.Acceptance.{accepted-plan}
use Rattle.line.proofs.Chosen.{chosen-trial, chosen-refused, chosen-large, chosen-tall, chosen-wide}
use Rattle.line.proofs.choice.search_under.Goals as goal

pub returns-then-plan-lt-LENGTH : goal.returns-then-plan-lt-LENGTH
returns-then-plan-lt-LENGTH c = chosen-refused _ (λ z. omega (arith, (accepted-plan _ z).framed.long))

pub returns-then-h-gt-SMALL : goal.returns-then-h-gt-SMALL
unfolding code_of
returns-then-h-gt-SMALL c =
    let e = ap (λ (h : Header). h.n1) c.header_of-h.ensures in
    chosen-tall _ (omega arith)

pub returns-then-h-gt-SMALL-2 : goal.returns-then-h-gt-SMALL-2
unfolding code_of
returns-then-h-gt-SMALL-2 c =
    let e = ap (λ (h : Header). h.n2) c.header_of-h.ensures in
    chosen-wide _ (omega arith)

pub returns-then-h-gt-SMALL-3 : goal.returns-then-h-gt-SMALL-3
unfolding code_of
returns-then-h-gt-SMALL-3 c =
    let e = ap (λ (h : Header). h.n1 * h.n2) c.header_of-h.ensures in
    chosen-large _ (omega arith)

pub returns-in-Ok : goal.returns-in-Ok
unfolding code_of
returns-in-Ok c =
    let e = ap (λ (h : Header). h.n1 * h.n2) c.header_of-h.ensures in
    chosen-trial _ (passed c.in-Ok.ensures.checked.verdict) (omega arith)

pub returns-in-Err : goal.returns-in-Err
returns-in-Err c = chosen-refused _ (turned-back _ c.in-Err.ensures.checked.verdict)

pub overflow_mul-h : goal.overflow_mul-h
overflow_mul-h c =
    let m = mul-le-mul c.if-h-gt-SMALL.false c.if-h-gt-SMALL-2.false in
    omega arith
