-- The checks before reading a stack pass exactly where the plan is accepted and the three buffers are right.
--
--   StackFits                what holds where they pass
--   stack-zero, stacks-pass  they pass exactly there
--   sized                    so the three buffers have the lengths of a stack of as many sheets as the header tells
--   refuses, reads           an answer of the checks, and what is left by it: a refusal leaves the buffers; else each sheet is read
--
-- Assumes nothing.
use mathlib.Core.Path.{◌≡◌, sym, ap, ap₂, ◌∙◌}
use mathlib.Core.List.{List}
use Prim.Native.Nat.{ℕ, ◌*◌}
use borrow.Author.Tests.{eq-eqb, ne_eqb}
use lib.ListN.{length}
use Rattle.stackform.specs.Stack.{sheet_count, stack_broken}
use Rattle.stackform.proofs.Header.{Whole, whole, whole-passes}
use Rattle.plan.specs.declared.verdict.Verdict.{Verdict}
use Rattle.plan.specs.Verdict.{accepted}
use Rattle.plan.specs.Bytes.{code_of}
use Rattle.plan.proofs.Sequence.{else-second, else-zero, if-zero}
use Rattle.accept.specs.Verdict.{plan_verdict, Accepted}
use Rattle.accept.proofs.Acceptance.{accepted-plan, plan-accepted}
use Rattle.buffers.specs.Buffers.{numbers_size, numbers_length}
use Rattle.buffers.proofs.Passing.{length-right, right-length}
use Rattle.stack.specs.ReadStack.{sheet_size, data_bytes, stack_form, stack_checks, Lent, lent, each_read, stack_read, read_stack}
use Rattle.stack.specs.Step.{Sized}
use Rattle.stack.proofs.Order.{number_of}

pub record StackFits (plan stack numbers bits : List ℕ) : Type 0 where
  pub accepted : Accepted plan
  pub whole : Whole (sheet_size (code_of plan)) stack
  pub numbers_len : length numbers ≡ sheet_count stack * numbers_size
  pub bits_size : length bits ≡ sheet_count stack * data_bytes (code_of plan)

pub sized : {plan stack numbers bits : List ℕ} → StackFits plan stack numbers bits → Sized (code_of plan) (sheet_count stack) (lent stack numbers bits)
sized F = record { stack_size = F.whole.long; numbers_len = F.numbers_len; bits_size = F.bits_size }

module _ (plan stack numbers bits : List ℕ) where
  pub stack-zero : (stack_checks plan stack numbers bits).number ≡ 0 → StackFits plan stack numbers bits
  unfolding stack_checks
  stack-zero e =
      let p = else-zero (plan_verdict plan) _ e in
      let q = else-zero (stack_form (code_of plan) stack) _ p.1 in
      let r = else-zero (numbers_length (sheet_count stack) numbers) _ q.1 in
      record {
        accepted = accepted-plan plan p.0;
        whole = whole (sheet_size (code_of plan)) stack (if-zero (stack_broken (sheet_size (code_of plan)) stack) 19 0 0 q.0);
        numbers_len = length-right 20 numbers _ r.0;
        bits_size = length-right 11 bits _ r.1;
      }

  form-passes : StackFits plan stack numbers bits → stack_form (code_of plan) stack ≡ accepted
  form-passes F = rw (whole-passes (sheet_size (code_of plan)) stack F.whole)

  pub stacks-pass : StackFits plan stack numbers bits → stack_checks plan stack numbers bits ≡ accepted
  unfolding stack_checks
  stacks-pass F =
      else-second (plan_verdict plan) _ (number_of (plan-accepted plan F.accepted))
      ∙ else-second (stack_form (code_of plan) stack) _ (number_of (form-passes F))
      ∙ else-second (numbers_length (sheet_count stack) numbers) _ (number_of (right-length 21 numbers _ F.numbers_len))
      ∙ right-length 12 bits _ F.bits_size

  -- ---- what the answer of the checks decides

  module _ (v : Verdict) (e : v ≡ stack_checks plan stack numbers bits) where
    number_is : v.number ≡ (stack_checks plan stack numbers bits).number
    number_is = number_of e

    pub refuses : (v.number ≡ 0 → ⊥) → stack_read v (lent stack numbers bits) ≡ read_stack plan stack numbers bits
    unfolding read_stack
    refuses h =
        ap (λ (u : Verdict). stack_read u (lent stack numbers bits)) e
        ∙ rw (ne_eqb (stack_checks plan stack numbers bits).number 0 (λ z. h (number_is ∙ z)))

    pub reads : v.number ≡ 0 → (l : Lent) → l ≡ each_read plan stack bits → stack_read v l ≡ read_stack plan stack numbers bits
    unfolding read_stack
    reads z l f = ap₂ stack_read e f ∙ rw (eq-eqb (stack_checks plan stack numbers bits).number 0 (sym number_is ∙ z))
