-- The order of the checks before reading a stack:
--
--   number_of      equal answers have equal numbers
--   told-plan      a plan that is refused is told, whatever the stack
--   told-form      then 20, where the stack breaks the rules
--   told-numbers   then 21, where the buffer of the numbers has another length
--   told-bits      then 12, where the data buffer has
--
-- Assumes nothing.
use mathlib.Core.Path.{◌≡◌, ap, ◌∙◌}
use mathlib.Core.Bool.{true, false}
use mathlib.Core.List.{List}
use Prim.Native.Nat.{ℕ, suc, ◌*◌}
use native.Mathlib.Omega.{arith}
use borrow.Author.Tests.{ne_eqb}
use lib.ListN.{length}
use Rattle.stackform.specs.Stack.{sheet_count, stack_broken}
use Rattle.plan.specs.declared.verdict.Verdict.{Verdict}
use Rattle.plan.specs.Verdict.{refusal, ◌or_else◌}
use Rattle.plan.specs.Bytes.{code_of}
use Rattle.plan.proofs.Sequence.{else-first, else-second}
use Rattle.accept.specs.Verdict.{plan_verdict}
use Rattle.buffers.specs.Buffers.{numbers_size, length_verdict, numbers_length}
use Rattle.buffers.proofs.Passing.{right-length}
use Rattle.stack.specs.ReadStack.{sheet_size, data_bytes, stack_form, stack_checks}

pub number_of : {v u : Verdict} → v ≡ u → v.number ≡ u.number
number_of e = ap (λ (v : Verdict). v.number) e

-- a check that refuses is told, and no check after it
refuses-first : (v w : Verdict) (k : ℕ) → v ≡ refusal (suc k) 0 0 → v or_else w ≡ refusal (suc k) 0 0
refuses-first v w k e = else-first v w (λ z. let f = number_of e in omega arith) ∙ e

wrong-length : (k : ℕ) (s : List ℕ) (size : ℕ) → (length s ≡ size → ⊥) → length_verdict k s size ≡ refusal k 0 0
unfolding length_verdict
wrong-length k s size h = rw (ne_eqb (length s) size h)

module _ (plan stack numbers bits : List ℕ) where
  pub told-plan : ((plan_verdict plan).number ≡ 0 → ⊥) → stack_checks plan stack numbers bits ≡ plan_verdict plan
  unfolding stack_checks
  told-plan h = else-first (plan_verdict plan) _ h

  module _ (e : (plan_verdict plan).number ≡ 0) where
    pub told-form : stack_broken (sheet_size (code_of plan)) stack ≡ true → stack_checks plan stack numbers bits ≡ refusal 20 0 0
    unfolding stack_checks
    told-form b = else-second (plan_verdict plan) _ e ∙ refuses-first (stack_form (code_of plan) stack) _ 19 (rw b)

    module _ (b : stack_broken (sheet_size (code_of plan)) stack ≡ false) where
      form-passes : (stack_form (code_of plan) stack).number ≡ 0
      form-passes = rw b

      pub told-numbers : (length numbers ≡ sheet_count stack * numbers_size → ⊥) → stack_checks plan stack numbers bits ≡ refusal 21 0 0
      unfolding stack_checks
      told-numbers h =
          else-second (plan_verdict plan) _ e
          ∙ else-second (stack_form (code_of plan) stack) _ form-passes
          ∙ refuses-first (numbers_length (sheet_count stack) numbers) _ 20 (wrong-length 21 numbers (sheet_count stack * numbers_size) h)

      pub told-bits : length numbers ≡ sheet_count stack * numbers_size → (length bits ≡ sheet_count stack * data_bytes (code_of plan) → ⊥)
          → stack_checks plan stack numbers bits ≡ refusal 12 0 0
      unfolding stack_checks
      told-bits l h =
          else-second (plan_verdict plan) _ e
          ∙ else-second (stack_form (code_of plan) stack) _ form-passes
          ∙ else-second (numbers_length (sheet_count stack) numbers) _ (number_of (right-length 21 numbers (sheet_count stack * numbers_size) l))
          ∙ wrong-length 12 bits (sheet_count stack * data_bytes (code_of plan)) h
