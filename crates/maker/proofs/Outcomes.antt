-- The outcome of making a plan, check after check.
--
--   outcome-refused, outcome-done   a refusal leaves the buffer, and where there is none the plan is there
--   make-given    a check of the numbers fails
--   make-tables   check 8 or 9 fails
--   make-taken    they pass: check 16 and the bytes
--
-- Assumes nothing.
use mathlib.Core.Path.{◌≡◌, sym, ap, ◌∙◌}
use mathlib.Core.List.{List}
use Prim.Native.Nat.{ℕ}
use borrow.Author.Tests.{eq-eqb, ne_eqb}
use lib.ListN.{length}
use Rattle.plan.specs.declared.verdict.Verdict.{Verdict}
use Rattle.plan.specs.Verdict.{◌or_else◌}
use Rattle.plan.proofs.Sequence.{else-first, else-second, else-assoc, same-zero, same-other}
use Rattle.accept.specs.Verdict.{rows_verdict, columns_verdict}
use Rattle.encode.specs.Encode.{plan_bytes}
use Rattle.maker.specs.declared.parameters.Parameters.{Parameters}
use Rattle.maker.specs.Taken.{bare_code}
use Rattle.maker.specs.Make.{header_for, row_table, column_table, made_code, taken_verdict, given_checks, make_checks, made, outcome, make}

-- v is the answer as the code has it
module _ {v w : Verdict} (new old : List ℕ) (e : v ≡ w) where
  pub outcome-refused : (v.number ≡ 0 → ⊥) → made v old ≡ outcome w new old
  unfolding outcome
  outcome-refused n = rw (← e, ne_eqb v.number 0 n)

  pub outcome-done : {s : List ℕ} → v.number ≡ 0 → s ≡ new → made v s ≡ outcome w new old
  unfolding outcome
  outcome-done z q = rw (← e, eq-eqb v.number 0 z, q)

module _ (g : Parameters) (plan : List ℕ) where
  -- the bytes of the made plan
  abbrev bytes : List ℕ
  bytes = plan_bytes (header_for g) (made_code (header_for g) (row_table g) (column_table g))

  -- checks 8 and 9
  abbrev tables : Verdict
  tables = let c = bare_code (header_for g) (row_table g) (column_table g) in rows_verdict c or_else columns_verdict c

  abbrev given : Verdict
  given = given_checks g (length plan)

  pub make-given : {v : Verdict} → v ≡ given → (v.number ≡ 0 → ⊥) → made v plan ≡ make g plan
  unfolding make make_checks
  make-given e n = outcome-refused bytes plan (e ∙ sym (else-first given _ (same-other e n))) n

  module _ (passed : given.number ≡ 0) where
    rest : make_checks g (length plan) ≡ (tables or_else taken_verdict (header_for g) (row_table g) (column_table g))
    unfolding make_checks
    rest = else-second given _ passed ∙ sym (else-assoc _ _ _)

    pub make-tables : {v : Verdict} → v ≡ tables → (v.number ≡ 0 → ⊥) → made v plan ≡ make g plan
    unfolding make
    make-tables e n = outcome-refused bytes plan (e ∙ sym (rest ∙ else-first tables _ (same-other e n))) n

    pub make-taken : {v : Verdict} → v ≡ tables → v.number ≡ 0
        → make g plan ≡ outcome (taken_verdict (header_for g) (row_table g) (column_table g)) bytes plan
    unfolding make
    make-taken e z = ap (λ (v : Verdict). outcome v bytes plan) (rest ∙ else-second tables _ (same-zero e z))
