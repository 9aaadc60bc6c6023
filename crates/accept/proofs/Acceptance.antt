-- The test of a plan gives 0 exactly where the plan is accepted, as document 01 words it.
--
--   rows-hold, sparse-rows-hold, hold-rows            check 8 passes exactly where the condition on courses holds
--   columns-hold, sparse-columns-hold, hold-columns   check 9 passes exactly where the condition on needles holds
--   all_hold                    the conditions, where these pass
--   checks-hold, hold-checks    check 10 passes exactly where the condition on check cells holds
--   accepted-plan               where the test gives 0, the plan is accepted
--   plan-accepted               where the plan is accepted, the test gives 0 (and places 0, 0)
--   accepted-with               the same, with the header by its own name
--
-- Assumes nothing.
use mathlib.Core.Path.{◌≡◌, refl, sym, ap, ◌∙◌}
use mathlib.Core.Bool.{Bool, true, cond}
use mathlib.Core.List.{List}
use Prim.Native.Nat.{ℕ, suc, ◌+◌, ◌-◌, ◌*◌, ◌≤◌, ◌<◌}
use native.Mathlib.Decide.{ℕ_discrete}
use native.Mathlib.Omega.{arith}
use lib.Dec.{eqb}
use borrow.Author.Tests.{eq-eqb, ne_eqb, eqb-true}
use Rattle.finite.specs.Search.{least}
use Rattle.finite.proofs.Search.{least_first, least-none}
use Rattle.gf2.specs.Independence.{Independent, spanned}
use Rattle.gf2.specs.Sparse.{Apart, IndependentUpTo}
use Rattle.gf2.proofs.Independence.{free-independent, independent-free}
use Rattle.gf2.proofs.Sparse.{apart-apart, so-apart, free-up-to, so-free}
use Rattle.gf2.proofs.Vectors.{free-least}
use Rattle.boxcode.specs.Code.{Code, Formed, check_joint}
use Rattle.boxcode.specs.Condition.{everyone, in_window, row_member, column_member, column_difference, Conditions, row_pair_free, column_pair_free}
use Rattle.plan.specs.declared.verdict.Verdict.{Verdict}
use Rattle.plan.specs.Verdict.{accepted, ◌or_else◌}
use Rattle.plan.specs.declared.header.Header.{Header}
use Rattle.plan.specs.Header.{header_of}
use Rattle.plan.specs.Accepted.{AcceptedWith}
use Rattle.plan.specs.Bytes.{code_of}
use Rattle.plan.specs.Form.{form_verdict}
use Rattle.plan.proofs.Sequence.{else-zero, else-second}
use Rattle.plan.proofs.Forming.{at_zero, zero-at, formed, form-passes}
use Rattle.std.proofs.Common.{Option, Some, None}
use Rattle.accept.specs.Pairs.{pair_verdict}
use Rattle.accept.specs.Verdict.{rows_verdict, columns_verdict, checks_verdict, conditions_verdict, plan_verdict, Accepted}
use Rattle.accept.proofs.Pairing.{clear-all, all-clear}

-- a pair search that does not refuse is clear
pair-zero : (n : ℕ) (p : Option (ℕ × ℕ)) → (pair_verdict (suc n) p).number ≡ 0 → p ≡ None
pair-zero n (Some (i, j)) e = absurd (omega arith)
pair-zero n None e = refl

-- a test that depends on whether t is 0
when-any : (t : ℕ) (a b : Bool) → t ≡ 0 → cond (eqb t 0) a b ≡ a
when-any t a b e = ap (λ (x : Bool). cond x a b) (eq-eqb t 0 e)

when-few : (t : ℕ) (a b : Bool) → 1 ≤ t → cond (eqb t 0) a b ≡ b
when-few t a b l = ap (λ (x : Bool). cond x a b) (ne_eqb t 0 (λ e. omega arith))

module _ (c : Code) (F : Formed c) where
  rows-clear : (rows_verdict c).number ≡ 0 → (i i' : ℕ) → i ≤ i' → i' + c.b1 ≤ c.n1 → row_pair_free c i i' ≡ true
  unfolding rows_verdict
  rows-clear e i i' l u = clear-all (row_pair_free c) (λ k. k) (c.n1 - c.b1 + 1) (pair-zero 7 _ e) i i' (omega arith) l (omega arith)

  columns-clear : (columns_verdict c).number ≡ 0 → (a a' : ℕ) → a < a' → a' + c.b2 ≤ c.n2 → column_pair_free c a a' ≡ true
  unfolding columns_verdict
  columns-clear e a a' l u =
      clear-all (column_pair_free c) (λ k. k + 1) (c.n2 - c.b2 + 1) (pair-zero 8 _ e) a a' (omega arith) (omega arith) (omega arith)

  rows-hold : (rows_verdict c).number ≡ 0 → c.t ≡ 0 → (i i' : ℕ) → i ≤ i' → i' + c.b1 ≤ c.n1
      → Independent (c.n1 * c.b2) (row_member c i i') c.row_entry
  unfolding row_pair_free
  rows-hold e z i i' l u =
      free-independent (c.n1 * c.b2) (row_member c i i') c.row_entry (sym (when-any c.t _ _ z) ∙ rows-clear e i i' l u)

  columns-hold : (columns_verdict c).number ≡ 0 → c.t ≡ 0 → (a a' : ℕ) → a < a' → a' + c.b2 ≤ c.n2
      → Independent (c.b2 * c.b1) (column_member c a a') (column_difference c a a')
  unfolding column_pair_free
  columns-hold e z a a' l u =
      free-independent (c.b2 * c.b1) (column_member c a a') (column_difference c a a') (sym (when-any c.t _ _ z) ∙ columns-clear e a a' l u)

  sparse-rows-hold : (rows_verdict c).number ≡ 0 → 1 ≤ c.t → (i i' : ℕ) → i ≤ i' → i' + c.b1 ≤ c.n1
      → Apart c.t (c.n1 * c.b2) (in_window c i) (in_window c i') c.row_entry
  unfolding row_pair_free
  sparse-rows-hold e z i i' l u =
      apart-apart c.t (c.n1 * c.b2) (in_window c i) (in_window c i') c.row_entry (sym (when-few c.t _ _ z) ∙ rows-clear e i i' l u)

  sparse-columns-hold : (columns_verdict c).number ≡ 0 → 1 ≤ c.t → (a a' : ℕ) → a < a' → a' + c.b2 ≤ c.n2
      → IndependentUpTo c.t (c.b2 * c.b1) (column_member c a a') (column_difference c a a')
  unfolding column_pair_free
  sparse-columns-hold e z a a' l u =
      free-up-to c.t (c.b2 * c.b1) (column_member c a a') (column_difference c a a') (sym (when-few c.t _ _ z) ∙ columns-clear e a a' l u)

  pub hold-rows : Conditions c → rows_verdict c ≡ accepted
  unfolding rows_verdict row_pair_free
  hold-rows K =
      ap (pair_verdict 8)
      (all-clear (row_pair_free c) (λ k. k) (c.n1 - c.b1 + 1) (λ i i' _ l u. go (ℕ_discrete c.t 0) i i' l (omega (arith, F.n1_least))))
    where
      go : Dec (c.t ≡ 0) → (i i' : ℕ) → i ≤ i' → i' + c.b1 ≤ c.n1 → row_pair_free c i i' ≡ true
      go (yes z) i i' l u = when-any c.t _ _ z ∙ independent-free (c.n1 * c.b2) (row_member c i i') c.row_entry (K.rows z i i' l u)
      go (no z) i i' l u =
          when-few c.t _ _ (omega arith)
          ∙ so-apart c.t (c.n1 * c.b2) (in_window c i) (in_window c i') c.row_entry (K.sparse_rows (omega arith) i i' l u)

  pub hold-columns : Conditions c → columns_verdict c ≡ accepted
  unfolding columns_verdict column_pair_free
  hold-columns K =
      ap (pair_verdict 9)
      (all-clear (column_pair_free c) (λ k. k + 1) (c.n2 - c.b2 + 1)
      (λ a a' _ l u. go (ℕ_discrete c.t 0) a a' (omega arith) (omega (arith, F.n2_least))))
    where
      go : Dec (c.t ≡ 0) → (a a' : ℕ) → a < a' → a' + c.b2 ≤ c.n2 → column_pair_free c a a' ≡ true
      go (yes z) a a' l u = when-any c.t _ _ z ∙ independent-free (c.b2 * c.b1) (column_member c a a') (column_difference c a a') (K.columns z a a' l u)
      go (no z) a a' l u =
          when-few c.t _ _ (omega arith)
          ∙ so-free c.t (c.b2 * c.b1) (column_member c a a') (column_difference c a a') (K.sparse_columns (omega arith) a a' l u)

  pub checks-hold : (checks_verdict c).number ≡ 0 → Independent (c.rv + c.rh) everyone (check_joint c)
  unfolding checks_verdict
  checks-hold e =
      free-independent (c.rv + c.rh) everyone (check_joint c)
      (free-least (c.rv + c.rh) (check_joint c)
      ∙ eq-eqb _ _ (least-none (c.rv + c.rh) _ (at_zero (c.rv + c.rh) (λ k. spanned k everyone (check_joint c) (check_joint c k)) 9 _ 0 e)))

  pub hold-checks : Independent (c.rv + c.rh) everyone (check_joint c) → checks_verdict c ≡ accepted
  unfolding checks_verdict
  hold-checks h =
      let p : ℕ → Bool = λ k. spanned k everyone (check_joint c) (check_joint c k) in
      let e : least (c.rv + c.rh) p ≡ c.rv + c.rh =
      eqb-true _ _ (sym (free-least (c.rv + c.rh) (check_joint c)) ∙ independent-free (c.rv + c.rh) everyone (check_joint c) h) in
      zero-at (c.rv + c.rh) p _ (λ k l. least_first (c.rv + c.rh) p k (omega arith))

  pub all_hold : (rows_verdict c).number ≡ 0 → (columns_verdict c).number ≡ 0 → Independent (c.rv + c.rh) everyone (check_joint c) → Conditions c
  all_hold r s checks = record {
    rows = rows-hold r;
    columns = columns-hold s;
    sparse_rows = sparse-rows-hold r;
    sparse_columns = sparse-columns-hold s;
    checks = checks;
  }

  pub conditions-hold : (conditions_verdict c).number ≡ 0 → Conditions c
  unfolding conditions_verdict
  conditions-hold e =
      let r = else-zero (rows_verdict c) (columns_verdict c or_else checks_verdict c) e in
      let s = else-zero (columns_verdict c) (checks_verdict c) r.1 in
      all_hold r.0 s.0 (checks-hold s.1)

  pub hold-conditions : Conditions c → conditions_verdict c ≡ accepted
  unfolding conditions_verdict
  hold-conditions h =
      else-second (rows_verdict c) _ (ap (λ (v : Verdict). v.number) (hold-rows h))
      ∙ else-second (columns_verdict c) _ (ap (λ (v : Verdict). v.number) (hold-columns h)) ∙ hold-checks h.checks

pub accepted-plan : (s : List ℕ) → (plan_verdict s).number ≡ 0 → Accepted s
unfolding plan_verdict
accepted-plan s e =
    let z = else-zero (form_verdict s) (conditions_verdict (code_of s)) e in
    let f = formed s z.0 in
    record { framed = f.0; formed = f.1; conditions = conditions-hold (code_of s) f.1 z.1 }

pub plan-accepted : (s : List ℕ) → Accepted s → plan_verdict s ≡ accepted
unfolding plan_verdict
plan-accepted s A =
    else-second (form_verdict s) (conditions_verdict (code_of s)) (ap (λ (v : Verdict). v.number) (form-passes s A.framed A.formed))
    ∙ hold-conditions (code_of s) A.formed A.conditions

-- the same with the header by its own name
pub accepted-with : (s : List ℕ) (h : Header) → h ≡ header_of s → Accepted s → AcceptedWith s h
unfolding code_of
accepted-with s h e A = rw e (record { framed = A.framed; formed = A.formed; conditions = A.conditions })
