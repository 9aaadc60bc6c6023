-- The test of a plan: checks 8, 9 and 10, and all ten in order.
--
--   rows_verdict        check 8: the first pair of windows i ≤ i' whose V entries are dependent
--   columns_verdict     check 9: the first pair of strips c < c' whose members are dependent
--   checks_verdict      check 10: the first check cell whose joint entry is an exclusive-or of earlier ones
--   conditions_verdict  the three in order
--   plan_verdict        checks 1 to 10 in order: the answer of the test of a plan
--   Accepted s          the plan s meets the rules of form and the three conditions, as document 01 words them
use Rattle.std.specs.Prelude.{ℕ, ◌+◌, ◌-◌, List}
use Rattle.finite.specs.Search.{least}
use Rattle.gf2.specs.Independence.{spanned}
use Rattle.boxcode.specs.Code.{Code, check_joint}
use Rattle.boxcode.specs.Condition.{everyone, row_pair_free, column_pair_free}
use Rattle.plan.specs.declared.verdict.Verdict.{Verdict}
use Rattle.plan.specs.Verdict.{refusal, ◌or_else◌}
use Rattle.plan.specs.Header.{header_of}
use Rattle.plan.specs.Bytes.{code_of}
use Rattle.plan.specs.Accepted.{AcceptedAs}
use Rattle.plan.specs.Form.{verdict_at, form_verdict}
use Rattle.accept.specs.Pairs.{first_failing, pair_verdict}

unfoldable pub rows_verdict : Code → Verdict
rows_verdict c = pair_verdict 8 (first_failing (row_pair_free c) (λ i. i) (c.n1 - c.b1 + 1))

unfoldable pub columns_verdict : Code → Verdict
columns_verdict c = pair_verdict 9 (first_failing (column_pair_free c) (λ a. a + 1) (c.n2 - c.b2 + 1))

unfoldable pub checks_verdict : Code → Verdict
checks_verdict c =
    let k = least (c.rv + c.rh) (λ k. spanned k everyone (check_joint c) (check_joint c k)) in
    verdict_at (c.rv + c.rh) k (refusal 10 k 0)

unfoldable pub conditions_verdict : Code → Verdict
conditions_verdict c = rows_verdict c or_else columns_verdict c or_else checks_verdict c

unfoldable pub plan_verdict : List ℕ → Verdict
plan_verdict s = form_verdict s or_else conditions_verdict (code_of s)

abbrev pub Accepted : List ℕ → Type 0
Accepted s = AcceptedAs s (header_of s) (code_of s)
