-- The answer of making a plan is small: its number and places fit the fields of the packed answer.
--
--   make-fits
--
-- Assumes nothing.
use mathlib.Core.Bool.{◌||◌}
use mathlib.Core.List.{List}
use Prim.Native.Nat.{ℕ, ◌+◌, ◌-◌}
use native.Mathlib.Omega.{arith}
use lib.Dec.{ltb}
use lib.ListN.{length}
use Rattle.boxcode.specs.Condition.{row_pair_free, column_pair_free}
use Rattle.plan.specs.Verdict.{refusal, ◌or_else◌}
use Rattle.plan.specs.Form.{fields_verdict}
use Rattle.accept.specs.Verdict.{rows_verdict, columns_verdict}
use Rattle.accept.proofs.Range.{SmallVerdict, else-fits, if-fits, pair_fits, refusal-fits, fields-fits}
use Rattle.maker.specs.declared.parameters.Parameters.{Parameters}
use Rattle.maker.specs.Taken.{bare_code}
use Rattle.maker.specs.Make.{header_for, row_table, column_table, taken_cells, bad_polynomial, polynomials_verdict, taken_verdict}
use Rattle.maker.specs.Make.{given_checks, make_checks, outcome, make}
use Rattle.maker.proofs.Given.{given-good}

given-fits : (g : Parameters) (size : ℕ) → SmallVerdict (given_checks g size)
unfolding given_checks polynomials_verdict
given-fits g size =
    else-fits (fields_verdict size (header_for g)) (polynomials_verdict g) (fields-fits size (header_for g))
    (λ _. if-fits (bad_polynomial g.rv g.vlow || bad_polynomial g.rh g.hlow) (refusal 15 0 0) (λ _. refusal-fits 15 (omega arith)))

pub make-fits : (g : Parameters) (plan : List ℕ) → SmallVerdict (make g plan).verdict
unfolding make outcome make_checks rows_verdict columns_verdict taken_verdict
make-fits g plan =
    let h = header_for g in
    let c = bare_code h (row_table g) (column_table g) in
    let taken = taken_verdict h (row_table g) (column_table g) in
    else-fits (given_checks g (length plan)) (rows_verdict c or_else columns_verdict c or_else taken) (given-fits g (length plan))
    (λ e. let p = (given-good g (length plan) e).small in
    else-fits (rows_verdict c) (columns_verdict c or_else taken)
    (pair_fits 8 (h.n1 - h.b1 + 1) (row_pair_free c) (λ i. i) (omega arith) (omega arith) (omega (arith, p.n1_most)) (λ k l. omega arith))
    (λ _. else-fits (columns_verdict c) taken
    (pair_fits 9 (h.n2 - h.b2 + 1) (column_pair_free c) (λ i. i + 1) (omega arith) (omega arith) (omega (arith, p.n2_most)) (λ k l. omega arith))
    (λ _. if-fits (ltb (length (taken_cells h (row_table g) (column_table g))) (h.rv + h.rh)) (refusal 16 0 0) (λ _. refusal-fits 16 (omega arith)))))
