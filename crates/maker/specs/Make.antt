-- Making a plan (document 02, request a): "plans for beds of their own, made from two binary polynomials".
--
--   numbers_of g          the seven numbers of a header that are given, as a header with its places still 0
--   header_for g          the header of the made plan: these numbers, and the places and the length by the rule
--   row_table, column_table the two tables: entry k is z to the power k modulo that polynomial
--   taken_cells h v w     the check cells: taken in sheet order, each if its joint entry is no exclusive-or of those taken; rv + rh at most
--   made_code h v w       the code with these tables and these check cells
--   bad_polynomial d low  a polynomial has constant term 0 or a coefficient at or above its degree
--   polynomials_verdict   check 15, of both polynomials
--   taken_verdict         check 16: fewer than rv + rh cells could be taken
--   given_checks          checks 2, 3, 4, 23, 5 and 15, which look at no table
--   make_checks           checks 2, 3, 4, 23, 5, 15, 8, 9, 16, in this order
--   Made, made            what a call leaves: its answer and the bytes of the plan
--   outcome v new old     the answer v, with the new bytes where it is 0 and else with the old
--   make g plan           the outcome of making a plan from g into the buffer plan
use Rattle.std.specs.Prelude.{ℕ, ◌+◌, ◌*◌, ◌/◌, ◌%◌, ◌^◌, Bool, cond, ◌||◌, List, eqb, leb, ltb, length, get_or}
use Rattle.gf2.specs.Powers.{polynomial, power}
use Rattle.gf2.specs.Taking.{first_taken}
use Rattle.boxcode.specs.Code.{Code}
use Rattle.plan.specs.declared.verdict.Verdict.{Verdict}
use Rattle.plan.specs.declared.header.Header.{Header}
use Rattle.plan.specs.Verdict.{refusal, verdict_if, ◌or_else◌}
use Rattle.plan.specs.Header.{ruled}
use Rattle.plan.specs.Bytes.{code_from}
use Rattle.plan.specs.Form.{fields_verdict}
use Rattle.accept.specs.Verdict.{rows_verdict, columns_verdict}
use Rattle.encode.specs.Encode.{plan_bytes}
use Rattle.maker.specs.declared.parameters.Parameters.{Parameters}
use Rattle.maker.specs.Taken.{bare_code, cell_joint}

abbrev pub numbers_of : Parameters → Header
numbers_of g = record {
  n1 = g.n1;
  n2 = g.n2;
  b1 = g.b1;
  b2 = g.b2;
  rv = g.rv;
  rh = g.rh;
  rows = 0;
  columns = 0;
  checks = 0;
  total = 0;
  t = g.t;
}

abbrev pub header_for : Parameters → Header
header_for g = ruled (numbers_of g)

abbrev pub row_table : Parameters → ℕ → ℕ
row_table g = power (polynomial g.rv g.vlow)

abbrev pub column_table : Parameters → ℕ → ℕ
column_table g = power (polynomial g.rh g.hlow)

-- check cells are numbers of cells in sheet order
unfoldable pub taken_cells : Header → (v w : ℕ → ℕ) → List ℕ
taken_cells h v w = first_taken (cell_joint (bare_code h v w)) (h.rv + h.rh) (h.n1 * h.n2)

unfoldable pub made_code : Header → (v w : ℕ → ℕ) → Code
made_code h v w = let ts = taken_cells h v w in code_from h v w (λ k. get_or ts k 0 / h.n2) (λ k. get_or ts k 0 % h.n2)

unfoldable pub bad_polynomial : ℕ → ℕ → Bool
bad_polynomial d low = eqb (low % 2) 0 || leb (2 ^ d) low

unfoldable pub polynomials_verdict : Parameters → Verdict
polynomials_verdict g = verdict_if (bad_polynomial g.rv g.vlow || bad_polynomial g.rh g.hlow) (refusal 15 0 0)

unfoldable pub taken_verdict : Header → (v w : ℕ → ℕ) → Verdict
taken_verdict h v w = verdict_if (ltb (length (taken_cells h v w)) (h.rv + h.rh)) (refusal 16 0 0)

-- size is the length of the plan buffer, which check 5 compares with the rule
unfoldable pub given_checks : Parameters → ℕ → Verdict
given_checks g size = fields_verdict size (header_for g) or_else polynomials_verdict g

unfoldable pub make_checks : Parameters → ℕ → Verdict
make_checks g size =
    let h = header_for g in
    let c = bare_code h (row_table g) (column_table g) in
    given_checks g size or_else rows_verdict c or_else columns_verdict c or_else taken_verdict h (row_table g) (column_table g)

pub record Made : Type 0 where
  pub verdict : Verdict
  pub plan : List ℕ

abbrev pub made : Verdict → List ℕ → Made
made v s = record { verdict = v; plan = s }

unfoldable pub outcome : Verdict → List ℕ → List ℕ → Made
outcome v new old = made v (cond (eqb v.number 0) new old)

unfoldable pub make : Parameters → List ℕ → Made
make g plan =
    let h = header_for g in
    outcome (make_checks g (length plan)) (plan_bytes h (made_code h (row_table g) (column_table g))) plan
