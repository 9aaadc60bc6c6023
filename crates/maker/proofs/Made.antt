-- What is read from a made plan.
--
--   made-given    where making gives 0, the checks of the numbers do
--   made_bytes    and the plan is its header, its two tables and its check list
--   made-column   entry k of its column table is z to the power k, modulo its polynomial
--
-- Assumes nothing.
use mathlib.Core.Path.{◌≡◌, ap, ◌∙◌}
use mathlib.Core.Bool.{Bool, cond}
use mathlib.Core.List.{List}
use Prim.Native.Nat.{ℕ, ◌*◌, ◌<◌}
use native.Mathlib.Omega.{arith}
use borrow.Author.Tests.{eq-eqb}
use lib.ListN.{length}
use lib.Pow.{pow_mono}
use Rattle.plan.specs.declared.header.Header.{Header}
use Rattle.plan.specs.Header.{header_of, ruled}
use Rattle.plan.specs.Bytes.{column_entry_at, code_of}
use Rattle.plan.proofs.Sequence.{else-zero}
use Rattle.encode.specs.Encode.{plan_bytes}
use Rattle.encode.proofs.Encoded.{encoded-header, encoded-column}
use Rattle.maker.specs.declared.parameters.Parameters.{Parameters}
use Rattle.maker.specs.Make.{header_for, row_table, column_table, made_code, given_checks, make_checks, outcome, make}
use Rattle.maker.proofs.Given.{given-good, ruled-twice}
use Rattle.maker.proofs.Tabled.{column-below}

module _ (g : Parameters) (plan : List ℕ) (e : (make g plan).verdict.number ≡ 0) where
  abbrev bytes : List ℕ
  bytes = plan_bytes (header_for g) (made_code (header_for g) (row_table g) (column_table g))

  pub made-given : (given_checks g (length plan)).number ≡ 0
  unfolding make outcome make_checks
  made-given = (else-zero (given_checks g (length plan)) _ e).0

  pub made_bytes : (make g plan).plan ≡ bytes
  unfolding make outcome
  made_bytes = ap (λ (b : Bool). cond b bytes plan) (eq-eqb (make_checks g (length plan)).number 0 e)

  pub made-column : (k : ℕ) → k < g.n2 * g.b1 → (code_of (make g plan).plan).column_entry k ≡ column_table g k
  unfolding code_of made_code ruled
  made-column k l =
      let h = header_for g in
      let G = given-good g (length plan) made-given in
      let small = column-below g G.degrees k in
      ap (λ (s : List ℕ). column_entry_at s (header_of s) k) made_bytes
      ∙ ap (λ (x : Header). column_entry_at bytes x k) (encoded-header h (row_table g) (column_table g) _ _ G.small (ruled-twice g))
      ∙ encoded-column h (row_table g) (column_table g) _ _ k l (omega (arith, small, pow_mono {i = g.rh} {j = 32} G.degrees.rh_most))
