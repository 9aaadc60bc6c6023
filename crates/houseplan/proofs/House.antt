-- The house plan, before its tables are looked at, and the column table of each plan of its kind.
--
--   house-given    of the checks of the numbers only that of the buffer's length can fail
--   house-refused  and then nothing is made
--   house-column   entry k of the column table of a made plan is the constant's
--
-- Assumes nothing.
use mathlib.Core.Path.{◌≡◌, refl, sym, ap, ◌∙◌}
use mathlib.Core.Bool.{Bool, true, false, not}
use mathlib.Core.List.{List}
use Prim.Native.Nat.{ℕ, ◌<◌}
use native.Mathlib.Omega.{arith}
use borrow.Author.Tests.{ne_eqb}
use lib.Dec.{eqb}
use lib.ListN.{length, get_or}
use Rattle.plan.specs.Verdict.{accepted, refusal, verdict_if, ◌or_else◌}
use Rattle.plan.specs.Header.{ruled}
use Rattle.plan.specs.Form.{bad_burst, bad_sheet, bad_widths, bad_cells, bad_offsets, sizes_verdict, offsets_verdict, fields_verdict}
use Rattle.plan.specs.Bytes.{code_of}
use Rattle.maker.specs.Make.{bad_polynomial, polynomials_verdict, given_checks, made, make}
use Rattle.maker.proofs.Outcomes.{make-given}
use Rattle.maker.proofs.Made.{made-column}
use Rattle.house.specs.House.{house_polynomial, house_entries, house_columns}
use Rattle.house.proofs.Table.{house-entry}
use Rattle.houseplan.specs.HousePlan.{house_with, house_parameters, house_bytes}

pub house-given : (size : ℕ) → given_checks house_parameters size ≡ verdict_if (not (eqb size house_bytes)) (refusal 5 0 0)
unfolding given_checks fields_verdict sizes_verdict bad_burst bad_sheet bad_widths bad_cells offsets_verdict bad_offsets polynomials_verdict bad_polynomial ruled ◌or_else◌
house-given size = go (eqb size house_bytes)
  where
    go : (right : Bool) → (verdict_if (not right) (refusal 5 0 0) or_else accepted) ≡ verdict_if (not right) (refusal 5 0 0)
    go true = refl
    go false = refl

pub house-refused : (old : List ℕ) → (length old ≡ house_bytes → ⊥) → make house_parameters old ≡ made (refusal 5 0 0) old
house-refused old n =
    let e = house-given (length old) ∙ ap (λ (t : Bool). verdict_if (not t) (refusal 5 0 0)) (ne_eqb (length old) house_bytes n) in
    sym (make-given house_parameters old (sym e) (λ z. absurd (omega arith)))

pub house-column : (rv v : ℕ) (old : List ℕ) → (make (house_with rv v) old).verdict.number ≡ 0 → (k : ℕ) → k < house_entries
    → (code_of (make (house_with rv v) old).plan).column_entry k ≡ get_or house_columns k 0
unfolding house_polynomial
house-column rv v old e k l = made-column (house_with rv v) old e k l ∙ sym (house-entry k l)
