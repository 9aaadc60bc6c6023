-- What the checks of the numbers leave true.
--
--   sizes-given   checks 2 to 4 and 23 look at the seven numbers alone
--   small-numbers the seven numbers are as small as the header that is made from them
--   ruled-twice   the places of the header are by the rule
--   Good, given-good   where checks 2, 3, 4, 5 and 15 pass: small numbers, the length by the rule, and two good polynomials
--   sizes-good    where checks 2 to 4 pass, the numbers are small
--   at-sizes, at-offsets, at-polynomials   the first of the checks of the numbers that fails, or the last
--
-- Assumes nothing.
use mathlib.Core.Path.{◌≡◌, refl, sym, ap, ◌∙◌}
use mathlib.Core.Bool.{false, not, ◌||◌}
use Prim.Native.Nat.{ℕ, ◌%◌, ◌^◌, ◌<◌}
use borrow.Author.Tests.{eqb-true, leb-false, not-false}
use lib.Dec.{eqb, leb}
use Rattle.finite.proofs.Truth.{or-false}
use Rattle.plan.specs.declared.verdict.Verdict.{Verdict}
use Rattle.plan.specs.Header.{header_length, columns_start, checks_start, plan_length, ruled, Small}
use Rattle.plan.specs.Form.{bad_burst, bad_sheet, bad_widths, bad_cells, bad_offsets, sizes_verdict, offsets_verdict, fields_verdict}
use Rattle.plan.proofs.Sequence.{else-first, else-second, else-zero, if-zero, same-zero, same-other}
use Rattle.plan.proofs.Framing.{sizes-small, small-sizes}
use Rattle.maker.specs.declared.parameters.Parameters.{Parameters}
use Rattle.maker.specs.Make.{numbers_of, header_for, bad_polynomial, polynomials_verdict, given_checks}
use Rattle.maker.specs.Steps.{Degrees}

pub sizes-given : (g : Parameters) → sizes_verdict (header_for g) ≡ sizes_verdict (numbers_of g)
unfolding ruled sizes_verdict bad_burst bad_sheet bad_widths bad_cells
sizes-given g = refl

pub ruled-twice : (g : Parameters) → header_for g ≡ ruled (header_for g)
unfolding ruled
ruled-twice g = refl

pub small-numbers : (g : Parameters) → Small (header_for g) → Small (numbers_of g)
small-numbers g p =
    sizes-small (numbers_of g) (ap (λ (v : Verdict). v.number) (sym (sizes-given g) ∙ small-sizes (header_for g) p))

pub record Good (g : Parameters) (size : ℕ) : Type 0 where
  pub small : Small (header_for g)
  pub long : size ≡ plan_length (header_for g)
  pub degrees : Degrees g

-- a polynomial that is not bad
low_below : (d low : ℕ) → bad_polynomial d low ≡ false → low < 2 ^ d
unfolding bad_polynomial
low_below d low e = leb-false (2 ^ d) low (or-false (eqb (low % 2) 0) (leb (2 ^ d) low) e).1

pub given-good : (g : Parameters) (size : ℕ) → (given_checks g size).number ≡ 0 → Good g size
unfolding given_checks fields_verdict offsets_verdict bad_offsets polynomials_verdict
given-good g size e =
    let h = header_for g in
    let both = else-zero (fields_verdict size h) (polynomials_verdict g) e in
    let sizes = else-zero (sizes_verdict h) (offsets_verdict size h) both.0 in
    let places = not (eqb h.rows header_length) || not (eqb h.columns (columns_start h)) || not (eqb h.checks (checks_start h))
    || not (eqb h.total (plan_length h)) in
    let offsets = or-false places (not (eqb size (plan_length h))) (if-zero (bad_offsets size h) 4 0 0 sizes.1) in
    let p = sizes-small h sizes.0 in
    let bad = or-false (bad_polynomial g.rv g.vlow) (bad_polynomial g.rh g.hlow) (if-zero _ 14 0 0 both.1) in
    record {
      small = p;
      long = eqb-true size (plan_length h) (not-false (eqb size (plan_length h)) offsets.1);
      degrees = unfold ruled in record {
        rv_pos = p.rv_pos;
        rv_most = p.rv_most;
        v_below = low_below g.rv g.vlow bad.0;
        rh_pos = p.rh_pos;
        rh_most = p.rh_most;
        h_below = low_below g.rh g.hlow bad.1;
      };
    }

pub sizes-good : (g : Parameters) → (sizes_verdict (numbers_of g)).number ≡ 0 → Small (header_for g)
sizes-good g z = sizes-small (header_for g) (rw (sizes-given g) z)

-- the checks of the numbers one after another: each answers where those before it gave 0
module _ (g : Parameters) (size : ℕ) where
  abbrev offsets : Verdict
  offsets = offsets_verdict size (header_for g)

  pub at-sizes : {v : Verdict} → v ≡ sizes_verdict (numbers_of g) → (v.number ≡ 0 → ⊥) → v ≡ given_checks g size
  unfolding given_checks fields_verdict
  at-sizes e n =
      let f = e ∙ sym (sizes-given g) in
      let h = f ∙ sym (else-first (sizes_verdict (header_for g)) offsets (same-other f n)) in
      h ∙ sym (else-first (fields_verdict size (header_for g)) (polynomials_verdict g) (same-other h n))

  module _ (zero : (sizes_verdict (numbers_of g)).number ≡ 0) where
    fields : fields_verdict size (header_for g) ≡ offsets
    unfolding fields_verdict
    fields = else-second (sizes_verdict (header_for g)) offsets (rw (sizes-given g) zero)

    pub at-offsets : {v : Verdict} → v ≡ offsets → (v.number ≡ 0 → ⊥) → v ≡ given_checks g size
    unfolding given_checks
    at-offsets e n = let f = e ∙ sym fields in f ∙ sym (else-first _ (polynomials_verdict g) (same-other f n))

    pub at-polynomials : offsets.number ≡ 0 → polynomials_verdict g ≡ given_checks g size
    unfolding given_checks
    at-polynomials z = sym (else-second _ (polynomials_verdict g) (same-zero (sym fields) z))
