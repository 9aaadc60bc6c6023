-- Each field can be taken out of an answer again, and an answer is below 2 to the power 51.
--
--   success-silent   a success has no places
--   packed-carries   the packed answer carries the fields that it was packed from
--   packed-below     it is below 2 to the power 51, even where a success has places or a refusal a report
--   carries-fields   the fields of an answer are those that it carries
--   fields-range     the fields of any number are in range
--   packed-back      a success below 2 to the power 51 is its fields, packed
--   part-carries     the packed part carries its start and its length
--
-- Assumes nothing.
use mathlib.Core.Path.{◌≡◌, refl, ap, sym, ◌∙◌}
use mathlib.Core.Bool.{Bool, true, false, cond}
use Prim.Native.Nat.{ℕ, ◌+◌, ◌*◌, ◌/◌, ◌%◌, ◌^◌, ◌<◌}
use native.Mathlib.Omega.{arith}
use borrow.Author.Tests.{eqb-true, eqb-false, eq-eqb, ne_eqb}
use lib.Dec.{eqb}
use Rattle.answer.specs.Answer.{Fields, InRange, Exclusive, place_bits, report_bits, packed, on_success, on_refusal, fields_in, Carries}
use Rattle.answer.specs.Answer.{number_in, p_in, q_in, cells_in, top_in, left_in, height_in, width_in, pattern_in}
use Rattle.answer.specs.Answer.{packed_part, place_in, length_in, PartCarries}

-- ---- the two kinds of answer

-- a value of a success, and one of a refusal, where the answer is a success
module _ (a x : ℕ) (z : number_in a ≡ 0) where
  success-told : on_success a x ≡ x
  unfolding on_success
  success-told = ap (λ (t : Bool). cond t x 0) (eq-eqb (number_in a) 0 z)

  pub success-silent : on_refusal a x ≡ 0
  unfolding on_refusal
  success-silent = ap (λ (t : Bool). cond t 0 x) (eq-eqb (number_in a) 0 z)

-- and where it is a refusal
module _ (a x : ℕ) (z : number_in a ≡ 0 → ⊥) where
  refusal-told : on_refusal a x ≡ x
  unfolding on_refusal
  refusal-told = ap (λ (t : Bool). cond t 0 x) (ne_eqb (number_in a) 0 z)

  refusal-silent : on_success a x ≡ 0
  unfolding on_success
  refusal-silent = ap (λ (t : Bool). cond t x 0) (ne_eqb (number_in a) 0 z)

-- ---- packed, and taken out again

-- the fields that stand in the bits above the number
module _ (f : Fields) (r : InRange f) where
  places-out : let a = f.number + 32 * place_bits f in (a / 32 % 65536 ≡ f.p) × (a / 2097152 % 4096 ≡ f.q) × (a < 2 ^ 51)
  unfolding place_bits
  places-out = (omega arith, omega arith, omega arith)

  report-out : let a = f.number + 32 * report_bits f in
      (a / 32 % 32 ≡ f.cells) × (a / 1024 % 512 ≡ f.top) × (a / 524288 % 1024 ≡ f.left)
      × (a / 536870912 % 8 ≡ f.height) × (a / 4294967296 % 8 ≡ f.width) × (a / 34359738368 % 65536 ≡ f.pattern) × (a < 2 ^ 51)
  unfolding report_bits
  report-out = (omega arith, omega arith, omega arith, omega arith, omega arith, omega arith, omega arith)

-- the number stands lowest, whatever is above it
number-out : (f : Fields) → InRange f → (above : ℕ) → number_in (f.number + 32 * above) ≡ f.number
unfolding number_in
number-out f r above = omega arith

success-carries : (f : Fields) → InRange f → Exclusive f → f.number ≡ 0 → Carries (f.number + 32 * report_bits f) f
unfolding p_in q_in cells_in top_in left_in height_in width_in pattern_in
success-carries f r x e =
    let a = f.number + 32 * report_bits f in
    let n = number-out f r (report_bits f) in
    let out = report-out f r in
    let none = x.success e in
    record {
      number = n;
      p = success-silent a _ (n ∙ e) ∙ sym none.0;
      q = success-silent a _ (n ∙ e) ∙ sym none.1;
      cells = success-told a _ (n ∙ e) ∙ out.0;
      top = success-told a _ (n ∙ e) ∙ out.1;
      left = success-told a _ (n ∙ e) ∙ out.2;
      height = success-told a _ (n ∙ e) ∙ out.3;
      width = success-told a _ (n ∙ e) ∙ out.4;
      pattern = success-told a _ (n ∙ e) ∙ out.5;
      below = out.6;
    }

refusal-carries : (f : Fields) → InRange f → Exclusive f → (f.number ≡ 0 → ⊥) → Carries (f.number + 32 * place_bits f) f
unfolding p_in q_in cells_in top_in left_in height_in width_in pattern_in
refusal-carries f r x e =
    let a = f.number + 32 * place_bits f in
    let n = number-out f r (place_bits f) in
    let z : number_in a ≡ 0 → ⊥ = λ w. e (sym n ∙ w) in
    let out = places-out f r in
    let none = x.refusal e in
    record {
      number = n;
      p = refusal-told a _ z ∙ out.0;
      q = refusal-told a _ z ∙ out.1;
      cells = refusal-silent a _ z ∙ sym none.0;
      top = refusal-silent a _ z ∙ sym none.1;
      left = refusal-silent a _ z ∙ sym none.2;
      height = refusal-silent a _ z ∙ sym none.3;
      width = refusal-silent a _ z ∙ sym none.4;
      pattern = refusal-silent a _ z ∙ sym none.5;
      below = out.2;
    }

pub packed-carries : (f : Fields) → InRange f → Exclusive f → Carries (packed f) f
unfolding packed
packed-carries f r x = go (eqb f.number 0) refl
  where
    go : (t : Bool) → eqb f.number 0 ≡ t → Carries (f.number + 32 * cond t (report_bits f) (place_bits f)) f
    go true e = success-carries f r x (eqb-true f.number 0 e)
    go false e = refusal-carries f r x (eqb-false f.number 0 e)

pub packed-below : (f : Fields) → InRange f → packed f < 2 ^ 51
unfolding packed
packed-below f r = go (eqb f.number 0)
  where
    go : (t : Bool) → f.number + 32 * cond t (report_bits f) (place_bits f) < 2 ^ 51
    go true = (report-out f r).6
    go false = (places-out f r).2

pub carries-fields : (a : ℕ) (f : Fields) → Carries a f → fields_in a ≡ f
carries-fields a f c =
    simp (c.number, c.p, c.q, c.cells, c.top, c.left, c.height, c.width, c.pattern)

-- ---- the fields of any number

success-below : (a x m : ℕ) → x < m → on_success a x < m
unfolding on_success
success-below a x m l = go (eqb (number_in a) 0)
  where
    go : (t : Bool) → cond t x 0 < m
    go true = l
    go false = omega arith

refusal-below : (a x m : ℕ) → x < m → on_refusal a x < m
unfolding on_refusal
refusal-below a x m l = go (eqb (number_in a) 0)
  where
    go : (t : Bool) → cond t 0 x < m
    go true = omega arith
    go false = l

pub fields-range : (a : ℕ) → InRange (fields_in a)
unfolding number_in p_in q_in cells_in top_in left_in height_in width_in pattern_in
fields-range a = record {
  number_fits = omega arith;
  p_fits = refusal-below a _ 65536 (omega arith);
  q_fits = refusal-below a _ 4096 (omega arith);
  cells_fits = success-below a _ 32 (omega arith);
  top_fits = success-below a _ 512 (omega arith);
  left_fits = success-below a _ 1024 (omega arith);
  height_fits = success-below a _ 8 (omega arith);
  width_fits = success-below a _ 8 (omega arith);
  pattern_fits = success-below a _ 65536 (omega arith);
}

-- ---- a part of a buffer

-- a number by its fields, from the lowest up
stacked : (a u v w x y z n c t l h d p : ℕ) → n ≡ 0 → a ≡ 32 * u → u ≡ c + 32 * v → v ≡ t + 512 * w → w ≡ l + 1024 * x → x ≡ h + 8 * y → y ≡ d + 8 * z
    → z ≡ p → n + 32 * (c + 32 * (t + 512 * (l + 1024 * (h + 8 * (d + 8 * p))))) ≡ a
stacked a u v w x y z n c t l h d p en ea eu ev ew ex ey ez = omega arith

pub packed-back : (a : ℕ) → number_in a ≡ 0 → a < 2 ^ 51 → packed (fields_in a) ≡ a
unfolding packed report_bits cells_in top_in left_in height_in width_in pattern_in number_in
packed-back a z l =
    rw (
      eq-eqb (number_in a) 0 z,
      success-told a (a / 32 % 32) z,
      success-told a (a / 1024 % 512) z,
      success-told a (a / 524288 % 1024) z,
      success-told a (a / 536870912 % 8) z,
      success-told a (a / 4294967296 % 8) z,
      success-told a (a / 34359738368 % 65536) z,
    )
    (stacked a (a / 32) (a / 1024) (a / 524288) (a / 536870912) (a / 4294967296) (a / 34359738368) _ _ _ _ _ _ _
    z (omega arith) (omega arith) (omega arith) (omega arith) (omega arith) (omega arith) (omega arith))

pub part-carries : (start length : ℕ) → start < 65536 → length < 65536 → PartCarries (packed_part start length) start length
unfolding packed_part place_in length_in
part-carries start length s l = record { place = omega arith; size = omega arith; below = omega arith }
