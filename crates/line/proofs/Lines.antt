-- Laws of the program's line.
--
--   data-none, data-some   the field of the data: nothing, or a space and the data
--   parts-fit              the plan is a part of the bytes that are given
--   zeros-part             a part of a buffer of zeros
--   rest_part              all that is left after a part
--   refused-line           the line of a plan that is refused: it owes nothing to the data
--   line-right             the line, from a buffer whose size is right where the plan is accepted
--   line_made              the same, from the parts that the code makes
--   no-from, ok_from       the line of an outcome, by its number
--
-- Assumes nothing.
use mathlib.Core.Path.{◌≡◌, refl, sym, ap, ◌∙◌}
use mathlib.Core.Bool.{Bool, true, false}
use mathlib.Core.List.{List, [], ◌∷◌}
use Prim.Native.Nat.{ℕ, zero, suc, ◌-◌, ◌≤◌}
use native.Mathlib.Omega.{arith}
use borrow.Author.Tests.{eqb-true, eqb-false, eq-eqb, ne_eqb}
use lib.Dec.{eqb}
use lib.ListN.{length, take, drop, replicate, length-drop}
use lib.Seq.{take_all}
use Rattle.layout.specs.declared.stored.Layout.TheVariants.{ByRow}
use Rattle.plan.proofs.Sequence.{else-first, else-still}
use Rattle.accept.specs.Verdict.{plan_verdict}
use Rattle.accept.proofs.Acceptance.{accepted-plan}
use Rattle.buffers.specs.Buffers.{sheet_checks, length_checks, read_checks}
use Rattle.reader.specs.Read.{Outcome, read_verdict, read_in, read_outcome}
use Rattle.text.specs.Text.{space, hex_text}
use Rattle.line.specs.Line.{plan_size, plan_part, sheet_part, data_field, ok_line, no_line, line_from, data_bytes, line_of}
use Rattle.line.specs.Parts.{DataSize}

pub data-none : (s : List ℕ) → length s ≡ 0 → data_field s ≡ []
unfolding data_field
data-none [] e = refl
data-none (b ∷ s) e = absurd (omega arith)

pub data-some : (s : List ℕ) → (length s ≡ 0 → ⊥) → space ∷ hex_text s ≡ data_field s
unfolding data_field
data-some [] h = absurd (h refl)
data-some (b ∷ s) h = refl

pub parts-fit : (input : List ℕ) → plan_size input ≤ length input
unfolding plan_size
parts-fit input = omega arith

pub zeros-part : (k n : ℕ) → k ≤ n → take k (replicate {A = ℕ} n 0) ≡ replicate k 0
zeros-part zero n h = refl
zeros-part (suc k) zero h = absurd (omega arith)
zeros-part (suc k) (suc n) h = ap (λ (l : List ℕ). 0 ∷ l) (zeros-part k n (omega arith))

pub rest_part : (n : ℕ) (l : List ℕ) → take (length l - n) (drop n l) ≡ drop n l
rest_part n l = let e = length-drop n l in take_all (length l - n) (drop n l) (omega arith)

-- ---- a plan that is refused

module _ (plan sheet bits : List ℕ) (h : (plan_verdict plan).number ≡ 0 → ⊥) where
  sheet-plan : sheet_checks ByRow plan sheet ≡ plan_verdict plan
  unfolding sheet_checks
  sheet-plan = else-first (plan_verdict plan) _ h

  lengths-plan : length_checks ByRow plan sheet bits ≡ plan_verdict plan
  unfolding length_checks
  lengths-plan = else-still _ h sheet-plan

  checks-plan : read_checks ByRow plan sheet bits ≡ plan_verdict plan
  unfolding read_checks
  checks-plan = else-still _ h lengths-plan

  verdict-plan : read_verdict ByRow plan sheet bits ≡ plan_verdict plan
  unfolding read_verdict
  verdict-plan = else-still _ h checks-plan

  pub refused-line : line_from (read_outcome plan sheet bits) ≡ no_line (plan_verdict plan)
  unfolding read_in line_from
  refused-line = rw (verdict-plan, ne_eqb (plan_verdict plan).number 0 h, ne_eqb (plan_verdict plan).number 0 h)

pub line-right : (plan sheet : List ℕ) (k : ℕ) → DataSize plan k
    → line_from (read_outcome plan sheet (replicate k 0)) ≡ line_from (read_outcome plan sheet (replicate (data_bytes plan) 0))
line-right plan sheet k d = go (eqb (plan_verdict plan).number 0) refl
  where
    go : (t : Bool) → eqb (plan_verdict plan).number 0 ≡ t
        → line_from (read_outcome plan sheet (replicate k 0)) ≡ line_from (read_outcome plan sheet (replicate (data_bytes plan) 0))
    go true e = ap (λ (n : ℕ). line_from (read_outcome plan sheet (replicate n 0))) (d.right (accepted-plan plan (eqb-true _ _ e)))
    go false e = let f = eqb-false (plan_verdict plan).number 0 e in refused-line plan sheet _ f ∙ sym (refused-line plan sheet _ f)

pub line_made : (input plan sheet bits : List ℕ) (n k : ℕ) → n ≡ plan_size input → plan ≡ take n input → sheet ≡ drop n input → bits ≡ replicate k 0
    → DataSize plan k → line_from (read_outcome plan sheet bits) ≡ line_of input
unfolding line_of plan_part sheet_part
line_made input plan sheet bits n k en ep es eb d =
    ap (λ (b : List ℕ). line_from (read_outcome plan sheet b)) eb
    ∙ line-right plan sheet k d
    ∙ ap (λ (p : List ℕ). line_from (read_outcome p sheet (replicate (data_bytes p) 0))) (ep ∙ ap (λ (j : ℕ). take j input) en)
    ∙ ap (λ (s : List ℕ). line_from (read_outcome (take (plan_size input) input) s (replicate (data_bytes (take (plan_size input) input)) 0)))
    (es ∙ ap (λ (j : ℕ). drop j input) en)

pub no-from : (o : Outcome) → (o.verdict.number ≡ 0 → ⊥) → no_line o.verdict ≡ line_from o
unfolding line_from
no-from o h = rw (ne_eqb o.verdict.number 0 h)

pub ok_from : (o : Outcome) → o.verdict.number ≡ 0 → ok_line o.report o.bits ≡ line_from o
unfolding line_from
ok_from o e = rw (eq-eqb o.verdict.number 0 e)
