-- The checks before putting back pass exactly where the plan is accepted, the sheet of the right form, and the 64 bits the answer of a burst.
--
--   MayPut, back-zero, backs-pass   the checks pass exactly there
--   back-refused, back_done         the outcome where a check fails, and where the checks gave 0
--   back_none                       the answer 0 changes nothing
--   turn-needs, back-turned         the burst of any other answer can be turned over in the bytes, and that is all
--
-- Assumes nothing.
use mathlib.Core.Path.{◌≡◌, refl, sym, ap, ◌∙◌}
use mathlib.Core.Bool.{false, xor}
use mathlib.Core.List.{List}
use Prim.Native.Nat.{ℕ}
use borrow.Author.Tests.{eq-eqb, ne_eqb}
use Rattle.finite.proofs.Truth.{xor-none}
use Rattle.answer.specs.declared.Answer.{Answer}
use Rattle.answer.specs.Answer.{number_in, on_success, top_in, left_in, height_in, width_in, pattern_in}
use Rattle.layout.specs.Cells.{cell_of, RightForm}
use Rattle.layout.specs.declared.stored.Layout.TheVariants.{ByRow}
use Rattle.layout.proofs.Form.{bytes-equal, bytes_back}
use Rattle.boxcode.specs.Code.{Code, Formed}
use Rattle.boxcode.specs.Syndrome.{flip}
use Rattle.plan.specs.declared.verdict.Verdict.{Verdict}
use Rattle.plan.specs.Verdict.{accepted}
use Rattle.plan.specs.Bytes.{code_of}
use Rattle.plan.proofs.Sequence.{else-second, else-zero, if-zero}
use Rattle.buffers.specs.Buffers.{form_checks}
use Rattle.buffers.proofs.Passing.{InForm, form-zero, forms-pass}
use Rattle.mend.specs.Strip.{BurstSize}
use Rattle.reader.specs.Turn.{Rectangle, box_turned}
use Rattle.reader.proofs.Turned.{box-turned}
use Rattle.putback.specs.PutBack.{cells_told, no_burst, burst_verdict, back_checks, back_bytes, left_back, put_back}
use Rattle.putback.proofs.Told.{Told, told-size, no_cells}
use Rattle.putback.proofs.Made.{Taken}

pub record MayPut (plan sheet : List ℕ) (a : ℕ) : Type 0 where
  pub right : InForm plan sheet
  pub burst : no_burst (code_of plan) a ≡ false

module _ (plan sheet : List ℕ) (a : ℕ) where
  pub back-zero : (back_checks plan sheet a).number ≡ 0 → MayPut plan sheet a
  unfolding back_checks burst_verdict
  back-zero e =
      let p = else-zero (form_checks plan sheet) _ e in
      record { right = form-zero plan sheet p.0; burst = if-zero (no_burst (code_of plan) a) 21 0 0 p.1 }

  pub backs-pass : MayPut plan sheet a → back_checks plan sheet a ≡ accepted
  unfolding back_checks burst_verdict
  backs-pass m =
      else-second (form_checks plan sheet) _ (ap (λ (v : Verdict). v.number) (forms-pass plan sheet m.right)) ∙ rw m.burst

  pub back-refused : ((back_checks plan sheet a).number ≡ 0 → ⊥) → put_back plan sheet a ≡ left_back (back_checks plan sheet a) sheet
  unfolding put_back
  back-refused h = rw (ne_eqb (back_checks plan sheet a).number 0 h)

  pub back_done : (back_checks plan sheet a).number ≡ 0 → put_back plan sheet a ≡ left_back (back_checks plan sheet a) (back_bytes (code_of plan) sheet a)
  unfolding put_back
  back_done e = rw (eq-eqb (back_checks plan sheet a).number 0 e)

-- ---- the bytes

module _ (c : Code) (s : List ℕ) (f : RightForm c.n1 c.n2 s) where
  pub back_none : s ≡ back_bytes c s 0
  unfolding back_bytes height_in on_success number_in
  back_none =
      sym
      (bytes-equal c.n1 c.n2 (flip (cell_of c.n2 s) (cells_told 0)) (cell_of c.n2 s)
      (λ i j li lj. ap (xor (cell_of c.n2 s i j)) (no_cells 0 refl i j) ∙ xor-none (cell_of c.n2 s i j))
      ∙ bytes_back c.n1 c.n2 s f)

  -- the fields of the answer of a burst that has cells
  module _ (F : Formed c) (a : ℕ) (B : Told c a) (h : a ≡ 0 → ⊥) {r : Answer} (T : Taken a r) where
    told-on : Rectangle c.n1 c.n2 (top_in a) (left_in a) (height_in a) (width_in a)
    told-on = record { n1_most = F.n1_most; n2_most = F.n2_most; rows_on = B.within.rows_on; columns_on = B.within.columns_on }

    pub turn-needs : BurstSize r.height r.width × Rectangle c.n1 c.n2 r.top r.left r.height r.width
    turn-needs = rw (T.top, T.left, T.height, T.width) (told-size c F a B h, told-on)

    pub back-turned : {t : List ℕ} → t ≡ box_turned ByRow c.n1 c.n2 s r.top r.left r.height r.width r.pattern → t ≡ back_bytes c s a
    unfolding back_bytes cells_told
    back-turned e =
        (rw (T.top, T.left, T.height, T.width, T.pattern) at e)
        ∙ box-turned (top_in a) (left_in a) (height_in a) (width_in a) (pattern_in a) (told-size c F a B h).b2_pos ByRow c.n1 c.n2 s f told-on
