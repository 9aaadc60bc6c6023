-- The checks before altering pass exactly where the plan is accepted, the sheet of the right form, the position one of a data bit, and the sheet
-- belongs to its plan.
--
--   joint-test                         the joint sum is 0 exactly where a sheet belongs
--   position-right, belong-right       check 17 passes only below k, and check 18 only for a sheet that belongs
--   right-position, right-belong       and there they do
--   MayAlter, alter-zero, alters-pass  the checks before altering pass exactly there
--   alter-refused, alter-done          the outcome where a check fails, and where the checks gave 0
--
-- Assumes nothing.
use mathlib.Core.Path.{◌≡◌, sym, ap, ◌∙◌}
use mathlib.Core.Bool.{not}
use mathlib.Core.List.{List}
use Prim.Native.Nat.{ℕ, ◌<◌}
use borrow.Author.Tests.{eq-eqb, ne_eqb, eqb-true, leb-false, lt-leb, not-false}
use lib.Dec.{eqb, leb}
use Rattle.finite.proofs.Truth.{same_truth}
use Rattle.layout.specs.Cells.{cell_of}
use Rattle.boxcode.specs.Code.{Code, Formed}
use Rattle.boxcode.specs.Syndrome.{Cells, Belongs}
use Rattle.boxcode.specs.Check.{data_size, belongs}
use Rattle.boxcode.proofs.Syndrome.{joint-belongs, belongs-joint}
use Rattle.boxcode.proofs.Written.{belongs-true, true-belongs}
use Rattle.plan.specs.declared.verdict.Verdict.{Verdict}
use Rattle.plan.specs.Verdict.{accepted}
use Rattle.plan.specs.Bytes.{code_of}
use Rattle.plan.proofs.Sequence.{else-second, else-zero, if-zero}
use Rattle.buffers.specs.Buffers.{form_checks}
use Rattle.buffers.proofs.Passing.{InForm, form-zero, forms-pass}
use Rattle.writer.specs.Steps.{JointSum}
use Rattle.alter.specs.Alter.{position_verdict, belong_verdict, alter_checks, altered_bytes, altered, alter}

pub joint-test : (c : Code) → Formed c → (s : Cells) (r : ℕ) → JointSum c s r → eqb r 0 ≡ belongs c s
joint-test c F s r J =
    same_truth (eqb r 0) (belongs c s) (λ t. true-belongs c s (joint-belongs c F s (sym J.value ∙ eqb-true r 0 t)))
    (λ t. eq-eqb r 0 (J.value ∙ belongs-joint c F s (belongs-true c s t)))

-- ---- each check

pub position-right : (k d : ℕ) → (position_verdict k d).number ≡ 0 → d < k
unfolding position_verdict
position-right k d e = leb-false k d (if-zero (leb k d) 16 0 0 e)

pub right-position : (k d : ℕ) → d < k → position_verdict k d ≡ accepted
unfolding position_verdict
right-position k d l = rw (lt-leb k d l)

pub belong-right : (c : Code) (sheet : List ℕ) → (belong_verdict c sheet).number ≡ 0 → Belongs c (cell_of c.n2 sheet)
unfolding belong_verdict
belong-right c sheet e =
    belongs-true c (cell_of c.n2 sheet) (not-false _ (if-zero (not (belongs c (cell_of c.n2 sheet))) 17 0 0 e))

pub right-belong : (c : Code) (sheet : List ℕ) → Belongs c (cell_of c.n2 sheet) → belong_verdict c sheet ≡ accepted
unfolding belong_verdict
right-belong c sheet b = rw (true-belongs c (cell_of c.n2 sheet) b)

-- ---- the checks of the call

pub record MayAlter (plan sheet : List ℕ) (d : ℕ) : Type 0 where
  pub right : InForm plan sheet
  pub below : d < data_size (code_of plan)
  pub belongs : Belongs (code_of plan) (cell_of (code_of plan).n2 sheet)

module _ (plan sheet : List ℕ) (d : ℕ) where
  pub alter-zero : (alter_checks plan sheet d).number ≡ 0 → MayAlter plan sheet d
  unfolding alter_checks
  alter-zero e =
      let p = else-zero (form_checks plan sheet) _ e in
      let q = else-zero (position_verdict (data_size (code_of plan)) d) _ p.1 in
      record {
        right = form-zero plan sheet p.0;
        below = position-right (data_size (code_of plan)) d q.0;
        belongs = belong-right (code_of plan) sheet q.1;
      }

  pub alters-pass : MayAlter plan sheet d → alter_checks plan sheet d ≡ accepted
  unfolding alter_checks
  alters-pass m =
      else-second (form_checks plan sheet) _ (ap (λ (v : Verdict). v.number) (forms-pass plan sheet m.right))
      ∙ else-second (position_verdict (data_size (code_of plan)) d) _
      (ap (λ (v : Verdict). v.number) (right-position (data_size (code_of plan)) d m.below))
      ∙ right-belong (code_of plan) sheet m.belongs

  pub alter-refused : ((alter_checks plan sheet d).number ≡ 0 → ⊥) → alter plan sheet d ≡ altered (alter_checks plan sheet d) sheet
  unfolding alter
  alter-refused h = rw (ne_eqb (alter_checks plan sheet d).number 0 h)

  pub alter-done : (alter_checks plan sheet d).number ≡ 0 → alter plan sheet d ≡ altered (alter_checks plan sheet d) (altered_bytes plan sheet d)
  unfolding alter
  alter-done e = rw (eq-eqb (alter_checks plan sheet d).number 0 e)
