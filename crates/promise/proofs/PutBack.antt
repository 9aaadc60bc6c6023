-- A burst put back: one declaration for each theorem of specs/PutBack.antt, of that type.
--
--   restores, columns-restore, put-turns, put-twice, put-takes, put-reasons, answers-apart, put_refused
--
-- Assumes nothing.
use mathlib.Core.Path.{◌≡◌, refl, sym, ap, ap₂, subst, ◌∙◌}
use mathlib.Core.Bool.{Bool, true, false, cond, xor}
use mathlib.Core.List.{List}
use Prim.Native.Nat.{ℕ}
use native.Mathlib.Decide.{ℕ_discrete}
use native.Mathlib.Omega.{arith}
use borrow.Author.Tests.{eqb-true}
use lib.Dec.{eqb}
use Rattle.finite.proofs.Truth.{Truth, is_true, is_false, true-or-false}
use Rattle.answer.specs.Answer.{number_in, packed}
use Rattle.layout.specs.declared.stored.Layout.{Layout}
use Rattle.layout.specs.declared.stored.Layout.TheVariants.{ByRow, ByColumn}
use Rattle.layout.proofs.Layouts.{in-equal}
use Rattle.boxcode.specs.Syndrome.{flip}
use Rattle.boxcode.proofs.Theorems.{mendable-iff}
use Rattle.plan.specs.declared.verdict.Verdict.{Verdict}
use Rattle.plan.specs.Verdict.{accepted, refusal, verdict_if}
use Rattle.plan.specs.Bytes.{code_of}
use Rattle.plan.proofs.Sequence.{else-second}
use Rattle.accept.proofs.Acceptance.{accepted-plan}
use Rattle.buffers.specs.Buffers.{form_checks}
use Rattle.buffers.proofs.Passing.{forms-pass}
use Rattle.reader.specs.Read.{Outcome, read_verdict, taken, refused, read_in}
use Rattle.reader.proofs.Cases.{zero-reads}
use Rattle.transpose.specs.Transpose.{turned_sheet}
use Rattle.packing.specs.Packed.{report_fields, burst_answer}
use Rattle.putback.specs.PutBack.{cells_told, no_burst, burst_verdict, back_checks, back_bytes, PutBack, left_back, put_back}
use Rattle.putback.proofs.Told.{Told, told-burst, within-burst, told_back, burst-told}
use Rattle.putback.proofs.Passing.{MayPut, back-zero, backs-pass, back-refused, back_done}
use Rattle.sheet.specs.Calls.{read_call}
use Rattle.promise.specs.Promise.{Passes, SheetFor, cells_in, corrupted_in, corrupted}
use Rattle.promise.specs.PutBack as promise
use Rattle.promise.proofs.Corrupted.{corrupted-form, corrupted-back, cells_fit}
use Rattle.promise.proofs.Reading.{taken_as}
use Rattle.promise.proofs.Promise.{plan-test}
use Rattle.promise.proofs.Answer.{read-carries}
use Rattle.promise.proofs.Layouts.{same_read}
use Rattle.promise.proofs.Sound.{told-sound, sound-told}

-- ---- the bytes that are left are the sheet with the cells told turned over

back-corrupted : (plan sheet : List ℕ) (a : ℕ) → back_bytes (code_of plan) sheet a ≡ corrupted plan sheet (cells_told a)
unfolding back_bytes corrupted_in
back-corrupted plan sheet a = refl

module _ (plan sheet : List ℕ) (ok : Passes plan) (f : SheetFor plan sheet) where
  may-put : (a : ℕ) → no_burst (code_of plan) a ≡ false → MayPut plan sheet a
  may-put a n = record { right = record { accepted = accepted-plan plan ok; form = f }; burst = n }

  put-done : (a : ℕ) → no_burst (code_of plan) a ≡ false → put_back plan sheet a ≡ left_back accepted (corrupted plan sheet (cells_told a))
  put-done a n =
      let e = backs-pass plan sheet a (may-put a n) in
      back_done plan sheet a (ap (λ (v : Verdict). v.number) e) ∙ ap₂ left_back e (back-corrupted plan sheet a)

pub put-turns : promise.PutTurns
unfolding corrupted_in
put-turns plan sheet e ok f B =
    let c = code_of plan in
    let F = (accepted-plan plan ok).formed in
    put-done plan sheet ok f (burst_answer c e) (burst-told c F e B)
    ∙ ap (left_back accepted)
    (in-equal ByRow c.n1 c.n2 (flip (cells_in ByRow plan sheet) (cells_told (burst_answer c e))) (flip (cells_in ByRow plan sheet) e)
    (λ i j li lj. ap (xor (cells_in ByRow plan sheet i j)) (told_back c F e B i j)))

-- ---- the scan restored

-- a read whose number is 0 was taken
read_taken : (lay : Layout) (plan sheet bits : List ℕ) → (read_in lay plan sheet bits).verdict.number ≡ 0 → (read_verdict lay plan sheet bits).number ≡ 0
unfolding read_in
read_taken lay plan sheet bits = go (eqb (read_verdict lay plan sheet bits).number 0) refl
  where
    go : (t : Bool) → eqb (read_verdict lay plan sheet bits).number 0 ≡ t
        → (cond t (taken lay (code_of plan) sheet) (refused (read_verdict lay plan sheet bits) sheet bits)).verdict.number ≡ 0
        → (read_verdict lay plan sheet bits).number ≡ 0
    go true e z = eqb-true (read_verdict lay plan sheet bits).number 0 e
    go false e z = z

pub restores : promise.Restores
unfolding read_call burst_answer
restores plan scan bits z =
    let r = zero-reads ByRow plan scan bits (read_taken ByRow plan scan bits (sym (read-carries ByRow plan scan bits).number ∙ z)) in
    let A = r.0.lengths.accepted in
    let w = (mendable-iff (code_of plan) A.formed (cells_in ByRow plan scan)).0 r.1 in
    let e = w.0 in
    let o = taken_as ByRow plan A scan bits r.0.form r.0.lengths.bits_size e w.1 (cells_fit ByRow plan scan e w.2) in
    rw o
    (put-turns plan (corrupted plan scan e) e ((plan-test plan).1 A) (corrupted-form ByRow plan scan e) w.1
    ∙ ap (left_back accepted) (corrupted-back ByRow plan scan e r.0.form))

pub columns-restore : promise.ColumnsRestore
unfolding read_call
columns-restore plan scan bits z =
    let r = zero-reads ByColumn plan scan bits (read_taken ByColumn plan scan bits (sym (read-carries ByColumn plan scan bits).number ∙ z)) in
    let A = r.0.lengths.accepted in
    let t = turned_sheet ByColumn plan scan in
    let s = same_read ByColumn plan ((plan-test plan).1 A) scan bits r.0.form in
    subst (λ (o : Outcome). let a = packed (report_fields o.verdict o.report) in number_in a ≡ 0 → put_back plan o.sheet a ≡ left_back accepted t)
    s (restores plan t bits) z

-- ---- twice

pub put-twice : promise.PutTwice
put-twice plan sheet a = go (ℕ_discrete (back_checks plan sheet a).number 0)
  where
    go : Dec ((back_checks plan sheet a).number ≡ 0) → (put_back plan (put_back plan sheet a).sheet a).sheet ≡ sheet
    go (yes z) =
        let m = back-zero plan sheet a z in
        let ok = (plan-test plan).1 m.right.accepted in
        let s = put-done plan sheet ok m.right.form a m.burst in
        let t = put-done plan (corrupted plan sheet (cells_told a)) ok (corrupted-form ByRow plan sheet (cells_told a)) a m.burst in
        ap (λ (o : PutBack). (put_back plan o.sheet a).sheet) s
        ∙ ap (λ (o : PutBack). o.sheet) t
        ∙ corrupted-back ByRow plan sheet (cells_told a) m.right.form
    go (no z) =
        let s = back-refused plan sheet a z in
        ap (λ (o : PutBack). (put_back plan o.sheet a).sheet) s ∙ ap (λ (o : PutBack). o.sheet) s

-- ---- which answers are taken

module _ (plan sheet : List ℕ) (a : ℕ) (ok : Passes plan) (f : SheetFor plan sheet) where
  -- an answer that is taken
  zero-told : (put_back plan sheet a).verdict.number ≡ 0 → Told (code_of plan) a
  unfolding put_back
  zero-told z = told-burst (code_of plan) a (back-zero plan sheet a z).burst

  told-zero : no_burst (code_of plan) a ≡ false → (put_back plan sheet a).verdict.number ≡ 0
  told-zero n = ap (λ (o : PutBack). o.verdict.number) (put-done plan sheet ok f a n)

  from_told : Told (code_of plan) a → promise.FromBurst plan a
  from_told T = (cells_told a, within-burst (code_of plan) (accepted-plan plan ok).formed a T.within T.sparse, sym T.same)

  told-from : promise.FromBurst plan a → no_burst (code_of plan) a ≡ false
  told-from w = ap (no_burst (code_of plan)) w.2 ∙ burst-told (code_of plan) (accepted-plan plan ok).formed w.0 w.1

  refuses : (promise.FromBurst plan a → ⊥) → put_back plan sheet a ≡ left_back (refusal 22 0 0) sheet
  unfolding back_checks burst_verdict
  refuses h = go (true-or-false (no_burst (code_of plan) a))
    where
      told : no_burst (code_of plan) a ≡ true → back_checks plan sheet a ≡ refusal 22 0 0
      told t =
          else-second (form_checks plan sheet) _
          (ap (λ (v : Verdict). v.number) (forms-pass plan sheet (record { accepted = accepted-plan plan ok; form = f })))
          ∙ ap (λ (b : Bool). verdict_if b (refusal 22 0 0)) t

      go : Truth (no_burst (code_of plan) a) → put_back plan sheet a ≡ left_back (refusal 22 0 0) sheet
      go (is_true t) =
          back-refused plan sheet a (λ z. let y : ◌≡◌ {A = ℕ} 22 0 = sym (ap (λ (v : Verdict). v.number) (told t)) ∙ z in absurd (omega arith))
          ∙ ap (λ (v : Verdict). left_back v sheet) (told t)
      go (is_false t) = absurd (h (from_told (told-burst (code_of plan) a t)))

pub put-takes : promise.PutTakes
put-takes plan sheet a ok f = record {
  takes = (λ z. from_told plan sheet a ok f (zero-told plan sheet a ok f z), λ w. told-zero plan sheet a ok f (told-from plan sheet a ok f w));
  refuses = refuses plan sheet a ok f;
}

pub put-reasons : promise.PutReasons
put-reasons plan sheet a ok f =
    let F = (accepted-plan plan ok).formed in (
      λ z. told-sound plan F a (zero-told plan sheet a ok f z),
      λ S. told-zero plan sheet a ok f (told-from plan sheet a ok f (from_told plan sheet a ok f (sound-told plan F a S))),
    )

pub answers-apart : promise.AnswersApart
answers-apart plan e e' ok B B' same i j =
    let c = code_of plan in
    let F = (accepted-plan plan ok).formed in
    sym (told_back c F e B i j) ∙ ap (λ (a : ℕ). cells_told a i j) same ∙ told_back c F e' B' i j

pub put_refused : promise.PutRefused
put_refused plan sheet a h = back-refused plan sheet a h
