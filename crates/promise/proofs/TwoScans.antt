-- Two scans of one film, read together: one declaration for each theorem of specs/TwoScans.antt, of that type.
--
--   two_back, same-as-data, two-answers, no-data-agrees, two-refused
--
-- Assumes nothing.
use mathlib.Core.Path.{◌≡◌, refl, sym, ap, ap₂, ◌∙◌}
use mathlib.Core.Bool.{true}
use mathlib.Core.Logic.{◌⊎◌, inl, inr}
use mathlib.Core.List.{List}
use Prim.Native.Nat.{ℕ}
use native.Mathlib.Omega.{arith}
use Rattle.finite.proofs.Truth.{Truth, is_true, is_false, true-or-false, clash, not-true}
use Rattle.layout.specs.Differ.{agree}
use Rattle.layout.proofs.Form.{bytes-equal}
use Rattle.layout.proofs.Agreement.{agree-equal, equal-agree}
use Rattle.layout.specs.declared.stored.Layout.TheVariants.{ByRow}
use Rattle.boxcode.specs.Syndrome.{Cells}
use Rattle.boxcode.specs.Check.{data_size, data_of}
use Rattle.boxcode.specs.Reader.{report_of, no_report}
use Rattle.plan.specs.Verdict.{accepted, refusal}
use Rattle.plan.specs.Bytes.{code_of}
use Rattle.accept.specs.Verdict.{Accepted}
use Rattle.accept.proofs.Acceptance.{accepted-plan}
use Rattle.buffers.proofs.Passing.{twos-pass}
use Rattle.mend.specs.Report.{report_as}
use Rattle.writer.specs.Write.{written_bytes}
use Rattle.reader.specs.Read.{Outcome, refused, read_outcome}
use Rattle.scans.specs.ReadTwo.{TwoRead, two_read, decide, read_two}
use Rattle.scans.proofs.Decided.{two-refuses, decide-none, decide-first, decide-second, decide-agree, decide-differ}
use Rattle.promise.specs.Promise.{SheetFor, BufferFor, BurstOn, NoneFits, SomeFits, Written, cells_of, held_in, data_in, corrupted, read_as}
use Rattle.promise.specs.TwoScans as promise
use Rattle.promise.specs.TwoScans.{told, MendsTo}
use Rattle.promise.proofs.Corrupted.{corrupted-form, corrupted-back, data-form}
use Rattle.promise.proofs.Reading.{taken_as, refused_as, none_or_some}
use Rattle.promise.proofs.Promise.{written_once}

-- the sheet written from the data is the only one that belongs and holds it
pub same-as-data : promise.SameAsData
same-as-data plan ok sheet sheet' f f' b b' =
    let W = written_once ByRow plan ok (data_in plan sheet) (data-form ByRow plan sheet) in
    (λ e. W.only sheet f b refl ∙ sym (W.only sheet' f' b' (sym e)), ap (data_in plan))

pub two-refused : promise.TwoRefused
two-refused plan first second old h = sym (two-refuses plan first second old h)

-- ---- where the checks pass

-- data that differ are told apart byte for byte
agree-data : (plan s s' : List ℕ) → agree (data_in plan s) (data_in plan s') ≡ true → data_in plan s ≡ data_in plan s'
agree-data plan s s' = agree-equal (data_in plan s) (data_in plan s') ((data-form ByRow plan s).size ∙ sym (data-form ByRow plan s').size)

module _ (plan : List ℕ) (A : Accepted plan) (first second old : List ℕ) (f : SheetFor plan first) (g : SheetFor plan second) (l : BufferFor plan old) where
  decided : read_two plan first second old ≡ decide (read_outcome plan first old) (read_outcome plan second old) old
  unfolding read_two
  decided = rw (twos-pass plan first second old (record { both = record { accepted = A; first_form = f; second_form = g }; bits_size = l }))

  -- the reads of the two scans, and what they decide
  both : {a b : Outcome} {o : TwoRead} → read_outcome plan first old ≡ a → read_outcome plan second old ≡ b → o ≡ decide a b old
      → read_two plan first second old ≡ o
  both p q e = decided ∙ ap₂ (λ (x y : Outcome). decide x y old) p q ∙ sym e

  -- a scan that is mended is read so
  mends : (scan : List ℕ) → SheetFor plan scan → (s : List ℕ) (M : MendsTo plan scan s)
      → read_outcome plan scan old ≡ read_as (report_of (code_of plan) M.cells) s (data_in plan s)
  mends scan h s M =
      taken_as ByRow plan A scan old h l M.cells M.burst M.fits
      ∙ ap (λ (x : List ℕ). read_as (report_of (code_of plan) M.cells) x (data_in plan x)) M.gives

  fails : (scan : List ℕ) → SheetFor plan scan → NoneFits plan scan → read_outcome plan scan old ≡ refused (refusal 14 0 0) scan old
  fails scan h n = refused_as ByRow plan A scan old h l n

  when-agree : (s s' : List ℕ) → MendsTo plan first s → MendsTo plan second s' → data_in plan s ≡ data_in plan s'
      → read_two plan first second old ≡ two_read accepted (data_in plan s)
  when-agree s s' M M' e =
      both (mends first f s M) (mends second g s' M')
      (decide-agree (report_as (report_of (code_of plan) M.cells)) (report_as (report_of (code_of plan) M'.cells)) s s' (data_in plan s) (data_in plan s') old
      (equal-agree (data_in plan s) (data_in plan s') e))

  when-differ : (s s' : List ℕ) → MendsTo plan first s → MendsTo plan second s' → (data_in plan s ≡ data_in plan s' → ⊥)
      → read_two plan first second old ≡ two_read (refusal 19 0 0) old
  when-differ s s' M M' h =
      both (mends first f s M) (mends second g s' M')
      (decide-differ (report_as (report_of (code_of plan) M.cells)) (report_as (report_of (code_of plan) M'.cells)) s s' (data_in plan s) (data_in plan s') old
      (not-true (agree (data_in plan s) (data_in plan s')) (λ t. h (agree-data plan s s' t))))

  when-first : (s : List ℕ) → MendsTo plan first s → NoneFits plan second → read_two plan first second old ≡ two_read accepted (data_in plan s)
  when-first s M n =
      both (mends first f s M) (fails second g n)
      (decide-first (report_as (report_of (code_of plan) M.cells)) (report_as no_report) s second (data_in plan s) old old)

  when-second : (s' : List ℕ) → NoneFits plan first → MendsTo plan second s' → read_two plan first second old ≡ two_read accepted (data_in plan s')
  when-second s' n M' =
      both (fails first f n) (mends second g s' M')
      (decide-second (report_as no_report) (report_as (report_of (code_of plan) M'.cells)) first s' old (data_in plan s') old)

  when-neither : NoneFits plan first → NoneFits plan second → read_two plan first second old ≡ two_read (refusal 14 0 0) old
  when-neither n n' = both (fails first f n) (fails second g n') (decide-none (report_as no_report) (report_as no_report) first second old old old)

  -- ---- every case is one of the five

  number : {o : TwoRead} → read_two plan first second old ≡ o → told plan first second old ≡ o.verdict.number
  number e = ap (λ (o : TwoRead). o.verdict.number) e

  mended-as : (scan : List ℕ) → (w : SomeFits plan scan) → MendsTo plan scan (corrupted plan scan w.0)
  mended-as scan w = record { cells = w.0; burst = w.1; fits = w.2; gives = refl }

  neither-only : NoneFits plan first ⊎ SomeFits plan first → NoneFits plan second ⊎ SomeFits plan second → told plan first second old ≡ 14
      → NoneFits plan first × NoneFits plan second
  neither-only (inl n) (inl n') e = (n, n')
  neither-only (inl n) (inr w') e = let z = number (when-second _ n (mended-as second w')) in absurd (omega arith)
  neither-only (inr w) (inl n') e = let z = number (when-first _ (mended-as first w) n') in absurd (omega arith)
  neither-only (inr w) (inr w') e = go (true-or-false (agree (data_in plan s) (data_in plan s')))
    where
      s : List ℕ
      s = corrupted plan first w.0

      s' : List ℕ
      s' = corrupted plan second w'.0

      go : Truth (agree (data_in plan s) (data_in plan s')) → NoneFits plan first × NoneFits plan second
      go (is_true t) =
          let z = number (when-agree s s' (mended-as first w) (mended-as second w') (agree-data plan s s' t)) in absurd (omega arith)
      go (is_false t) =
          let apart : data_in plan s ≡ data_in plan s' → ⊥ = λ q. clash (equal-agree (data_in plan s) (data_in plan s') q) t in
          let z = number (when-differ s s' (mended-as first w) (mended-as second w') apart) in
          absurd (omega arith)

  differ-only : NoneFits plan first ⊎ SomeFits plan first → NoneFits plan second ⊎ SomeFits plan second → told plan first second old ≡ 19
      → (s : List ℕ) × (s' : List ℕ) × MendsTo plan first s × MendsTo plan second s' × (data_in plan s ≡ data_in plan s' → ⊥)
  differ-only (inl n) (inl n') e = let z = number (when-neither n n') in absurd (omega arith)
  differ-only (inl n) (inr w') e = let z = number (when-second _ n (mended-as second w')) in absurd (omega arith)
  differ-only (inr w) (inl n') e = let z = number (when-first _ (mended-as first w) n') in absurd (omega arith)
  differ-only (inr w) (inr w') e =
      let s = corrupted plan first w.0 in
      let s' = corrupted plan second w'.0 in (
        s,
        s',
        mended-as first w,
        mended-as second w',
        λ q.
            let z = number (when-agree s s' (mended-as first w) (mended-as second w') q) in absurd (omega arith),
      )

pub two-answers : promise.TwoAnswers
two-answers plan ok first second old f g l =
    let A = accepted-plan plan ok in
    let n = none_or_some ByRow plan A first old f l in
    let n' = none_or_some ByRow plan A second old g l in
    record {
      agree = when-agree plan A first second old f g l;
      first_alone = when-first plan A first second old f g l;
      second_alone = when-second plan A first second old f g l;
      neither = when-neither plan A first second old f g l;
      differ = when-differ plan A first second old f g l;
      only_neither = neither-only plan A first second old f g l n n';
      only_differ = differ-only plan A first second old f g l n n';
    }

-- ---- two scans of one written sheet

-- each burst fits the scan that it is on, and mends it to the written sheet
pub two_back : promise.TwoBack
two_back plan ok bits old e e' right B B' l =
    when-agree plan (accepted-plan plan ok) (corrupted plan w e) (corrupted plan w e') old
    (corrupted-form ByRow plan w e) (corrupted-form ByRow plan w e') l w w
    (mends-back e B) (mends-back e' B') refl
    ∙ ap (two_read accepted) W.holds
  where
    w : List ℕ
    w = written_bytes plan bits

    W : Written ByRow plan bits
    W = written_once ByRow plan ok bits right

    mends-back : (e : Cells) → BurstOn plan e → MendsTo plan (corrupted plan w e) w
    mends-back e B =
        let back : corrupted plan (corrupted plan w e) e ≡ w = corrupted-back ByRow plan w e W.form in
        record { cells = e; burst = B; fits = rw back W.belongs; gives = back }

-- ---- no data

pub no-data-agrees : promise.NoDataAgrees
unfolding held_in
no-data-agrees plan ok first second old f g l z e =
    let w = (two-answers plan ok first second old f g l).only_differ e in
    w.4
    (bytes-equal 1 (data_size (code_of plan)) (λ i d. data_of (code_of plan) (cells_of plan w.0) d) (λ i d. data_of (code_of plan) (cells_of plan w.1) d)
    (λ i d li ld. absurd (omega arith)))
