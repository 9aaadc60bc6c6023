-- One data bit of a sheet turned over, proved: one declaration for each theorem of specs/Alter.antt, of that type. A run of alterations goes by
-- induction: the altered sheet belongs and holds the altered data, so the next alteration finds what the first one found.
--
--   afresh, written-altered, only-there, any-run, any_order, undone, position-told, belong-told, alter-refused
--
-- Assumes nothing.
use mathlib.Core.Path.{◌≡◌, refl, sym, ap, ◌∙◌}
use mathlib.Core.Bool.{Bool, true, false, xor, not, cond}
use mathlib.Core.List.{List, [], ◌∷◌}
use Prim.Native.Nat.{ℕ, zero, suc, ◌≤◌, ◌<◌}
use native.Mathlib.Omega.{arith}
use borrow.Author.Tests.{eq-eqb, ne_eqb, le-leb}
use lib.Dec.{eqb}
use Rattle.finite.proofs.Truth.{not-true, xor-none, xor-dark, xor_comm, xor_assoc}
use Rattle.layout.specs.Cells.{cell_of}
use Rattle.layout.proofs.Form.{same_bytes}
use Rattle.layout.proofs.Turned.{turned-form}
use Rattle.layout.specs.declared.stored.Layout.TheVariants.{ByRow}
use Rattle.boxcode.specs.Code.{Code, Formed, cell_number}
use Rattle.boxcode.specs.Check.{check_at, data_order, data_size, rank, data_cell, belongs}
use Rattle.boxcode.proofs.Check.{number-on, rank_below, rank-data, data-free, data-rank}
use Rattle.boxcode.proofs.Fill.{cell-data}
use Rattle.boxcode.proofs.Written.{belongs-true}
use Rattle.plan.specs.declared.verdict.Verdict.{Verdict}
use Rattle.plan.specs.Verdict.{accepted, refusal}
use Rattle.plan.specs.Bytes.{code_of}
use Rattle.plan.proofs.Sequence.{else-first, else-second}
use Rattle.accept.proofs.Acceptance.{accepted-plan}
use Rattle.buffers.specs.Buffers.{form_checks}
use Rattle.buffers.proofs.Passing.{forms-pass}
use Rattle.writer.specs.Write.{data_bits, written_bytes}
use Rattle.alter.specs.Alter.{position_verdict, belong_verdict, alter_checks, altered_bytes, Altered, altered, alter}
use Rattle.alter.proofs.Passing as passing
use Rattle.alter.proofs.Passing.{alters-pass, alter-done, right-position}
use Rattle.alter.proofs.Turned.{turned_bit}
use Rattle.promise.specs.Promise.{Passes, DataFor, SheetFor, cells_of, BelongsTo, held_in, data_in, Written}
use Rattle.promise.specs.Alter as promise
use Rattle.promise.specs.Alter.{PositionIn, PositionsIn, HoldsBit, IsCheck, turned_at, alter_each, turned_each, times, Alteration}
use Rattle.promise.proofs.Corrupted.{data-form, data-bit}
use Rattle.promise.proofs.Promise.{written_once}

-- ---- one alteration

pub afresh : promise.Afresh
unfolding altered_bytes held_in
afresh plan sheet d P S B l =
    let passed = alters-pass plan sheet d (record { right = record { accepted = accepted-plan plan P; form = S }; below = l; belongs = B }) in
    alter-done plan sheet d (ap (λ (v : Verdict). v.number) passed) ∙ ap (λ (v : Verdict). altered v (altered_bytes plan sheet d)) passed

-- data with a bit turned over is of the right form
turned-data-form : (plan bits : List ℕ) (d : ℕ) → DataFor plan bits → PositionIn plan d → DataFor plan (turned_at plan d bits)
turned-data-form plan bits d f l = turned-form 1 (data_size (code_of plan)) bits f 0 d (omega arith) l

pub written-altered : promise.WrittenAltered
written-altered plan bits d P f l =
    let W = written_once ByRow plan P bits f in
    afresh plan (written_bytes plan bits) d P W.form W.belongs l
    ∙ ap (λ (b : List ℕ). altered accepted (written_bytes plan (turned_at plan d b))) W.holds

module _ (plan sheet : List ℕ) (d : ℕ) (P : Passes plan) (l : PositionIn plan d) where
  abbrev c : Code
  c = code_of plan

  F : Formed (code_of plan)
  F = (accepted-plan plan P).formed

  abbrev y : List ℕ
  y = turned_at plan d (data_in plan sheet)

  W : Written ByRow plan (turned_at plan d (data_in plan sheet))
  W = written_once ByRow plan P y (turned-data-form plan (data_in plan sheet) d (data-form ByRow plan sheet) l)

  -- a cell that is no check cell, by its data bit
  free-cell : (i j : ℕ) → i < c.n1 → j < c.n2 → check_at c (cell_number c i j) ≡ false
      → cells_of plan (written_bytes plan y) i j ≡ xor (cells_of plan sheet i j) (eqb d (rank c (data_order c (cell_number c i j))))
  free-cell i j li lj f =
      let e = rank c (data_order c (cell_number c i j)) in
      let le : e < data_size c = rank_below c F (cell_number c i j) (number-on c i j lj li) f in
      cell-data c F (cells_of plan (written_bytes plan y)) i j li lj f
      ∙ sym (data-bit ByRow plan (written_bytes plan y) e le)
      ∙ ap (λ (b : List ℕ). data_bits (data_size c) b e) W.holds
      ∙ turned_bit (data_size c) (data_in plan sheet) (data-form ByRow plan sheet) d e l le
      ∙ ap (λ (b : Bool). xor b (eqb d e)) (data-bit ByRow plan sheet e le ∙ sym (cell-data c F (cells_of plan sheet) i j li lj f))

  there : (i j : ℕ) → i < c.n1 → j < c.n2 → HoldsBit plan d i j → cells_of plan (written_bytes plan y) i j ≡ not (cells_of plan sheet i j)
  there i j li lj h =
      free-cell i j li lj (ap (check_at c) (sym h) ∙ data-free c F d l)
      ∙ ap (xor (cells_of plan sheet i j)) (eq-eqb d _ (sym (ap (λ (t : ℕ). rank c (data_order c t)) (sym h) ∙ data-rank c F d l)))
      ∙ xor-dark (cells_of plan sheet i j)

  elsewhere : (i j : ℕ) → i < c.n1 → j < c.n2 → (HoldsBit plan d i j → ⊥) → (IsCheck plan i j → ⊥)
      → cells_of plan (written_bytes plan y) i j ≡ cells_of plan sheet i j
  elsewhere i j li lj h n =
      let f = not-true (check_at c (cell_number c i j)) n in
      free-cell i j li lj f
      ∙ ap (xor (cells_of plan sheet i j)) (ne_eqb d _ (λ e. h (ap (data_cell c) e ∙ rank-data c F (cell_number c i j) (number-on c i j lj li) f)))
      ∙ xor-none (cells_of plan sheet i j)

  alteration : Alteration plan sheet d (written_bytes plan y)
  alteration = record { form = W.form; belongs = W.belongs; holds = W.holds; there = there; elsewhere = elsewhere }

pub only-there : promise.OnlyThere
only-there plan sheet d P S B l = rw (ap (λ (o : Altered). o.sheet) (afresh plan sheet d P S B l)) (alteration plan sheet d P l)

-- ---- any run of alterations

-- the first of a list of positions, and the others
first-in : (plan : List ℕ) (d : ℕ) (ds : List ℕ) → PositionsIn plan (d ∷ ds) → PositionIn plan d
first-in plan d ds ps = ps 0 (omega arith)

others-in : (plan : List ℕ) (d : ℕ) (ds : List ℕ) → PositionsIn plan (d ∷ ds) → PositionsIn plan ds
others-in plan d ds ps n l = ps (suc n) (omega arith)

each_next : (plan sheet : List ℕ) (d : ℕ) (ds after : List ℕ) → alter plan sheet d ≡ altered accepted after
    → alter_each plan sheet (d ∷ ds) ≡ alter_each plan after ds
unfolding alter_each
each_next plan sheet d ds after e = rw e

pub any-run : promise.AnyRun
unfolding turned_each
any-run plan sheet [] P S B ps =
    unfold alter_each in ap (altered accepted) ((written_once ByRow plan P (data_in plan sheet) (data-form ByRow plan sheet)).only sheet S B refl)
any-run plan sheet (d ∷ ds) P S B ps =
    let l = first-in plan d ds ps in
    let y = turned_at plan d (data_in plan sheet) in
    let A = alteration plan sheet d P l in
    each_next plan sheet d ds (written_bytes plan y) (afresh plan sheet d P S B l)
    ∙ any-run plan (written_bytes plan y) ds P A.form A.belongs (others-in plan d ds ps)
    ∙ ap (λ (b : List ℕ). altered accepted (written_bytes plan (turned_each plan ds b))) A.holds

-- a bit is turned over where its position comes an odd number of times
odd : ℕ → Bool
odd zero = false
odd (suc n) = not (odd n)

each-form : (plan ds bits : List ℕ) → DataFor plan bits → PositionsIn plan ds → DataFor plan (turned_each plan ds bits)
unfolding turned_each
each-form plan [] bits f ps = f
each-form plan (d ∷ ds) bits f ps =
    each-form plan ds (turned_at plan d bits) (turned-data-form plan bits d f (first-in plan d ds ps)) (others-in plan d ds ps)

each-bit : (plan ds bits : List ℕ) → DataFor plan bits → PositionsIn plan ds → (e : ℕ) → PositionIn plan e
    → data_bits (data_size (code_of plan)) (turned_each plan ds bits) e ≡ xor (data_bits (data_size (code_of plan)) bits e) (odd (times e ds))
unfolding turned_each times odd
each-bit plan [] bits f ps e l = sym (xor-none (data_bits (data_size (code_of plan)) bits e))
each-bit plan (d ∷ ds) bits f ps e l =
    each-bit plan ds (turned_at plan d bits) (turned-data-form plan bits d f (first-in plan d ds ps)) (others-in plan d ds ps) e l
    ∙ ap (λ (b : Bool). xor b (odd (times e ds))) (turned_bit (data_size (code_of plan)) bits f d e (first-in plan d ds ps) l)
    ∙ go (data_bits (data_size (code_of plan)) bits e) (eqb d e)
  where
    go : (b t : Bool) → xor (xor b t) (odd (times e ds)) ≡ xor b (odd (cond t (suc (times e ds)) (times e ds)))
    go b true = xor_assoc b true (odd (times e ds)) ∙ ap (xor b) (xor_comm true (odd (times e ds)) ∙ xor-dark (odd (times e ds)))
    go b false = ap (λ (x : Bool). xor x (odd (times e ds))) (xor-none b)

-- so a run of alterations is known by which positions come an odd number of times
same_runs : (plan sheet ds ds' : List ℕ) → Passes plan → SheetFor plan sheet → BelongsTo plan sheet → PositionsIn plan ds → PositionsIn plan ds'
    → ((e : ℕ) → odd (times e ds) ≡ odd (times e ds')) → alter_each plan sheet ds ≡ alter_each plan sheet ds'
same_runs plan sheet ds ds' P S B ps ps' same =
    any-run plan sheet ds P S B ps ∙ ap (λ (b : List ℕ). altered accepted (written_bytes plan b)) bytes ∙ sym (any-run plan sheet ds' P S B ps')
  where
    k : ℕ
    k = data_size (code_of plan)

    x : List ℕ
    x = data_in plan sheet

    f : DataFor plan (data_in plan sheet)
    f = data-form ByRow plan sheet

    -- data is one row
    bit : (i e : ℕ) → i < 1 → e < k → cell_of k (turned_each plan ds x) i e ≡ cell_of k (turned_each plan ds' x) i e
    bit zero e li l =
        each-bit plan ds x f ps e l ∙ ap (xor (data_bits k x e)) (same e) ∙ sym (each-bit plan ds' x f ps' e l)
    bit (suc i) e li l = absurd (omega arith)

    bytes : turned_each plan ds x ≡ turned_each plan ds' x
    bytes = same_bytes 1 k (turned_each plan ds x) (turned_each plan ds' x) (each-form plan ds x f ps) (each-form plan ds' x f ps') bit

pub any_order : promise.AnyOrder
any_order plan sheet ds ds' P S B ps ps' same = same_runs plan sheet ds ds' P S B ps ps' (λ e. ap odd (same e))

pub undone : promise.Undone
unfolding odd
undone plan sheet d P S B l = same_runs plan sheet (d ∷ d ∷ []) [] P S B both (λ n h. absurd (omega arith)) even ∙ (unfold alter_each in refl)
  where
    both : PositionsIn plan (d ∷ d ∷ [])
    both zero h = l
    both (suc zero) h = l
    both (suc (suc n)) h = absurd (omega arith)

    even : (e : ℕ) → odd (times e (d ∷ d ∷ [])) ≡ odd (times e [])
    even e = unfold times in go (eqb d e)
      where
        go : (t : Bool) → odd (cond t (suc (cond t 1 0)) (cond t 1 0)) ≡ false
        go true = refl
        go false = refl

-- ---- what is turned back

module _ (plan sheet : List ℕ) (d : ℕ) (P : Passes plan) (S : SheetFor plan sheet) where
  -- after checks 1 to 11 and 13
  form-passed : (form_checks plan sheet).number ≡ 0
  form-passed = ap (λ (v : Verdict). v.number) (forms-pass plan sheet (record { accepted = accepted-plan plan P; form = S }))

  -- a check that is told
  told : (n : ℕ) → (n ≡ 0 → ⊥) → alter_checks plan sheet d ≡ refusal n 0 0 → alter plan sheet d ≡ altered (refusal n 0 0) sheet
  told n h e =
      passing.alter-refused plan sheet d (λ z. h (ap (λ (v : Verdict). v.number) (sym e) ∙ z)) ∙ ap (λ (v : Verdict). altered v sheet) e

  beyond : data_size (code_of plan) ≤ d → alter_checks plan sheet d ≡ refusal 17 0 0
  unfolding alter_checks position_verdict
  beyond l =
      else-second (form_checks plan sheet) _ form-passed
      ∙ rw (le-leb (data_size (code_of plan)) d l) (else-first (refusal 17 0 0) _ (λ z. omega arith))

  strange : PositionIn plan d → (BelongsTo plan sheet → ⊥) → alter_checks plan sheet d ≡ refusal 18 0 0
  unfolding alter_checks belong_verdict
  strange l n =
      else-second (form_checks plan sheet) _ form-passed
      ∙ else-second (position_verdict (data_size (code_of plan)) d) _ (ap (λ (v : Verdict). v.number) (right-position (data_size (code_of plan)) d l))
      ∙ rw (not-true (belongs (code_of plan) (cells_of plan sheet)) (λ t. n (belongs-true (code_of plan) (cells_of plan sheet) t)))

pub position-told : promise.PositionTold
position-told plan sheet d P S l = told plan sheet d P S 17 (λ z. omega arith) (beyond plan sheet d P S l)

pub belong-told : promise.BelongTold
belong-told plan sheet d P S l n = told plan sheet d P S 18 (λ z. omega arith) (strange plan sheet d P S l n)

pub alter-refused : promise.AlterRefused
alter-refused = passing.alter-refused
