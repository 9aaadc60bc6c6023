-- Reading by trial, proved: one declaration for each theorem of specs/Trial.antt, of that type. The reader is defined by the first trial
-- with the sheet's two sums and few cells; a trial has these exactly where it is a burst that brings both sums to 0.
--
--   trial-stops, trial-ends
--
-- Assumes nothing.
use mathlib.Core.Path.{◌≡◌, sym, ap, ◌∙◌}
use mathlib.Core.Bool.{Bool, true, ◌&&◌}
use mathlib.Core.List.{List}
use Prim.Native.Nat.{ℕ, ◌<◌}
use borrow.Author.Tests.{ltb-true}
use lib.Dec.{eqb}
use Rattle.finite.specs.Search.{few}
use Rattle.finite.proofs.Truth.{clash, both, and_both, both_equal, equal-both}
use Rattle.finite.proofs.Search.{least-found, least_first}
use Rattle.layout.specs.declared.stored.Layout.{Layout}
use Rattle.boxcode.specs.Code.{Code}
use Rattle.boxcode.specs.Syndrome.{Cells, row_syndrome, column_syndrome}
use Rattle.boxcode.specs.Burst.{cell_count, Fits, trials, trial_cells, tried, first_trial, has_burst}
use Rattle.boxcode.proofs.Syndrome.{belongs-cells}
use Rattle.boxcode.proofs.Cells.{cells-equal}
use Rattle.boxcode.proofs.Burst.{fits-row, fits-column, sums-fit}
use Rattle.boxcode.proofs.Trial.{trial-burst, burst-trial}
use Rattle.boxcode.proofs.Reader.{mendable, fits-mendable}
use Rattle.plan.specs.Bytes.{code_of}
use Rattle.accept.specs.Verdict.{Accepted}
use Rattle.accept.proofs.Acceptance.{accepted-plan}
use Rattle.promise.specs.Promise.{SomeIn, cells_in}
use Rattle.promise.specs.Trial as promise
use Rattle.promise.proofs.Corrupted.{fits-cells, cells_fit}
use Rattle.promise.proofs.Promise.{answers}

-- ---- a trial of few cells has the two sums of a sheet exactly where it brings both to 0

module _ (c : Code) (s : Cells) (t : ℕ) where
  abbrev sparse : Bool
  sparse = few c.t (cell_count c.n1 c.n2 (trial_cells c t))

  abbrev sums : Bool
  sums = eqb (row_syndrome c (trial_cells c t)) (row_syndrome c s) && eqb (column_syndrome c (trial_cells c t)) (column_syndrome c s)

  tried-fits : tried c (row_syndrome c s) (column_syndrome c s) t ≡ true → (sparse ≡ true) × Fits c s (trial_cells c t)
  unfolding tried
  tried-fits e =
      let all = both sums sparse e in
      let p = both_equal (row_syndrome c (trial_cells c t)) (column_syndrome c (trial_cells c t)) (row_syndrome c s) (column_syndrome c s) all.0 in
      (all.1, sums-fit c s (trial_cells c t) (sym p.0) (sym p.1))

  fits-tried : sparse ≡ true → Fits c s (trial_cells c t) → tried c (row_syndrome c s) (column_syndrome c s) t ≡ true
  unfolding tried
  fits-tried l f =
      and_both sums sparse
      (equal-both (row_syndrome c (trial_cells c t)) (column_syndrome c (trial_cells c t)) (row_syndrome c s) (column_syndrome c s)
      (sym (fits-row c s (trial_cells c t) f)) (sym (fits-column c s (trial_cells c t) f)))
      l

-- ---- the first trial

module _ (lay : Layout) (plan : List ℕ) (A : Accepted plan) (sheet : List ℕ) where
  abbrev c : Code
  c = code_of plan

  abbrev s : Cells
  s = cells_in lay plan sheet

  abbrev first : ℕ
  first = first_trial c (row_syndrome c s) (column_syndrome c s)

  first_stops : SomeIn lay plan sheet → promise.StopsAt lay plan sheet first
  first_stops w = record {
    below = below;
    fits = (trial-burst c A.formed first below at.0, cells_fit lay plan sheet (trial_cells c first) at.1);
    none_before = λ u l f.
        clash (fits-tried c s u f.0.sparse (fits-cells lay plan sheet (trial_cells c u) f.1)) (least_first (trials c) _ u l);
  }
    where
      has : mendable c s ≡ true
      has = fits-mendable c A.formed s w.0 w.1 (fits-cells lay plan sheet w.0 w.2)

      below : first < trials c
      below = ltb-true first (trials c) (unfold mendable has_burst in has)

      at : (sparse c s first ≡ true) × Fits c s (trial_cells c first)
      at = tried-fits c s first (least-found (trials c) _ below)

  -- every burst is a trial
  some-trial : SomeIn lay plan sheet → (t : ℕ) × (t < trials c) × promise.TrialFits lay plan sheet t
  some-trial w =
      let u = burst-trial c A.formed w.0 w.1 in (
        u.0,
        u.1,
        (
          trial-burst c A.formed u.0 u.1 (as-few u.0 u.2),
          cells_fit lay plan sheet (trial_cells c u.0) (same u.0 u.2 (fits-cells lay plan sheet w.0 w.2)),
        ),
      )
    where
      same : (t : ℕ) → ((i j : ℕ) → trial_cells c t i j ≡ w.0 i j) → Fits c s w.0 → Fits c s (trial_cells c t)
      same t e f = belongs-cells c _ _ (λ i j li lj. rw (e i j)) f

      as-few : (t : ℕ) → ((i j : ℕ) → trial_cells c t i j ≡ w.0 i j) → sparse c s t ≡ true
      as-few t e = ap (few c.t) (cells-equal c.n1 c.n2 (trial_cells c t) w.0 (λ i j li lj. e i j)) ∙ w.1.sparse

pub trial-stops : promise.TrialStops
trial-stops lay plan ok sheet old form l n =
    let A = accepted-plan plan ok in
    let R = answers lay plan ok sheet old form l in
    let t = first lay plan A sheet in
    let S = first_stops lay plan A sheet (R.some_fits.0 n) in
    (t, S, R.takes (trial_cells (code_of plan) t) S.fits.0 S.fits.1)

pub trial-ends : promise.TrialEnds
trial-ends lay plan ok sheet old form l =
    let A = accepted-plan plan ok in
    let R = answers lay plan ok sheet old form l in (
      λ n t below f. R.none_fits.0 n (trial_cells (code_of plan) t) f.0 f.1,
      λ none. R.none_fits.1 (λ e B f. let w = some-trial lay plan A sheet (e, B, f) in none w.0 w.1 w.2),
    )
