-- Reading by trial (document 02, request j), on bytes, for sheets of either layout: what the reader answers is what the trial of
-- every burst in order comes to. That sheet_read_by_trial answers so on every input is its contract, which is that of sheet_read. Each
-- theorem is proved under its name in proofs/Trial.antt.
--
--   trial_on           the cells of trial number t: rectangles in sheet order, in each every pattern by number
--   TrialFits          trial number t is a burst, so of few cells where the plan says so (02 m), and brings both sums to 0
--   StopsAt            trial number t does, and none before it does
--   TrialStops         a sheet that is taken is mended by the trial that stops: its report, the sheet so turned over, and the data of that
--   TrialEnds          14 is answered exactly where no trial does
use Rattle.std.specs.Prelude.{◌≡◌, ◌↔◌, List, ℕ, ◌<◌}
use Rattle.layout.specs.declared.stored.Layout.{Layout}
use Rattle.boxcode.specs.Syndrome.{Cells}
use Rattle.boxcode.specs.Burst.{trials, trial_cells}
use Rattle.boxcode.specs.Reader.{report_of}
use Rattle.plan.specs.Bytes.{code_of}
use Rattle.reader.specs.Read.{read_in}
use Rattle.promise.specs.Promise.{Passes, SheetIn, BufferFor, BurstOn, FitsIn, held_in, corrupted_in, read_as}

abbrev pub trial_on : List ℕ → ℕ → Cells
trial_on plan t = trial_cells (code_of plan) t

abbrev pub TrialFits : Layout → (plan sheet : List ℕ) → ℕ → Type 0
TrialFits lay plan sheet t = BurstOn plan (trial_on plan t) × FitsIn lay plan sheet (trial_on plan t)

-- 02: "each rectangle in sheet order, each pattern in it, until both sums are 0"
pub record StopsAt (lay : Layout) (plan sheet : List ℕ) (t : ℕ) : Type 0 where
  pub below : t < trials (code_of plan)
  pub fits : TrialFits lay plan sheet t
  pub none_before : (u : ℕ) → u < t → TrialFits lay plan sheet u → ⊥

abbrev pub TrialStops : Type 0
TrialStops = (lay : Layout) (plan : List ℕ) → Passes plan → (sheet old : List ℕ) → SheetIn lay plan sheet → BufferFor plan old
    → (read_in lay plan sheet old).verdict.number ≡ 0
    → (t : ℕ) × StopsAt lay plan sheet t × (read_in lay plan sheet old
    ≡ (let e = trial_on plan t in read_as (report_of (code_of plan) e) (corrupted_in lay plan sheet e) (held_in lay plan (corrupted_in lay plan sheet e))))

abbrev pub TrialEnds : Type 0
TrialEnds = (lay : Layout) (plan : List ℕ) → Passes plan → (sheet old : List ℕ) → SheetIn lay plan sheet → BufferFor plan old
    → ((read_in lay plan sheet old).verdict.number ≡ 14) ↔ ((t : ℕ) → t < trials (code_of plan) → TrialFits lay plan sheet t → ⊥)
