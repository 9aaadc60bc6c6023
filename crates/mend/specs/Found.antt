-- What the search for a burst answers, and what each of its two cases is in document 01.
--
--   burst_at           a burst by its three numbers
--   found_verdict      the number and the places: 0 at 0, 0 for a burst, 14 at 0, 0 for none
--   found_report       the six numbers: those of the burst's cells, or six zeros
--   first_burst c v s  the first burst by trial whose V sum is v and whose H sum is s, or None
--   IsBurst            a pattern number in a rectangle on the sheet has the cells of that burst
--   BurstOrNone        an answer of the search is that burst, or there is none
--   FoundFor c v s r   r has the number, the places and the six numbers of the first burst by trial, and its cells
use Rattle.std.specs.Prelude.{ℕ, ◌+◌, ◌*◌, ◌^◌, ◌≤◌, ◌<◌, ◌≡◌, true, false, cond, Option, Some, None}
use Rattle.boxcode.specs.Code.{Code}
use Rattle.boxcode.specs.Burst.{box_cells, trial_top, trial_left, trial_pattern, first_trial, has_burst, burst_for}
use Rattle.boxcode.specs.Reader.{report_of, no_report}
use Rattle.plan.specs.declared.verdict.Verdict.{Verdict}
use Rattle.plan.specs.Verdict.{accepted, refusal}
use Rattle.mend.specs.declared.report.Report.{Report}
use Rattle.mend.specs.declared.found.Burst.{Burst}
use Rattle.mend.specs.Report.{report_as}

abbrev pub burst_at : ℕ → ℕ → ℕ → Burst
burst_at top left x = record { top = top; left = left; pattern = x }

abbrev pub found_verdict : Option Burst → Verdict
found_verdict (Some b) = accepted
found_verdict None = refusal 14 0 0

abbrev pub found_report : Code → Option Burst → Report
found_report c (Some b) = report_as (report_of c (box_cells b.top b.left c.b1 c.b2 b.pattern))
found_report c None = report_as no_report

unfoldable pub first_burst : Code → ℕ → ℕ → Option Burst
first_burst c v s =
    let t = first_trial c v s in
    cond (has_burst c v s) (Some (burst_at (trial_top c t) (trial_left c t) (trial_pattern c t))) None

pub record IsBurst (c : Code) (v s top left x : ℕ) : Type 0 where
  pub rows_on : top + c.b1 ≤ c.n1
  pub columns_on : left + c.b2 ≤ c.n2
  pub below : x < 2 ^ (c.b1 * c.b2)
  pub has : has_burst c v s ≡ true
  pub cells : (i j : ℕ) → box_cells top left c.b1 c.b2 x i j ≡ burst_for c v s i j

abbrev pub BurstOrNone : Code → ℕ → ℕ → Option Burst → Type 0
BurstOrNone c v s (Some b) = IsBurst c v s b.top b.left b.pattern
BurstOrNone c v s None = has_burst c v s ≡ false

pub record FoundFor (c : Code) (v s : ℕ) (r : Option Burst) : Type 0 where
  pub verdict : found_verdict r ≡ found_verdict (first_burst c v s)
  pub report : found_report c r ≡ found_report c (first_burst c v s)
  pub burst : BurstOrNone c v s r
