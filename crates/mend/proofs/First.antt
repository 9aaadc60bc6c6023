-- The first burst by trial, as an answer:
--
--   first-verdict, first-report   where some burst has the two sums: number 0, and the report of its cells
--   first-nothing                 where none has: None
--   first-has                     number 0 says that some burst has
--   found-for                     a burst with its cells, or none where there is none, has its number, places and six numbers
--   first_found                   the first burst by trial is such an answer itself
--
-- Assumes nothing.
use mathlib.Core.Path.{◌≡◌, refl, sym, ap, ◌∙◌}
use mathlib.Core.Bool.{Bool, true, false, cond}
use Prim.Native.Nat.{ℕ, ◌*◌, ◌^◌, ◌<◌}
use native.Mathlib.Nat.{mod-lt}
use native.Mathlib.Omega.{arith}
use lib.Pow.{pow_pos}
use borrow.Author.Tests.{ltb-true}
use Rattle.boxcode.specs.Code.{Code, Formed}
use Rattle.boxcode.specs.Burst.{box_cells, trial_top, trial_left, trial_pattern, patterns, trials, first_trial, trial_cells, has_burst, burst_for}
use Rattle.boxcode.specs.Reader.{report_of}
use Rattle.boxcode.proofs.Trial.{trial-rows, trial-columns}
use Rattle.boxcode.proofs.Report.{report-cells}
use Rattle.plan.specs.Verdict.{accepted}
use Rattle.std.specs.Prelude.{Option, Some, None}
use Rattle.mend.specs.declared.found.Burst.{Burst}
use Rattle.mend.specs.Report.{report_as}
use Rattle.mend.specs.Found.{burst_at, found_verdict, found_report, first_burst, IsBurst, BurstOrNone, FoundFor}

module _ (c : Code) (v s : ℕ) where
  pub first-verdict : has_burst c v s ≡ true → found_verdict (first_burst c v s) ≡ accepted
  unfolding first_burst
  first-verdict t = rw t

  pub first-report : has_burst c v s ≡ true → found_report c (first_burst c v s) ≡ report_as (report_of c (burst_for c v s))
  unfolding first_burst burst_for trial_cells
  first-report t = rw t

  pub first-nothing : has_burst c v s ≡ false → first_burst c v s ≡ None
  unfolding first_burst
  first-nothing t = rw t

  pub first-has : (found_verdict (first_burst c v s)).number ≡ 0 → has_burst c v s ≡ true
  unfolding first_burst
  first-has e = go (has_burst c v s) e
    where
      first : Option Burst
      first = let t = first_trial c v s in Some (burst_at (trial_top c t) (trial_left c t) (trial_pattern c t))

      go : (t : Bool) → (found_verdict (cond t first None)).number ≡ 0 → t ≡ true
      go true z = refl
      go false z = absurd (omega arith)

  first_below : has_burst c v s ≡ true → first_trial c v s < trials c
  unfolding has_burst
  first_below e = ltb-true (first_trial c v s) (trials c) e

  pattern-below : (t : ℕ) → trial_pattern c t < 2 ^ (c.b1 * c.b2)
  unfolding patterns
  pattern-below t = mod-lt t (pow_pos (c.b1 * c.b2))

  first-cells : (i j : ℕ)
      → box_cells (trial_top c (first_trial c v s)) (trial_left c (first_trial c v s)) c.b1 c.b2 (trial_pattern c (first_trial c v s)) i j
      ≡ burst_for c v s i j
  unfolding burst_for trial_cells
  first-cells i j = refl

  pub found-for : (r : Option Burst) → BurstOrNone c v s r → FoundFor c v s r
  found-for (Some r) b = record {
    verdict = sym (first-verdict b.has);
    report =
        ap report_as (report-cells c (box_cells r.top r.left c.b1 c.b2 r.pattern) (burst_for c v s) (λ i j li lj. b.cells i j))
        ∙ sym (first-report b.has);
    burst = b;
  }
  found-for None e = record { verdict = ap found_verdict (sym (first-nothing e)); report = ap (found_report c) (sym (first-nothing e)); burst = e }

  pub first_found : Formed c → FoundFor c v s (first_burst c v s)
  first_found F = record { verdict = refl; report = refl; burst = go (has_burst c v s) refl }
    where
      t : ℕ
      t = first_trial c v s

      is : has_burst c v s ≡ true → IsBurst c v s (trial_top c t) (trial_left c t) (trial_pattern c t)
      is e = record {
        rows_on = trial-rows c F t (first_below e);
        columns_on = trial-columns c F t;
        below = pattern-below t;
        has = e;
        cells = first-cells;
      }

      go : (b : Bool) → has_burst c v s ≡ b → BurstOrNone c v s (first_burst c v s)
      go true e = unfold first_burst in rw e (is e)
      go false e = unfold first_burst in rw e e
