-- The two sums of a run of rows, proved: one declaration for each theorem of specs/Sums.antt, of that type.
--
--   sums-given, sums-refused, empty-run, past-sheet, joined-runs, whole-sheet, belongs-by-sums
--
-- Assumes nothing.
use mathlib.Core.Path.{◌≡◌, sym, ap, ap₂, ◌∙◌}
use mathlib.Core.Bool.{cond}
use mathlib.Core.List.{List, ◌++◌}
use Prim.Native.Nat.{ℕ, min}
use lib.Dec.{eqb}
use Rattle.gf2.specs.Xor.{◌⊕◌}
use Rattle.layout.specs.Number.{u32_at, low_bytes}
use Rattle.boxcode.proofs.Run as run
use Rattle.plan.specs.Verdict.{accepted}
use Rattle.plan.specs.Bytes.{code_of}
use Rattle.accept.proofs.Acceptance.{accepted-plan}
use Rattle.buffers.specs.Buffers.{sums_checks}
use Rattle.buffers.proofs.Passing.{sums-pass}
use Rattle.runsums.specs.RunSums.{Summed, run_bytes, summed, sum_run}
use Rattle.runsums.proofs.Outcomes.{sum-refused, sum_done, v-back, h-back}
use Rattle.promise.specs.Promise.{Passes, SheetFor, cells_of}
use Rattle.promise.specs.Sums as promise

module _ (plan sheet : List ℕ) (first past : ℕ) (old : List ℕ) (P : Passes plan) (S : SheetFor plan sheet) (R : promise.RoomFor old) where
  passed : sums_checks plan sheet old ≡ accepted
  passed = sums-pass plan sheet old (record { right = record { accepted = accepted-plan plan P; form = S }; room = R })

  -- the outcome, where nothing is turned back
  done : sum_run plan sheet first past old ≡ summed accepted (run_bytes (code_of plan) first past sheet)
  done =
      sum_done plan sheet first past old (ap (λ v. v.number) passed)
      ∙ ap (λ v. summed v (run_bytes (code_of plan) first past sheet)) passed

pub sums-given : promise.SumsGiven
sums-given plan sheet first past old P S R =
    let F = (accepted-plan plan P).formed in
    let d = done plan sheet first past old P S R in
    record {
      verdict = ap (λ (o : Summed). o.verdict) d;
      row = ap (λ (o : Summed). u32_at o.sums 0) d ∙ v-back (code_of plan) F first past sheet;
      column = ap (λ (o : Summed). u32_at o.sums 4) d ∙ h-back (code_of plan) F first past sheet;
    }

pub sums-refused : promise.SumsRefused
sums-refused = sum-refused

-- the same outcome, with its sums by another name
by : {plan sheet : List ℕ} {first past : ℕ} {old : List ℕ} {v v' h h' : ℕ} → promise.GivesSums plan sheet first past old v h → v ≡ v' → h ≡ h'
    → promise.GivesSums plan sheet first past old v' h'
by G e f = record { verdict = G.verdict; row = G.row ∙ e; column = G.column ∙ f }

pub empty-run : promise.EmptyRun
empty-run plan sheet first past old P S R l =
    by (sums-given plan sheet first past old P S R)
    (run.row-empty (code_of plan) (cells_of plan sheet) first past l)
    (run.column-empty (code_of plan) (cells_of plan sheet) first past l)

bytes_past : (plan sheet : List ℕ) (first past : ℕ)
    → run_bytes (code_of plan) first past sheet ≡ run_bytes (code_of plan) first (min past (code_of plan).n1) sheet
unfolding run_bytes
bytes_past plan sheet first past =
    ap₂ (λ (v h : ℕ). low_bytes 4 v ++ low_bytes 4 h) (run.row-past (code_of plan) (cells_of plan sheet) first past)
    (run.column-past (code_of plan) (cells_of plan sheet) first past)

pub past-sheet : promise.PastSheet
unfolding sum_run
past-sheet plan sheet first past old =
    let v = sums_checks plan sheet old in
    ap (λ (x : List ℕ). summed v (cond (eqb v.number 0) x old)) (bytes_past plan sheet first past)

pub joined-runs : promise.JoinedRuns
joined-runs plan sheet a b c old old' old'' P S R R' R'' l m =
    let code = code_of plan in
    let s = cells_of plan sheet in
    let G = sums-given plan sheet a b old' P S R' in
    let H = sums-given plan sheet b c old'' P S R'' in
    by (sums-given plan sheet a c old P S R)
    (run.row-joined code s a b c l m ∙ ap₂ ◌⊕◌ (sym G.row) (sym H.row))
    (run.column-joined code s a b c l m ∙ ap₂ ◌⊕◌ (sym G.column) (sym H.column))

pub whole-sheet : promise.WholeSheet
whole-sheet plan sheet old P S R =
    by (sums-given plan sheet 0 (code_of plan).n1 old P S R)
    (run.row-whole (code_of plan) (cells_of plan sheet))
    (run.column-whole (code_of plan) (cells_of plan sheet))

pub belongs-by-sums : promise.BelongsBySums
belongs-by-sums plan sheet old P S R =
    let W = whole-sheet plan sheet old P S R in (
      λ B. by W B.row_zero B.column_zero,
      λ G. record { row_zero = sym W.row ∙ G.row; column_zero = sym W.column ∙ G.column },
    )
