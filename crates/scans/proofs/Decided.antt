-- What is decided from the reads of two scans:
--
--   two-refuses, two-decides    where the checks refuse, so does the call; where they pass, the two reads decide
--   decide-none, decide-first, decide-second   neither scan can be mended; one alone can
--   decide-agree, decide-differ                both can: the data agree, or not
--   decide-alone                               the first can't: the second decides alone
--
-- Assumes nothing.
use mathlib.Core.Path.{◌≡◌, refl, ap, ap₂}
use mathlib.Core.Bool.{true, false, cond}
use mathlib.Core.List.{List}
use Prim.Native.Nat.{ℕ}
use borrow.Author.Tests.{eq-eqb, ne_eqb}
use lib.Dec.{eqb}
use Rattle.layout.specs.Differ.{agree}
use Rattle.layout.specs.declared.stored.Layout.TheVariants.{ByRow}
use Rattle.boxcode.specs.Code.{Code}
use Rattle.plan.specs.declared.verdict.Verdict.{Verdict}
use Rattle.plan.specs.Verdict.{accepted, refusal, ◌or_else◌}
use Rattle.plan.specs.Bytes.{code_of}
use Rattle.buffers.specs.Buffers.{read_two_checks}
use Rattle.buffers.proofs.Passing.{two-zero, reads-pass}
use Rattle.mend.specs.declared.report.Report.{Report}
use Rattle.std.specs.Prelude.{Option, Some, None}
use Rattle.mend.specs.declared.found.Burst.{Burst}
use Rattle.mend.specs.Found.{found_verdict}
use Rattle.reader.specs.Read.{Outcome, burst_in, taken, refused, mend_outcome}
use Rattle.reader.proofs.Outcome.{read-mends}
use Rattle.scans.specs.ReadTwo.{two_read, alone, decide, read_two}

passes : {v : Verdict} → v ≡ accepted → v.number ≡ 0
passes e = ap (λ (v : Verdict). v.number) e

module _ (plan first second bits : List ℕ) where
  pub two-refuses : ((read_two_checks plan first second bits).number ≡ 0 → ⊥)
      → two_read (read_two_checks plan first second bits) bits ≡ read_two plan first second bits
  unfolding read_two
  two-refuses h = rw (ne_eqb (read_two_checks plan first second bits).number 0 h)

  pub two-decides : (read_two_checks plan first second bits).number ≡ 0
      → decide (mend_outcome ByRow (code_of plan) first bits) (mend_outcome ByRow (code_of plan) second bits) bits ≡ read_two plan first second bits
  unfolding read_two
  two-decides e =
      let M = two-zero plan first second bits e in
      let B = M.both in
      let one = passes (reads-pass ByRow plan first bits
      (record { lengths = record { accepted = B.accepted; sheet_len = B.first_form.size; bits_size = M.bits_size }; form = B.first_form })) in
      let other = passes (reads-pass ByRow plan second bits
      (record { lengths = record { accepted = B.accepted; sheet_len = B.second_form.size; bits_size = M.bits_size }; form = B.second_form })) in
      rw (eq-eqb (read_two_checks plan first second bits).number 0 e)
      (ap₂ (λ (a b : Outcome). decide a b bits) (read-mends ByRow plan first bits one) (read-mends ByRow plan second bits other))

-- a read that succeeds
abbrev succeeds : Report → List ℕ → List ℕ → Outcome
succeeds r sheet bits = record { verdict = accepted; report = r; sheet = sheet; bits = bits }

-- a read that does not: both buffers as they were
abbrev fails : List ℕ → List ℕ → Outcome
fails sheet bits = refused (refusal 14 0 0) sheet bits

module _ (r r' : Report) (s s' b b' old : List ℕ) where
  pub decide-none : two_read (refusal 14 0 0) old ≡ decide (fails s old) (fails s' old) old
  unfolding decide ◌or_else◌
  decide-none = refl

  pub decide-first : two_read accepted b ≡ decide (succeeds r s b) (fails s' old) old
  unfolding decide ◌or_else◌
  decide-first = refl

  pub decide-second : two_read accepted b' ≡ decide (fails s old) (succeeds r' s' b') old
  unfolding decide ◌or_else◌
  decide-second = refl

  pub decide-agree : agree b b' ≡ true → two_read accepted b ≡ decide (succeeds r s b) (succeeds r' s' b') old
  unfolding decide ◌or_else◌
  decide-agree e = rw e

  pub decide-differ : agree b b' ≡ false → two_read (refusal 19 0 0) old ≡ decide (succeeds r s b) (succeeds r' s' b') old
  unfolding decide ◌or_else◌
  decide-differ e = rw e

pub decide-alone : (c : Code) (first second old : List ℕ)
    → alone (mend_outcome ByRow c second old) ≡ decide (fails first old) (mend_outcome ByRow c second old) old
unfolding mend_outcome decide ◌or_else◌
decide-alone c first second old = go (burst_in ByRow c second)
  where
    go : (r : Option Burst) → let o = cond (eqb (found_verdict r).number 0) (taken ByRow c second) (refused (found_verdict r) second old) in
        alone o ≡ decide (fails first old) o old
    go (Some b) = refl
    go None = refl
