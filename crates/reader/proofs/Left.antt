-- What a read leaves:
--
--   sheet-length, bits-length   buffers of the right lengths stay as long as they were
--   read_told                   where checks 1 to 12 pass, the read tells 0, 13 or 14 (OneOf)
--   read_keeps                  a read that is refused leaves the sheet and the data buffer as they were
--
-- Assumes nothing.
use mathlib.Core.Path.{◌≡◌, refl, ap, ◌∙◌}
use mathlib.Core.Bool.{Bool, true, false, cond}
use mathlib.Core.Logic.{◌⊎◌, inl, inr}
use mathlib.Core.List.{List}
use Prim.Native.Nat.{ℕ}
use lib.Dec.{eqb, ltb}
use lib.ListN.{length}
use Rattle.layout.specs.Cells.{row_bytes}
use Rattle.layout.specs.Stored.{size_in, first_unused_in}
use Rattle.layout.specs.declared.stored.Layout.{Layout}
use Rattle.layout.proofs.Form.{bytes-form, row-sheet}
use Rattle.layout.proofs.Layouts.{bytes-size}
use Rattle.boxcode.specs.Check.{data_size}
use Rattle.plan.specs.declared.verdict.Verdict.{Verdict}
use Rattle.plan.specs.Verdict.{refusal, verdict_if, ◌or_else◌}
use Rattle.plan.specs.Bytes.{code_of}
use Rattle.buffers.specs.Buffers.{unused_verdict, length_checks, read_checks}
use Rattle.buffers.proofs.Passing.{Lengths, lengths-pass}
use Rattle.std.specs.Prelude.{Option, Some, None}
use Rattle.mend.specs.declared.found.Burst.{Burst}
use Rattle.mend.specs.Found.{found_verdict}
use Rattle.reader.specs.Read.{burst_in, read_verdict, sheet_read, bits_read, refused, taken, read_in}

module _ (lay : Layout) (plan sheet bits : List ℕ) where
  pub sheet-length : length sheet ≡ size_in lay (code_of plan).n1 (code_of plan).n2
      → length (read_in lay plan sheet bits).sheet ≡ size_in lay (code_of plan).n1 (code_of plan).n2
  unfolding read_in sheet_read
  sheet-length e = go (eqb (read_verdict lay plan sheet bits).number 0)
    where
      go : (b : Bool) → length (cond b (taken lay (code_of plan) sheet) (refused (read_verdict lay plan sheet bits) sheet bits)).sheet
          ≡ size_in lay (code_of plan).n1 (code_of plan).n2
      go true = bytes-size lay (code_of plan).n1 (code_of plan).n2 _
      go false = e

  pub bits-length : length bits ≡ row_bytes (data_size (code_of plan)) → length (read_in lay plan sheet bits).bits ≡ row_bytes (data_size (code_of plan))
  unfolding read_in bits_read
  bits-length e = go (eqb (read_verdict lay plan sheet bits).number 0)
    where
      go : (b : Bool) → length (cond b (taken lay (code_of plan) sheet) (refused (read_verdict lay plan sheet bits) sheet bits)).bits
          ≡ row_bytes (data_size (code_of plan))
      go true = (bytes-form 1 (data_size (code_of plan)) _).size ∙ row-sheet (data_size (code_of plan))
      go false = e

-- 0, 13 or 14
abbrev pub OneOf : ℕ → Type 0
OneOf n = (n ≡ 0) ⊎ ((n ≡ 13) ⊎ (n ≡ 14))

else-told : (v w : Verdict) → OneOf v.number → OneOf w.number → OneOf (v or_else w).number
unfolding ◌or_else◌
else-told v w p q = go (eqb v.number 0)
  where
    go : (t : Bool) → OneOf (cond t w v).number
    go true = q
    go false = p

unused-told : (lay : Layout) (n1 n2 : ℕ) (s : List ℕ) → OneOf (unused_verdict lay n1 n2 s).number
unfolding unused_verdict
unused-told lay n1 n2 s = go (ltb (first_unused_in lay n1 n2 s) (size_in lay n1 n2))
  where
    go : (t : Bool) → OneOf (verdict_if t (refusal 13 (first_unused_in lay n1 n2 s) 0)).number
    go true = inr (inl refl)
    go false = inl refl

found-told : (r : Option Burst) → OneOf (found_verdict r).number
found-told (Some b) = inl refl
found-told None = inr (inr refl)

module _ (lay : Layout) (plan sheet bits : List ℕ) where
  pub read_told : Lengths lay plan sheet bits → OneOf (read_in lay plan sheet bits).verdict.number
  unfolding read_in read_verdict read_checks
  read_told L =
      go (eqb (read_verdict lay plan sheet bits).number 0)
      (else-told (read_checks lay plan sheet bits) (found_verdict (burst_in lay (code_of plan) sheet))
      (else-told (length_checks lay plan sheet bits) (unused_verdict lay (code_of plan).n1 (code_of plan).n2 sheet)
      (inl (ap (λ (v : Verdict). v.number) (lengths-pass lay plan sheet bits L))) (unused-told lay (code_of plan).n1 (code_of plan).n2 sheet))
      (found-told (burst_in lay (code_of plan) sheet)))
    where
      go : (t : Bool) → OneOf (read_verdict lay plan sheet bits).number
          → OneOf (cond t (taken lay (code_of plan) sheet) (refused (read_verdict lay plan sheet bits) sheet bits)).verdict.number
      go true p = inl refl
      go false p = p

  pub read_keeps : ((read_in lay plan sheet bits).verdict.number ≡ 0 → ⊥)
      → ((read_in lay plan sheet bits).sheet ≡ sheet) × ((read_in lay plan sheet bits).bits ≡ bits)
  unfolding read_in
  read_keeps = go (eqb (read_verdict lay plan sheet bits).number 0)
    where
      go : (t : Bool) → let o = cond t (taken lay (code_of plan) sheet) (refused (read_verdict lay plan sheet bits) sheet bits) in (o.verdict.number ≡ 0 → ⊥)
          → (o.sheet ≡ sheet) × (o.bits ≡ bits)
      go true h = absurd (h refl)
      go false h = (refl, refl)
