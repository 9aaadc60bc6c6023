-- The nine numbers of a sheet:
--
--   numbers-length    they are 18 bytes
--   numbers-written   written one after the other, they fill 18 bytes
--   at-number, at_p, at-q, at_cells, at_top, at_left, at-height, at_width, at-pattern
--                     each of them that is below 65536 is read back at its place
--
-- Assumes nothing.
use mathlib.Core.Path.{◌≡◌, refl, sym, ap, ◌∙◌}
use mathlib.Core.List.{List}
use Prim.Native.Nat.{ℕ, ◌<◌}
use native.Mathlib.Omega.{arith}
use lib.ListN.{length}
use Rattle.layout.specs.Number.{u16_at, low_bytes, overwritten}
use Rattle.layout.proofs.Overwriting.{overwritten-whole}
use Rattle.buffers.specs.Buffers.{numbers_size}
use Rattle.reader.specs.Read.{Outcome}
use Rattle.stack.specs.ReadStack.{number_bytes}

pub numbers-length : (o : Outcome) → length (number_bytes o) ≡ numbers_size
unfolding number_bytes low_bytes
numbers-length o = refl

module _ (o : Outcome) where
  -- one number written after the others
  abbrev then : (s t : List ℕ) (at x : ℕ) → Type 0
  then s t at x = t ≡ overwritten s at (low_bytes 2 x)

  pub numbers-written : (s s1 s2 s3 s4 s5 s6 s7 s8 s9 : List ℕ) → length s ≡ numbers_size
      → then s s1 0 o.verdict.number → then s1 s2 2 o.verdict.p → then s2 s3 4 o.verdict.q → then s3 s4 6 o.report.cells
      → then s4 s5 8 o.report.top → then s5 s6 10 o.report.left → then s6 s7 12 o.report.height → then s7 s8 14 o.report.width
      → then s8 s9 16 o.report.pattern → s9 ≡ number_bytes o
  unfolding number_bytes low_bytes overwritten
  numbers-written s s1 s2 s3 s4 s5 s6 s7 s8 s9 l e1 e2 e3 e4 e5 e6 e7 e8 e9 =
      e9
      ∙ ap (λ (t : List ℕ). overwritten t 16 (low_bytes 2 o.report.pattern))
      (e8
      ∙ ap (λ (t : List ℕ). overwritten t 14 (low_bytes 2 o.report.width))
      (e7
      ∙ ap (λ (t : List ℕ). overwritten t 12 (low_bytes 2 o.report.height))
      (e6
      ∙ ap (λ (t : List ℕ). overwritten t 10 (low_bytes 2 o.report.left))
      (e5
      ∙ ap (λ (t : List ℕ). overwritten t 8 (low_bytes 2 o.report.top))
      (e4
      ∙ ap (λ (t : List ℕ). overwritten t 6 (low_bytes 2 o.report.cells))
      (e3
      ∙ ap (λ (t : List ℕ). overwritten t 4 (low_bytes 2 o.verdict.q))
      (e2 ∙ ap (λ (t : List ℕ). overwritten t 2 (low_bytes 2 o.verdict.p)) e1)))))))
      ∙ overwritten-whole s (number_bytes o) (numbers-length o ∙ sym l)

-- ---- read back

module _ (o : Outcome) where
  pub at-number : o.verdict.number < 65536 → u16_at (number_bytes o) 0 ≡ o.verdict.number
  unfolding number_bytes u16_at low_bytes
  at-number l = omega arith

  pub at_p : o.verdict.p < 65536 → u16_at (number_bytes o) 2 ≡ o.verdict.p
  unfolding number_bytes u16_at low_bytes
  at_p l = omega arith

  pub at-q : o.verdict.q < 65536 → u16_at (number_bytes o) 4 ≡ o.verdict.q
  unfolding number_bytes u16_at low_bytes
  at-q l = omega arith

  pub at_cells : o.report.cells < 65536 → u16_at (number_bytes o) 6 ≡ o.report.cells
  unfolding number_bytes u16_at low_bytes
  at_cells l = omega arith

  pub at_top : o.report.top < 65536 → u16_at (number_bytes o) 8 ≡ o.report.top
  unfolding number_bytes u16_at low_bytes
  at_top l = omega arith

  pub at_left : o.report.left < 65536 → u16_at (number_bytes o) 10 ≡ o.report.left
  unfolding number_bytes u16_at low_bytes
  at_left l = omega arith

  pub at-height : o.report.height < 65536 → u16_at (number_bytes o) 12 ≡ o.report.height
  unfolding number_bytes u16_at low_bytes
  at-height l = omega arith

  pub at_width : o.report.width < 65536 → u16_at (number_bytes o) 14 ≡ o.report.width
  unfolding number_bytes u16_at low_bytes
  at_width l = omega arith

  pub at-pattern : o.report.pattern < 65536 → u16_at (number_bytes o) 16 ≡ o.report.pattern
  unfolding number_bytes u16_at low_bytes
  at-pattern l = omega arith
