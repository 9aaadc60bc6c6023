-- The outcome of asking for the sums of a run:
--
--   sum-refused     where a check fails
--   sum_done        where the checks gave 0
--   put_both        two numbers of 32 bits, one after the other, fill 8 bytes
--   v-back, h-back  the two sums, taken out of the 8 bytes
--
-- Assumes nothing.
use mathlib.Core.Path.{◌≡◌, sym, ap, ap₂, ◌∙◌}
use mathlib.Core.List.{List, [], ◌++◌, append-nil}
use Prim.Native.Nat.{ℕ, ◌<◌, ◌≤◌, ◌^◌}
use native.Mathlib.Omega.{arith}
use borrow.Author.Tests.{eq-eqb, ne_eqb}
use lib.ListN.{length}
use lib.Pow.{pow_mono}
use Rattle.layout.specs.Number.{u32_at, low_bytes, overwritten}
use Rattle.layout.specs.Cells.{cell_of}
use Rattle.layout.proofs.Overwriting.{low-length, overwritten-append, overwritten-whole, u32-back}
use Rattle.boxcode.specs.Code.{Code, Formed}
use Rattle.boxcode.specs.Run.{row_syndrome_in, column_syndrome_in}
use Rattle.boxcode.proofs.Run.{row-in-below, column-in-below}
use Rattle.plan.specs.Bytes.{code_of}
use Rattle.buffers.specs.Buffers.{sums_checks}
use Rattle.runsums.specs.RunSums.{run_bytes, summed, sum_run}

module _ (plan sheet : List ℕ) (first past : ℕ) (sums : List ℕ) where
  pub sum-refused : ((sums_checks plan sheet sums).number ≡ 0 → ⊥) → sum_run plan sheet first past sums ≡ summed (sums_checks plan sheet sums) sums
  unfolding sum_run
  sum-refused h = rw (ne_eqb (sums_checks plan sheet sums).number 0 h)

  pub sum_done : (sums_checks plan sheet sums).number ≡ 0
      → sum_run plan sheet first past sums ≡ summed (sums_checks plan sheet sums) (run_bytes (code_of plan) first past sheet)
  unfolding sum_run
  sum_done e = rw (eq-eqb (sums_checks plan sheet sums).number 0 e)

pub put_both : (s t u : List ℕ) (v h : ℕ) → length s ≡ 8 → t ≡ overwritten s 0 (low_bytes 4 v) → u ≡ overwritten t 4 (low_bytes 4 h)
    → u ≡ low_bytes 4 v ++ low_bytes 4 h
unfolding low_bytes
put_both s t u v h l et eu =
    eu ∙ ap (λ (x : List ℕ). overwritten x 4 (low_bytes 4 h)) et ∙ sym (overwritten-append s 0 (low_bytes 4 v) (low_bytes 4 h))
    ∙ overwritten-whole s (low_bytes 4 v ++ low_bytes 4 h) (sym l)

-- a number of at most 32 bits
word : (n x : ℕ) → n ≤ 32 → x < 2 ^ n → x < 4294967296
word n x l u = omega (arith, pow_mono {i = n} {j = 32} l)

module _ (c : Code) (F : Formed c) (first past : ℕ) (sheet : List ℕ) where
  abbrev v : ℕ
  v = row_syndrome_in c first past (cell_of c.n2 sheet)

  abbrev h : ℕ
  h = column_syndrome_in c first past (cell_of c.n2 sheet)

  pub v-back : u32_at (run_bytes c first past sheet) 0 ≡ v
  unfolding run_bytes
  v-back = u32-back [] (low_bytes 4 h) v (word c.rv v F.rv_most (row-in-below c (cell_of c.n2 sheet) F first past))

  pub h-back : u32_at (run_bytes c first past sheet) 4 ≡ h
  unfolding run_bytes
  h-back =
      ap₂ u32_at (ap (λ (t : List ℕ). low_bytes 4 v ++ t) (sym (append-nil (low_bytes 4 h)))) (sym (low-length 4 v))
      ∙ u32-back (low_bytes 4 v) [] h (word c.rh h F.rh_most (column-in-below c (cell_of c.n2 sheet) F first past))
