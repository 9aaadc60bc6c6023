-- Bursts, under any code:
--
--   OnSheet, burst-on    every cell of a set is on the sheet: so of a burst
--   same-everywhere      such sets that agree on the sheet agree
--   burst-none           the empty set is a burst
--   fits-row, fits-column, sums-fit   a burst fits a sheet exactly where the two have equal sums
--
-- Assumes nothing.
use mathlib.Core.Path.{◌≡◌, refl, sym, ap, ◌∙◌}
use mathlib.Core.Bool.{true, false}
use Prim.Native.Nat.{ℕ, ◌+◌, ◌≤◌, ◌<◌}
use native.Mathlib.Omega.{arith}
use Rattle.gf2.specs.Xor.{◌⊕◌}
use Rattle.gf2.proofs.Xor.{xor-cancel, xor_self}
use Rattle.boxcode.specs.Code.{Code, Formed}
use Rattle.boxcode.specs.Syndrome.{Cells, row_syndrome, column_syndrome, SameCells}
use Rattle.boxcode.specs.Burst.{Burst, Fits, cell_count}
use Rattle.finite.proofs.Truth.{clash, same_truth}
use Rattle.finite.proofs.Count.{most-few}
use Rattle.boxcode.proofs.Cells.{cells-none}
use Rattle.boxcode.proofs.Syndrome.{row-flip, column-flip}

-- every cell of the set is on the sheet
pub record OnSheet (c : Code) (e : Cells) : Type 0 where
  pub rows : (i j : ℕ) → e i j ≡ true → i < c.n1
  pub columns : (i j : ℕ) → e i j ≡ true → j < c.n2

module _ (c : Code) where
  pub burst-on : (e : Cells) → Burst c e → OnSheet c e
  burst-on e B = record {
    rows = λ i j t.
        let l : i < B.top + c.b1 = B.inside.row_to i j t in
        let on : B.top + c.b1 ≤ c.n1 = B.rows_on in
        omega arith;
    columns = λ i j t.
        let l : j < B.left + c.b2 = B.inside.column_to i j t in
        let on : B.left + c.b2 ≤ c.n2 = B.columns_on in
        omega arith;
  }

  -- sets on the sheet with the same cells there have the same cells
  pub same-everywhere : (e e' : Cells) → OnSheet c e → OnSheet c e' → SameCells c e e' → (i j : ℕ) → e i j ≡ e' i j
  same-everywhere e e' on on' h i j =
      same_truth (e i j) (e' i j)
      (λ t. sym (h i j (on.rows i j t) (on.columns i j t)) ∙ t)
      (λ t. h i j (on'.rows i j t) (on'.columns i j t) ∙ t)

  pub burst-none : Formed c → Burst c (λ i j. false)
  burst-none F = record {
    top = 0;
    left = 0;
    rows_on = let l : c.b1 ≤ c.n1 = F.n1_least in omega arith;
    columns_on = let l : c.b2 ≤ c.n2 = F.n2_least in omega arith;
    inside = record {
      row_from = λ i j t. clash t refl;
      row_to = λ i j t. clash t refl;
      column_from = λ i j t. clash t refl;
      column_to = λ i j t. clash t refl;
    };
    sparse = most-few c.t (cell_count c.n1 c.n2 (λ i j. false)) (omega (arith, cells-none c.n1 c.n2 (λ i j. false) (λ i j li lj. refl)));
  }

  -- a burst fits a sheet exactly where the two have equal sums
  pub fits-row : (s e : Cells) → Fits c s e → row_syndrome c s ≡ row_syndrome c e
  fits-row s e f = xor-cancel (row_syndrome c s) (row_syndrome c e) (sym (row-flip c s e) ∙ f.row_zero)

  pub fits-column : (s e : Cells) → Fits c s e → column_syndrome c s ≡ column_syndrome c e
  fits-column s e f = xor-cancel (column_syndrome c s) (column_syndrome c e) (sym (column-flip c s e) ∙ f.column_zero)

  pub sums-fit : (s e : Cells) → row_syndrome c s ≡ row_syndrome c e → column_syndrome c s ≡ column_syndrome c e → Fits c s e
  sums-fit s e p q = record {
    row_zero = row-flip c s e ∙ ap (λ (x : ℕ). x ⊕ row_syndrome c e) p ∙ xor_self (row_syndrome c e);
    column_zero = column-flip c s e ∙ ap (λ (x : ℕ). x ⊕ column_syndrome c e) q ∙ xor_self (column_syndrome c e);
  }
