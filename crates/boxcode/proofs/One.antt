-- One cell:
--
--   one_cell           the set of cells that has cell (i, j) and no other
--   one-weight         its sum is the weight of the cell
--   one-turned         a sheet that belongs, with the cell turned over, has the joint entry of the cell as its joint sum
--   row_on, column-on  the cell of a data bit is on the sheet
--   one-data           it is the cell of that data bit and of no other
--   check-data         a check cell is the cell of no data bit
--   turned-data        a sheet with the cell of a data bit turned over holds its data with that bit turned over
--
-- Assumes nothing.
use mathlib.Core.Path.{◌≡◌, refl, sym, ap, ap₂, ◌∙◌}
use mathlib.Core.Bool.{Bool, true, false, xor, ◌&&◌}
use Prim.Native.Nat.{ℕ, ◌/◌, ◌%◌, ◌<◌}
use borrow.Author.Tests.{eqb-true, eq-eqb, ne_eqb}
use lib.Dec.{eqb}
use Rattle.finite.proofs.Truth.{clash, not-true, same_truth, and-false, both_equal, equal-both}
use Rattle.gf2.specs.Xor.{◌⊕◌, pick}
use Rattle.gf2.specs.Sum.{xor_sum}
use Rattle.gf2.proofs.Xor.{xor_zero_left}
use Rattle.gf2.proofs.Sum.{sum-single, sum-zero}
use Rattle.boxcode.specs.Code.{Code, Formed, cell_number, joint_weight}
use Rattle.boxcode.specs.Syndrome.{Cells, weight_sum, Belongs, flip}
use Rattle.boxcode.specs.Check.{check_at, data_order, data_size, rank, data_cell, data_of}
use Rattle.boxcode.proofs.Syndrome.{weight-flip, belongs-joint}
use Rattle.boxcode.proofs.Check.{number-cell, row_inside, column-inside, data-below, data-free, data-rank}
use Rattle.boxcode.proofs.Image.{picked, unpicked}

abbrev pub one_cell : ℕ → ℕ → Cells
one_cell i j a b = eqb i a && eqb j b

pub one-weight : (n m : ℕ) (w : ℕ → ℕ → ℕ) (i j : ℕ) → i < n → j < m → weight_sum n m w (one_cell i j) ≡ w i j
unfolding weight_sum
one-weight n m w i j li lj =
    sum-single n i (λ a. xor_sum m (λ b. pick (one_cell i j a b) (w a b))) li
    (λ a la ne. sum-zero m (λ b. pick (one_cell i j a b) (w a b))
    (λ b lb. unpicked (one_cell i j a b) (w a b) (ap (λ (t : Bool). t && eqb j b) (ne_eqb i a (λ e. ne (sym e))))))
    ∙ sum-single m j (λ b. pick (one_cell i j i b) (w i b)) lj
    (λ b lb ne. unpicked (one_cell i j i b) (w i b) (ap (λ (t : Bool). eqb i i && t) (ne_eqb j b (λ e. ne (sym e))) ∙ and-false (eqb i i)))
    ∙ picked (one_cell i j i j) (w i j) (equal-both i j i j refl refl)

module _ (c : Code) (F : Formed c) where
  pub one-turned : (s : Cells) (i j : ℕ) → i < c.n1 → j < c.n2 → Belongs c s
      → weight_sum c.n1 c.n2 (joint_weight c) (flip s (one_cell i j)) ≡ joint_weight c i j
  one-turned s i j li lj b =
      weight-flip c.n1 c.n2 (joint_weight c) s (one_cell i j)
      ∙ ap₂ ◌⊕◌ (belongs-joint c F s b) (one-weight c.n1 c.n2 (joint_weight c) i j li lj)
      ∙ xor_zero_left (joint_weight c i j)

  pub check-data : (i j : ℕ) → check_at c (cell_number c i j) ≡ true → (d : ℕ) → d < data_size c → data_of c (one_cell i j) d ≡ false
  unfolding data_of
  check-data i j h d l =
      not-true (one_cell i j (data_cell c d / c.n2) (data_cell c d % c.n2))
      (λ e.
      let w = both_equal i j (data_cell c d / c.n2) (data_cell c d % c.n2) e in
      clash (ap (check_at c) (sym (number-cell c (data_cell c d)) ∙ sym (ap₂ (cell_number c) w.0 w.1)) ∙ h) (data-free c F d l))

  module _ (d : ℕ) (l : d < data_size c) where
    pub row_on : data_cell c d / c.n2 < c.n1
    row_on = row_inside c (data_cell c d) (data-below c F d l)

    pub column-on : data_cell c d % c.n2 < c.n2
    column-on = column-inside c (data_cell c d) (data-below c F d l)

    pub one-data : (d' : ℕ) → d' < data_size c → data_of c (one_cell (data_cell c d / c.n2) (data_cell c d % c.n2)) d' ≡ eqb d d'
    unfolding data_of
    one-data d' l' =
        same_truth (one_cell (data_cell c d / c.n2) (data_cell c d % c.n2) (data_cell c d' / c.n2) (data_cell c d' % c.n2)) (eqb d d')
        (λ t.
        let w = both_equal (data_cell c d / c.n2) (data_cell c d % c.n2) (data_cell c d' / c.n2) (data_cell c d' % c.n2) t in
        let e : data_cell c d ≡ data_cell c d' = sym (number-cell c (data_cell c d)) ∙ ap₂ (cell_number c) w.0 w.1 ∙ number-cell c (data_cell c d') in
        eq-eqb d d' (sym (data-rank c F d l) ∙ ap (λ (x : ℕ). rank c (data_order c x)) e ∙ data-rank c F d' l'))
        (λ t.
        let e : data_cell c d ≡ data_cell c d' = ap (data_cell c) (eqb-true d d' t) in
        equal-both (data_cell c d / c.n2) (data_cell c d % c.n2) (data_cell c d' / c.n2) (data_cell c d' % c.n2) (ap (λ (x : ℕ). x / c.n2) e)
        (ap (λ (x : ℕ). x % c.n2) e))

    pub turned-data : (s : Cells) (d' : ℕ) → d' < data_size c
        → data_of c (flip s (one_cell (data_cell c d / c.n2) (data_cell c d % c.n2))) d' ≡ xor (data_of c s d') (eqb d d')
    unfolding data_of
    turned-data s d' l' = ap (xor (data_of c s d')) (one-data d' l')
