-- Cells, their joint entries, and the next cell, taken or not.
--
--   cell-joint             the joint entry of the cell in row i and column j
--   taken_step             one cell more
--   taken_more, taken-end  there is more to ask and to take, or not
--   empty-size             the words of no vectors are 64
--   next_row               the number of the first cell of the next row
--
-- Assumes nothing.
use mathlib.Core.Path.{◌≡◌, sym, ap, ap₂, ◌∙◌}
use mathlib.Core.Bool.{Bool, true, false, ◌&&◌, cond}
use mathlib.Core.List.{List}
use Prim.Native.Nat.{ℕ, suc, ◌+◌, ◌*◌, ◌≤◌, ◌<◌}
use native.Mathlib.Decide.{ℕ_discrete, dec_le}
use native.Mathlib.Nat.{add-mul, one-mul}
use native.Mathlib.Numerals.{add-one}
use native.Mathlib.Omega.{arith}
use borrow.Author.Tests.{eq-eqb, ne_eqb, ltb-true, ltb-false, lt-ltb}
use lib.Arith.{digits_div, digits_mod}
use lib.Dec.{eqb, ltb}
use lib.ListN.{length, take, set, length-replicate}
use Rattle.finite.proofs.Truth.{both}
use Rattle.gf2.specs.Basis.{empty_words}
use Rattle.gf2.specs.Swept.{swept}
use Rattle.gf2.specs.Taking.{TakenIn}
use Rattle.gf2.proofs.Taking.{taking-in, taking-out, taking-full}
use Rattle.boxcode.specs.Code.{Code, joint_weight}
use Rattle.maker.specs.Taken.{cell_joint}

pub cell-joint : (c : Code) (i j : ℕ) → j < c.n2 → cell_joint c (i * c.n2 + j) ≡ joint_weight c i j
unfolding cell_joint
cell-joint c i j l = ap₂ (joint_weight c) (digits_div i l) (digits_mod i l)

module _ (f : ℕ → ℕ) (w n : ℕ) (words places : List ℕ) (count : ℕ) (T : TakenIn f w n words places count) where
  pub taken_step : (left : ℕ) → count < w → count < 64 → left ≡ swept (take count words) (f n)
      → TakenIn f w (n + 1) (set words count left) (set places count n) (count + cond (eqb left 0) 0 1)
  taken_step left l u e = rw (add-one n) (go (ℕ_discrete left 0))
    where
      go : Dec (left ≡ 0) → TakenIn f w (suc n) (set words count left) (set places count n) (count + cond (eqb left 0) 0 1)
      go (yes z) =
          let k : count + 0 ≡ count = omega arith in
          rw (eq-eqb left 0 z, k) (taking-out f w n words places count T l u left n (sym e ∙ z))
      go (no z) = rw (ne_eqb left 0 z, add-one count) (taking-in f w n words places count T l u left e z)

  -- all are asked, or enough are taken: no more would be up to m
  pub taken-end : (x y m : ℕ) → (y ≤ x → n ≡ m) → n ≤ m → (ltb x y && ltb count w) ≡ false → TakenIn f w m words places count
  taken-end x y m e l z = go (dec_le y x)
    where
      go : Dec (y ≤ x) → TakenIn f w m words places count
      go (yes u) = rw (e u) at T
      go (no u) =
          let full : w ≤ count = ltb-false count w (sym (ap (λ (t : Bool). t && ltb count w) (lt-ltb x y (omega arith))) ∙ z) in
          taking-full f w n words places count T full m l

-- there is more to ask, and more cells are needed
pub taken_more : (j b count w : ℕ) → (ltb j b && ltb count w) ≡ true → (j < b) × (count < w)
taken_more j b count w e = let t = both (ltb j b) (ltb count w) e in (ltb-true j b t.0, ltb-true count w t.1)

pub next_row : (i b : ℕ) → (i + 1) * b ≡ i * b + b
next_row i b = add-mul i 1 b ∙ ap (λ (k : ℕ). i * b + k) (one-mul b)

pub empty-size : length empty_words ≡ 64
unfolding empty_words
empty-size = length-replicate {A = ℕ} 64 0
