-- The written sheet:
--
--   spans_all        independent numbers of n bits, n of them, give every number of n bits (the algebra that writing rests on)
--   belongs-true, true-belongs   the test of belonging
--   joint_sum, checks-sum   the joint sum of a set of cells, and of a set of check cells
--   belongs-only     two sheets that belong and hold the same data are the same cells
--   written-data     the written sheet holds its data
--   balanced         a sheet belongs if it is another with check cells turned over that sum to the joint sum of that
--   fill-belongs     so does a filled sheet, where its check cells sum to what its data cells sum to
--   Writable         writing is possible: the written sheet belongs, and a belonging sheet is known by its data
--   writable         a code that meets the conditions is writable
--   written-only     the written sheet is the only sheet that belongs and holds its data
--   written_same     equal data, equal written sheets
--
-- Assumes nothing.
use mathlib.Core.Path.{◌≡◌, refl, sym, ap, ap₂, ◌∙◌}
use mathlib.Core.Bool.{Bool, true, false, xor}
use Prim.Native.Nat.{ℕ, ◌+◌, ◌*◌, ◌/◌, ◌%◌, ◌^◌, ◌≤◌, ◌<◌}
use native.Mathlib.Omega.{arith}
use Rattle.gf2.specs.Xor.{◌⊕◌, pick}
use Rattle.gf2.specs.Sum.{chosen_sum}
use Rattle.gf2.specs.Independence.{Independent}
use Rattle.gf2.proofs.Xor.{xor_self, xor-back as add_back}
use Rattle.gf2.proofs.Sum.{sum-equal}
use Rattle.gf2.proofs.Independence.{spanned-chosen, independent-free}
use Rattle.gf2.proofs.Span.{full-span}
use Rattle.finite.specs.Search.{bit, least, number_of}
use Rattle.boxcode.specs.Code.{Code, Formed, joint_weight, check_joint, cell_number}
use Rattle.boxcode.specs.Condition.{Conditions, everyone}
use Rattle.boxcode.specs.Syndrome.{Cells, weight_sum, row_syndrome, column_syndrome, Belongs, flip, SameCells}
use Rattle.boxcode.specs.Check.{Bits, check_number, check_at, data_size, fill, belongs, written, data_of}
use Rattle.finite.proofs.Truth as truth
use Rattle.finite.proofs.Truth.{both_equal, equal-both, not-true, xor-equal}
use Rattle.finite.proofs.Search.{least-found, least-most}
use Rattle.finite.proofs.Digits.{bit-none, number-below, bit-number}
use Rattle.boxcode.proofs.Image.{sum-image, unpicked}
use Rattle.boxcode.proofs.Syndrome.{weight-flip, weight-flat, weight-below, joint-below, check-below, joint-belongs, belongs-joint}
use Rattle.boxcode.proofs.Check.{check-row, check-column, number-cell, row_inside, column-inside, check-listed, check-found, rank_below}
use Rattle.boxcode.proofs.Fill.{check_cell, SameData, cell-data, same-cells, fill-check, data-fill}

spans_all : (n : ℕ) (f : ℕ → ℕ) → n ≤ 64 → ((k : ℕ) → k < n → f k < 2 ^ n) → Independent n everyone f → (x : ℕ) → x < 2 ^ n
    → (m : ℕ → Bool) × (chosen_sum n m f ≡ x)
spans_all n f few below h x l =
    let w = spanned-chosen n everyone f x (full-span n f few below (independent-free n everyone f h) x l) in
    (w.0, w.2)

-- the joint sum of a set of cells
abbrev pub joint_sum : Code → Cells → ℕ
joint_sum c s = weight_sum c.n1 c.n2 (joint_weight c) s

pub belongs-true : (c : Code) (s : Cells) → belongs c s ≡ true → Belongs c s
unfolding belongs
belongs-true c s t =
    let sums = both_equal (row_syndrome c s) (column_syndrome c s) 0 0 t in
    record { row_zero = sums.0; column_zero = sums.1 }

pub true-belongs : (c : Code) (s : Cells) → Belongs c s → belongs c s ≡ true
unfolding belongs
true-belongs c s b = equal-both (row_syndrome c s) (column_syndrome c s) 0 0 b.row_zero b.column_zero

module _ (c : Code) (F : Formed c) where
  -- of a set that has check cells only
  pub checks-sum : (e : Cells) → ((d : ℕ) → d < data_size c → data_of c e d ≡ false)
      → joint_sum c e ≡ chosen_sum (c.rv + c.rh) (check_cell c e) (check_joint c)
  unfolding check_joint
  checks-sum e none =
      weight-flat c.n1 c.n2 (joint_weight c) e
      ∙ sum-image (c.rv + c.rh) (c.n1 * c.n2) (check_number c) (check-listed c F) (λ t. at (t / c.n2) (t % c.n2))
      (λ k. at (c.check_row k) (c.check_column k))
      (λ k l. ap₂ at (check-row c F k l) (check-column c F k l))
      (λ t l miss. unpicked (e (t / c.n2) (t % c.n2)) (joint_weight c (t / c.n2) (t % c.n2)) (off t l miss))
    where
      at : ℕ → ℕ → ℕ
      at i j = pick (e i j) (joint_weight c i j)

      off : (t : ℕ) → t < c.n1 * c.n2 → ((k : ℕ) → k < c.rv + c.rh → check_number c k ≡ t → ⊥) → e (t / c.n2) (t % c.n2) ≡ false
      off t l miss =
          let i = t / c.n2 in
          let j = t % c.n2 in
          let q : cell_number c i j ≡ t = number-cell c t in
          let f : check_at c (cell_number c i j) ≡ false =
          not-true (check_at c (cell_number c i j)) (λ u. let w = check-found c F (cell_number c i j) u in miss w.0 w.1 (w.2 ∙ q)) in
          cell-data c F e i j (row_inside c t l) (column-inside c t l) f
          ∙ none _ (rank_below c F (cell_number c i j) (omega arith) f)

  -- two sheets with the same data differ in check cells only
  apart-data : (s s' : Cells) → SameData c s s' → (d : ℕ) → d < data_size c → data_of c (flip s s') d ≡ false
  unfolding data_of
  apart-data s s' same d l = ap (λ (b : Bool). xor b (data_of c s' d)) (same d l) ∙ truth.xor_self (data_of c s' d)

  apart-sum : (s s' : Cells) → SameData c s s'
      → joint_sum c s ⊕ joint_sum c s' ≡ chosen_sum (c.rv + c.rh) (λ k. xor (check_cell c s k) (check_cell c s' k)) (check_joint c)
  apart-sum s s' same = sym (weight-flip c.n1 c.n2 (joint_weight c) s s') ∙ checks-sum (flip s s') (apart-data s s' same)

  pub belongs-only : Conditions c → (s s' : Cells) → Belongs c s → Belongs c s' → SameData c s s' → SameCells c s s'
  belongs-only K s s' b b' same =
      same-cells c F s s'
      (λ k l.
      xor-equal (check_cell c s k) (check_cell c s' k)
      (K.checks (λ k. xor (check_cell c s k) (check_cell c s' k)) (λ k t. refl)
      (sym (apart-sum s s' same) ∙ ap₂ ◌⊕◌ (belongs-joint c F s b) (belongs-joint c F s' b') ∙ xor_self 0)
      k l))
      same

  pub written-data : (x : Bits) (d : ℕ) → d < data_size c → data_of c (written c x) d ≡ x d
  unfolding written
  written-data x = data-fill c F x (least (2 ^ (c.rv + c.rh)) (λ y. belongs c (fill c x y)))

  -- the data of s, and those check cells turned over whose joint entries sum to the joint sum of s: both sums are 0
  pub balanced : (s t : Cells) (y : ℕ) → SameData c t s → ((k : ℕ) → k < c.rv + c.rh → xor (check_cell c t k) (check_cell c s k) ≡ bit y k)
      → chosen_sum (c.rv + c.rh) (bit y) (check_joint c) ≡ joint_sum c s → Belongs c t
  balanced s t y same turned made =
      joint-belongs c F t
      (sym (add_back (joint_sum c t) (joint_sum c s))
      ∙ ap (λ (z : ℕ). z ⊕ joint_sum c s)
      (apart-sum t s same
      ∙ sum-equal (c.rv + c.rh) (λ k. pick (xor (check_cell c t k) (check_cell c s k)) (check_joint c k)) (λ k. pick (bit y k) (check_joint c k))
      (λ k l. ap (λ (b : Bool). pick b (check_joint c k)) (turned k l))
      ∙ made)
      ∙ xor_self (joint_sum c s))

  -- so of a sheet filled with such digits
  fill-belongs : (x : Bits) (y : ℕ) → chosen_sum (c.rv + c.rh) (bit y) (check_joint c) ≡ joint_sum c (fill c x 0) → Belongs c (fill c x y)
  fill-belongs x y =
      balanced (fill c x 0) (fill c x y) y (λ d l. data-fill c F x y d l ∙ sym (data-fill c F x 0 d l))
      (λ k l. ap₂ xor (fill-check c F x y k l) (fill-check c F x 0 k l ∙ bit-none k) ∙ truth.xor-none (bit y k))

  -- some do
  written-exists : Conditions c → (x : Bits) → (y : ℕ) × (y < 2 ^ (c.rv + c.rh)) × Belongs c (fill c x y)
  written-exists K x = (
    number_of r way.0,
    number-below r way.0,
    fill-belongs x (number_of r way.0)
        (sum-equal r (λ k. pick (bit (number_of r way.0) k) (check_joint c k)) (λ k. pick (way.0 k) (check_joint c k))
        (λ k l. ap (λ (b : Bool). pick b (check_joint c k)) (bit-number r way.0 k l))
        ∙ way.1),
  )
    where
      r : ℕ
      r = c.rv + c.rh

      few : c.rv + c.rh ≤ 64
      few = let a : c.rv ≤ 32 = F.rv_most in let b : c.rh ≤ 32 = F.rh_most in omega arith

      way : (m : ℕ → Bool) × (chosen_sum r m (check_joint c) ≡ joint_sum c (fill c x 0))
      way =
          spans_all r (check_joint c) few (check-below c F) K.checks (joint_sum c (fill c x 0))
          (weight-below c.n1 c.n2 (joint_weight c) r (fill c x 0) (joint-below c F))

  written-belongs : Conditions c → (x : Bits) → Belongs c (written c x)
  unfolding written
  written-belongs K x =
      let w = written-exists K x in
      let l : w.0 < 2 ^ (c.rv + c.rh) = w.1 in
      let p : ℕ → Bool = λ y. belongs c (fill c x y) in
      let m : least (2 ^ (c.rv + c.rh)) p ≤ w.0 = least-most (2 ^ (c.rv + c.rh)) p w.0 (true-belongs c (fill c x w.0) w.2) in
      belongs-true c (written c x) (least-found (2 ^ (c.rv + c.rh)) p (omega arith))

-- data and the sheets that belong are one to one
pub record Writable (c : Code) : Type 0 where
  pub belongs : (x : Bits) → Belongs c (written c x)
  pub only : (s s' : Cells) → Belongs c s → Belongs c s' → SameData c s s' → SameCells c s s'

pub writable : (c : Code) → Formed c → Conditions c → Writable c
writable c F K = record { belongs = written-belongs c F K; only = belongs-only c F K }

pub written-only : (c : Code) → Formed c → Writable c → (x : Bits) (s : Cells) → Belongs c s → ((d : ℕ) → d < data_size c → data_of c s d ≡ x d)
    → SameCells c s (written c x)
written-only c F W x s b same = W.only s (written c x) b (W.belongs x) (λ d l. same d l ∙ sym (written-data c F x d l))

pub written_same : (c : Code) → Formed c → Writable c → (x x' : Bits) → ((d : ℕ) → d < data_size c → x d ≡ x' d) → SameCells c (written c x) (written c x')
written_same c F W x x' same = written-only c F W x' (written c x) (W.belongs x) (λ d l. written-data c F x d l ∙ same d l)
