-- Laws of the two sums of a set of cells. They hold of any code, accepted or not, over any weight of a cell:
--
--   weight-flip, weight-cells     the sum of a sheet turned over by e; equal cells have equal sums
--   weight-flat, weight-below     the sum by cell numbers; a bound by a power of two
--   joined                        two numbers in one: sum-joined, weight-joined, the same of their sums
--   row-flip, column-flip, row-cells, column-cells, belongs-cells   the same for the two sums
--   row_below, column-below, joint-below   the weights of cells on the sheet are of rv, of rh and of rv + rh bits
--   check-below                   so is the joint entry of a check cell
--   joint_sum-is                   the sum of the joint weights is V sum + 2 to the power rv × H sum
--   joint-belongs, belongs-joint  it is 0 exactly where the sheet belongs
--
-- Assumes nothing.
use mathlib.Core.Path.{◌≡◌, refl, sym, ap, ap₂, ◌∙◌}
use mathlib.Core.Bool.{Bool, true, false, xor}
use Prim.Native.Nat.{ℕ, zero, suc, ◌+◌, ◌*◌, ◌/◌, ◌%◌, ◌^◌, ◌≤◌, ◌<◌}
use native.Mathlib.Nat.{mod-lt, lt-suc_self, mul_comm, add_comm, mul-zero, mul-le-mul_right}
use native.Mathlib.Omega.{arith}
use lib.Arith.{digits_lt, digits_div, digits_mod}
use lib.Bits as bits
use lib.Pow.{pow_pos, pow-add}
use Rattle.gf2.specs.Xor.{◌⊕◌, pick}
use Rattle.gf2.specs.Sum.{xor_sum}
use Rattle.gf2.proofs.Xor.{pick-differ, pick-below}
use Rattle.gf2.proofs.Sum.{sum-equal, sum-xor, sum-blocks, sum_below}
use Rattle.boxcode.specs.Code.{Code, Formed, row_weight, column_weight, joint_weight, check_joint}
use Rattle.boxcode.specs.Syndrome.{Cells, weight_sum, row_syndrome, column_syndrome, Belongs, flip, SameCells}

-- ---- any weight

module _ (n m : ℕ) (w : ℕ → ℕ → ℕ) where
  pub weight-flip : (s e : Cells) → weight_sum n m w (flip s e) ≡ weight_sum n m w s ⊕ weight_sum n m w e
  unfolding weight_sum
  weight-flip s e =
      sum-equal n (λ i. xor_sum m (λ j. pick (xor (s i j) (e i j)) (w i j))) (λ i. row s i ⊕ row e i)
      (λ i l.
      sum-equal m (λ j. pick (xor (s i j) (e i j)) (w i j)) (λ j. pick (s i j) (w i j) ⊕ pick (e i j) (w i j)) (λ j lj. pick-differ (s i j) (e i j) (w i j))
      ∙ sum-xor m (λ j. pick (s i j) (w i j)) (λ j. pick (e i j) (w i j)))
      ∙ sum-xor n (row s) (row e)
    where
      row : Cells → ℕ → ℕ
      row t i = xor_sum m (λ j. pick (t i j) (w i j))

  pub weight-cells : (s t : Cells) → ((i j : ℕ) → i < n → j < m → s i j ≡ t i j) → weight_sum n m w s ≡ weight_sum n m w t
  unfolding weight_sum
  weight-cells s t h =
      sum-equal n (λ i. xor_sum m (λ j. pick (s i j) (w i j))) (λ i. xor_sum m (λ j. pick (t i j) (w i j)))
      (λ i l. sum-equal m (λ j. pick (s i j) (w i j)) (λ j. pick (t i j) (w i j)) (λ j lj. ap (λ (b : Bool). pick b (w i j)) (h i j l lj)))

  pub weight-flat : (s : Cells) → weight_sum n m w s ≡ xor_sum (n * m) (λ t. pick (s (t / m) (t % m)) (w (t / m) (t % m)))
  unfolding weight_sum
  weight-flat s =
      sym
      (sum-blocks n m (λ t. pick (s (t / m) (t % m)) (w (t / m) (t % m)))
      ∙ sum-equal n (λ i. xor_sum m (λ j. at ((i * m + j) / m) ((i * m + j) % m))) (λ i. xor_sum m (λ j. at i j))
      (λ i l. sum-equal m (λ j. at ((i * m + j) / m) ((i * m + j) % m)) (λ j. at i j) (λ j lj. ap₂ at (digits_div i lj) (digits_mod i lj))))
    where
      at : ℕ → ℕ → ℕ
      at i j = pick (s i j) (w i j)

  pub weight-below : (k : ℕ) (s : Cells) → ((i j : ℕ) → i < n → j < m → w i j < 2 ^ k) → weight_sum n m w s < 2 ^ k
  unfolding weight_sum
  weight-below k s h =
      sum_below k n (λ i. xor_sum m (λ j. pick (s i j) (w i j)))
      (λ i l. sum_below k m (λ j. pick (s i j) (w i j)) (λ j lj. pick-below k (s i j) (w i j) (h i j l lj)))

-- ---- two numbers side by side

-- x in the low k digits, y above them
unfoldable pub joined : ℕ → ℕ → ℕ → ℕ
joined k x y = x + 2 ^ k * y

joined-zero : (k : ℕ) → joined k 0 0 ≡ 0
unfolding joined
joined-zero k = ap (λ (x : ℕ). 0 + x) (mul-zero (2 ^ k))

joined-none : (k x y : ℕ) → joined k x y ≡ 0 → (x ≡ 0) × (y ≡ 0)
unfolding joined
joined-none k x y e =
    let p : 0 < 2 ^ k = pow_pos k in
    let m : 1 * y ≤ 2 ^ k * y = mul-le-mul_right y p in
    omega arith

joined-below : (k l x y : ℕ) → x < 2 ^ k → y < 2 ^ l → x + 2 ^ k * y < 2 ^ (k + l)
joined-below k l x y lx ly =
    let e : 2 ^ k * y ≡ y * 2 ^ k = mul_comm (2 ^ k) y in
    let f : 2 ^ (k + l) ≡ 2 ^ l * 2 ^ k = pow-add 2 k l ∙ mul_comm (2 ^ k) (2 ^ l) in
    let d : y * 2 ^ k + x < 2 ^ l * 2 ^ k = digits_lt ly lx in
    omega arith

xor-joined : (k a b x y : ℕ) → a < 2 ^ k → b < 2 ^ k → joined k a x ⊕ joined k b y ≡ joined k (a ⊕ b) (x ⊕ y)
unfolding joined ◌⊕◌
xor-joined k a b x y la lb = ap₂ bits.bit_xor (turn a x) (turn b y) ∙ bits.xor_block k x y a b la lb ∙ sym (turn (bits.bit_xor a b) (bits.bit_xor x y))
  where
    turn : (a x : ℕ) → a + 2 ^ k * x ≡ x * 2 ^ k + a
    turn a x = add_comm a (2 ^ k * x) ∙ ap (λ (z : ℕ). z + a) (mul_comm (2 ^ k) x)

pick-joined : (k : ℕ) (t : Bool) (x y : ℕ) → pick t (joined k x y) ≡ joined k (pick t x) (pick t y)
unfolding pick
pick-joined k true x y = refl
pick-joined k false x y = sym (joined-zero k)

pub sum-joined : (k n : ℕ) (f g : ℕ → ℕ) → ((i : ℕ) → i < n → f i < 2 ^ k) → xor_sum n (λ i. joined k (f i) (g i)) ≡ joined k (xor_sum n f) (xor_sum n g)
unfolding xor_sum
sum-joined k zero f g h = sym (joined-zero k)
sum-joined k (suc n) f g h =
    ap (λ (x : ℕ). x ⊕ joined k (f n) (g n)) (sum-joined k n f g (λ i l. h i (omega arith)))
    ∙ xor-joined k (xor_sum n f) (f n) (xor_sum n g) (g n) (sum_below k n f (λ i l. h i (omega arith))) (h n (lt-suc_self n))

pub weight-joined : (k n m : ℕ) (v h : ℕ → ℕ → ℕ) (s : Cells) → ((i j : ℕ) → i < n → j < m → v i j < 2 ^ k)
    → weight_sum n m (λ i j. joined k (v i j) (h i j)) s ≡ joined k (weight_sum n m v s) (weight_sum n m h s)
unfolding weight_sum
weight-joined k n m v h s b =
    sum-equal n (λ i. xor_sum m (λ j. pick (s i j) (joined k (v i j) (h i j)))) (λ i. joined k (row v i) (row h i))
    (λ i l.
    sum-equal m (λ j. pick (s i j) (joined k (v i j) (h i j))) (λ j. joined k (pick (s i j) (v i j)) (pick (s i j) (h i j)))
    (λ j lj. pick-joined k (s i j) (v i j) (h i j))
    ∙ sum-joined k m (λ j. pick (s i j) (v i j)) (λ j. pick (s i j) (h i j)) (λ j lj. pick-below k (s i j) (v i j) (b i j l lj)))
    ∙ sum-joined k n (row v) (row h) (λ i l. sum_below k m (λ j. pick (s i j) (v i j)) (λ j lj. pick-below k (s i j) (v i j) (b i j l lj)))
  where
    row : (ℕ → ℕ → ℕ) → ℕ → ℕ
    row w i = xor_sum m (λ j. pick (s i j) (w i j))

-- ---- the two sums of a code

module _ (c : Code) where
  pub row-flip : (s e : Cells) → row_syndrome c (flip s e) ≡ row_syndrome c s ⊕ row_syndrome c e
  unfolding row_syndrome
  row-flip = weight-flip c.n1 c.n2 (row_weight c)

  pub column-flip : (s e : Cells) → column_syndrome c (flip s e) ≡ column_syndrome c s ⊕ column_syndrome c e
  unfolding column_syndrome
  column-flip = weight-flip c.n1 c.n2 (column_weight c)

  pub row-cells : (s t : Cells) → SameCells c s t → row_syndrome c s ≡ row_syndrome c t
  unfolding row_syndrome
  row-cells = weight-cells c.n1 c.n2 (row_weight c)

  pub column-cells : (s t : Cells) → SameCells c s t → column_syndrome c s ≡ column_syndrome c t
  unfolding column_syndrome
  column-cells = weight-cells c.n1 c.n2 (column_weight c)

  pub belongs-cells : (s t : Cells) → SameCells c s t → Belongs c s → Belongs c t
  belongs-cells s t h b = record {
    row_zero = sym (row-cells s t h) ∙ b.row_zero;
    column_zero = sym (column-cells s t h) ∙ b.column_zero;
  }

module _ (c : Code) (F : Formed c) where
  pub row_below : (i j : ℕ) → i < c.n1 → row_weight c i j < 2 ^ c.rv
  unfolding row_weight
  row_below i j l = F.row_entries (i * c.b2 + j % c.b2) (digits_lt l (mod-lt j F.b2_pos))

  pub column-below : (i j : ℕ) → j < c.n2 → column_weight c i j < 2 ^ c.rh
  unfolding column_weight
  column-below i j l = F.column_entries (j * c.b1 + i % c.b1) (digits_lt l (mod-lt i F.b1_pos))

  pub joint_sum-is : (s : Cells) → weight_sum c.n1 c.n2 (joint_weight c) s ≡ joined c.rv (row_syndrome c s) (column_syndrome c s)
  unfolding row_syndrome column_syndrome joint_weight joined
  joint_sum-is s = weight-joined c.rv c.n1 c.n2 (row_weight c) (column_weight c) s (λ i j l lj. row_below i j l)

  pub joint-below : (i j : ℕ) → i < c.n1 → j < c.n2 → joint_weight c i j < 2 ^ (c.rv + c.rh)
  unfolding joint_weight
  joint-below i j li lj = joined-below c.rv c.rh (row_weight c i j) (column_weight c i j) (row_below i j li) (column-below i j lj)

  pub check-below : (k : ℕ) → k < c.rv + c.rh → check_joint c k < 2 ^ (c.rv + c.rh)
  unfolding check_joint
  check-below k l = joint-below (c.check_row k) (c.check_column k) (F.check_rows k l) (F.check_columns k l)

  pub joint-belongs : (s : Cells) → weight_sum c.n1 c.n2 (joint_weight c) s ≡ 0 → Belongs c s
  joint-belongs s e =
      let z = joined-none c.rv (row_syndrome c s) (column_syndrome c s) (sym (joint_sum-is s) ∙ e) in
      record { row_zero = z.0; column_zero = z.1 }

  pub belongs-joint : (s : Cells) → Belongs c s → weight_sum c.n1 c.n2 (joint_weight c) s ≡ 0
  belongs-joint s b = joint_sum-is s ∙ ap₂ (joined c.rv) b.row_zero b.column_zero ∙ joined-zero c.rv
