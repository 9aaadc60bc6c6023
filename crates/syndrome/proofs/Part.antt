-- Sums of parts of a sheet:
--
--   byte-light, byte-first, byte_next    the sum of a byte that is 0, of no cells, and of one cell more
--   byte-below, line-below               a bound by a power of two
--   dark-times, times-le, rest-next      a weight times a digit is the weight where the digit is 1, else 0; the digits that are left
--   line-byte                            the cells of a row before a byte, and then those of the byte
--   line-equal                           equal weights give equal sums
--   place-next, index-next               the counters of a walk along a row
--   place-below, index_below, row-weight, column-weight   the weights of columns by their tables
--   Walk, walk_first, walk-next, walk_here   where a walk along the cells of a byte stands, and what it reads there
--
-- Assumes nothing.
use mathlib.Core.Path.{◌≡◌, sym, ap, ap₂, ◌∙◌}
use mathlib.Core.Bool.{Bool}
use mathlib.Core.List.{List}
use Prim.Native.Nat.{ℕ, zero, suc, ◌+◌, ◌*◌, ◌/◌, ◌%◌, ◌^◌, ◌≤◌, ◌<◌}
use native.Mathlib.Nat.{mod-lt, mod-add-mod, div-one, add-zero, zero-lt-suc, add-mul, one-mul, mul-one, mul-zero, pow-succ', mul_comm, div-div-eq-div-mul}
use native.Mathlib.Numerals.{add-one}
use native.Mathlib.Omega.{arith}
use lib.Bits.{bit_xor}
use lib.Dec.{eqb}
use lib.ListN.{get_or}
use lib.Arith.{digits_lt}
use Rattle.finite.specs.Search.{bit}
use Rattle.gf2.specs.Xor.{◌⊕◌, pick}
use Rattle.gf2.specs.Sum.{xor_sum, chosen_sum}
use Rattle.gf2.proofs.Xor.{xor_is, pick-below}
use Rattle.gf2.proofs.Sum.{sum-none, sum-next, sum-equal, sum-zero, sum_below, sum-split}
use Rattle.finite.proofs.Digits.{bit-none}
use Rattle.syndrome.specs.Gather.{byte_sum, rows_at, columns_at, Words}

-- ---- a byte

pub dark-times : (v x t : ℕ) → v * (x / 2 ^ t % 2) ≡ pick (bit x t) v
unfolding bit pick
dark-times v x t = go (x / 2 ^ t % 2) (mod-lt (x / 2 ^ t) (zero-lt-suc 1))
  where
    go : (d : ℕ) → d < 2 → v * d ≡ pick (eqb d 1) v
    go zero l = mul-zero v
    go (suc zero) l = mul-one v
    go (suc (suc d)) l = absurd (omega arith)

pub times-le : (v x : ℕ) → v * (x % 2) ≤ v
times-le v x = go (x % 2) (mod-lt x (zero-lt-suc 1))
  where
    go : (d : ℕ) → d < 2 → v * d ≤ v
    go zero l = let e : v * 0 ≡ 0 = mul-zero v in omega arith
    go (suc zero) l = let e : v * 1 ≡ v = mul-one v in omega arith
    go (suc (suc d)) l = absurd (omega arith)

module _ (f : ℕ → ℕ) (x j : ℕ) where
  pub byte-first : byte_sum f x j 0 ≡ 0
  unfolding byte_sum
  byte-first = sum-none (λ t. pick (bit x t) (f (j + t)))

  -- the code's step: the weight times the digit
  pub byte_next : (t : ℕ) → byte_sum f x j (t + 1) ≡ byte_sum f x j t ⊕ (f (j + t) * (x / 2 ^ t % 2))
  unfolding byte_sum
  byte_next t =
      ap (λ (n : ℕ). xor_sum n (λ t. pick (bit x t) (f (j + t)))) (add-one t)
      ∙ sum-next t (λ t. pick (bit x t) (f (j + t)))
      ∙ ap (λ (v : ℕ). xor_sum t (λ t. pick (bit x t) (f (j + t))) ⊕ v) (sym (dark-times (f (j + t)) x t))

  pub byte-below : (w n : ℕ) → ((t : ℕ) → t < n → f (j + t) < 2 ^ w) → byte_sum f x j n < 2 ^ w
  unfolding byte_sum
  byte-below w n h = sum_below w n (λ t. pick (bit x t) (f (j + t))) (λ t l. pick-below w (bit x t) (f (j + t)) (h t l))

pub byte-light : (f : ℕ → ℕ) (j n : ℕ) → byte_sum f 0 j n ≡ 0
unfolding byte_sum pick
byte-light f j n = sum-zero n (λ t. pick (bit 0 t) (f (j + t))) (λ t l. ap (λ (b : Bool). pick b (f (j + t))) (bit-none t))

-- the digits that are left
pub rest-next : (x t : ℕ) → x / 2 ^ t / 2 ≡ x / 2 ^ (t + 1)
rest-next x t = div-div-eq-div-mul x (2 ^ t) 2 ∙ ap (λ (y : ℕ). x / y) (sym (ap (λ (n : ℕ). 2 ^ n) (add-one t) ∙ pow-succ' 2 t ∙ mul_comm 2 (2 ^ t)))

-- ---- a row

-- the sum of the n cells of a row from column j on that stand in a byte is added to that of the cells before
pub line-byte : (f : ℕ → ℕ) (p : ℕ → Bool) (x j n : ℕ) → ((t : ℕ) → t < n → p (j + t) ≡ bit x t)
    → chosen_sum (j + n) p f ≡ chosen_sum j p f ⊕ byte_sum f x j n
unfolding byte_sum
line-byte f p x j n h =
    sum-split j n (λ k. pick (p k) (f k))
    ∙ ap (λ (v : ℕ). chosen_sum j p f ⊕ v)
    (sum-equal n (λ t. pick (p (j + t)) (f (j + t))) (λ t. pick (bit x t) (f (j + t))) (λ t l. ap (λ (b : Bool). pick b (f (j + t))) (h t l)))

pub line-below : (w n : ℕ) (p : ℕ → Bool) (f : ℕ → ℕ) → ((k : ℕ) → k < n → f k < 2 ^ w) → chosen_sum n p f < 2 ^ w
line-below w n p f h = sum_below w n (λ k. pick (p k) (f k)) (λ k l. pick-below w (p k) (f k) (h k l))

pub line-equal : (n : ℕ) (p : ℕ → Bool) (f g : ℕ → ℕ) → ((k : ℕ) → k < n → f k ≡ g k) → chosen_sum n p f ≡ chosen_sum n p g
line-equal n p f g h = sum-equal n (λ k. pick (p k) (f k)) (λ k. pick (p k) (g k)) (λ k l. ap (pick (p k)) (h k l))

-- ---- the tables

-- the counters of a walk along a row: j modulo b, and j × b1 + q
pub place-next : (j t b : ℕ) → ((j + t) % b + 1) % b ≡ (j + (t + 1)) % b
place-next j t b = mod-add-mod (j + t) b 1 ∙ ap (λ (x : ℕ). x % b) (let e : j + t + 1 ≡ j + (t + 1) = omega arith in e)

pub index-next : (j t b1 q : ℕ) → (j + t) * b1 + q + b1 ≡ (j + (t + 1)) * b1 + q
index-next j t b1 q =
    let e : (j + (t + 1)) * b1 ≡ (j + t) * b1 + 1 * b1 = ap (λ (x : ℕ). x * b1) (let a : j + (t + 1) ≡ j + t + 1 = omega arith in a) ∙ add-mul (j + t) 1 b1 in
    let o : 1 * b1 ≡ b1 = one-mul b1 in
    omega arith

module _ (n2 b1 b2 q : ℕ) (rows columns : List ℕ) (W : Words n2 b1 b2 q rows columns) where
  pub place-below : (j : ℕ) → j % b2 < b2
  place-below j = mod-lt j W.b2_pos

  pub index_below : (j : ℕ) → j < n2 → j * b1 + q < n2 * b1
  index_below j l = digits_lt l W.q_below

  pub row-weight : (j : ℕ) → rows_at b2 rows j < 2 ^ 32
  unfolding rows_at
  row-weight j = W.rows_below (j % b2) (place-below j)

  pub column-weight : (j : ℕ) → j < n2 → columns_at b1 q columns j < 2 ^ 32
  unfolding columns_at
  column-weight j l = W.columns_below (j * b1 + q) (index_below j l)

-- ---- the walk along the cells of a byte

-- after t cells of the byte x, from column j on: the digits that are left, the two counters and the two sums
pub record Walk (x j b1 b2 q : ℕ) (rows columns : List ℕ) (rest place k row column t : ℕ) : Type 0 where
  pub rest_is : rest ≡ x / 2 ^ t
  pub place_is : place ≡ (j + t) % b2
  pub k_is : k ≡ (j + t) * b1 + q
  pub row_is : row ≡ byte_sum (rows_at b2 rows) x j t
  pub column_is : column ≡ byte_sum (columns_at b1 q columns) x j t

pub walk_first : (x j b1 b2 q : ℕ) (rows columns : List ℕ) → Walk x j b1 b2 q rows columns x (j % b2) (j * b1 + q) 0 0 0
walk_first x j b1 b2 q rows columns = record {
  rest_is = sym (div-one x);
  place_is = ap (λ (y : ℕ). y % b2) (sym (add-zero j));
  k_is = ap (λ (y : ℕ). y * b1 + q) (sym (add-zero j));
  row_is = sym (byte-first (rows_at b2 rows) x j);
  column_is = sym (byte-first (columns_at b1 q columns) x j);
}

pub walk-next : (x j b1 b2 q : ℕ) (rows columns : List ℕ) (rest place k row column t place' : ℕ)
    → Walk x j b1 b2 q rows columns rest place k row column t → place' ≡ (place + 1) % b2
    → Walk x j b1 b2 q rows columns (rest / 2) place' (k + b1) (bit_xor row (get_or rows place 0 * (rest % 2)))
    (bit_xor column (get_or columns k 0 * (rest % 2))) (t + 1)
unfolding rows_at columns_at
walk-next x j b1 b2 q rows columns rest place k row column t place' W e = record {
  rest_is = ap (λ (y : ℕ). y / 2) W.rest_is ∙ rest-next x t;
  place_is = e ∙ ap (λ (y : ℕ). (y + 1) % b2) W.place_is ∙ place-next j t b2;
  k_is = ap (λ (y : ℕ). y + b1) W.k_is ∙ index-next j t b1 q;
  row_is = added rows place ((j + t) % b2) row (byte_sum (rows_at b2 rows) x j t) W.place_is W.row_is ∙ sym (byte_next (rows_at b2 rows) x j t);
  column_is = added columns k ((j + t) * b1 + q) column (byte_sum (columns_at b1 q columns) x j t) W.k_is W.column_is
      ∙ sym (byte_next (columns_at b1 q columns) x j t);
}
  where
    added : (l : List ℕ) (k k' a a' : ℕ) → k ≡ k' → a ≡ a' → bit_xor a (get_or l k 0 * (rest % 2)) ≡ a' ⊕ (get_or l k' 0 * (x / 2 ^ t % 2))
    added l k k' a a' ek ea =
        xor_is a (get_or l k 0 * (rest % 2)) ∙ ap₂ ◌⊕◌ ea (ap₂ (λ (u v : ℕ). get_or l u 0 * (v % 2)) ek W.rest_is)

pub record Here (n2 b1 b2 : ℕ) (rows columns : List ℕ) (place k : ℕ) : Type 0 where
  pub place_in : place < b2
  pub row_word : get_or rows place 0 < 4294967296
  pub k_in : k < n2 * b1
  pub column_word : get_or columns k 0 < 4294967296

pub walk_here : (n2 x j b1 b2 q : ℕ) (rows columns : List ℕ) (rest place k row column t : ℕ) → Words n2 b1 b2 q rows columns
    → Walk x j b1 b2 q rows columns rest place k row column t → j + t < n2 → Here n2 b1 b2 rows columns place k
walk_here n2 x j b1 b2 q rows columns rest place k row column t W K l =
    let p : place < b2 = rw K.place_is (place-below n2 b1 b2 q rows columns W (j + t)) in
    let i : k < n2 * b1 = rw K.k_is (index_below n2 b1 b2 q rows columns W (j + t) l) in
    record { place_in = p; row_word = W.rows_below place p; k_in = i; column_word = W.columns_below k i }
