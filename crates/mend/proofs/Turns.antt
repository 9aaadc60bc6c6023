-- Small laws that a turn of a loop, or its start, rests on.
--
--   bit-value, one-true, not-one, digit-most   a digit as the number that the code has
--   ones-digits           the digits that are 1, counted
--   times-next            one multiple more
--   mod-start, mod-next   remainders counted up from that of a number
--   sum-start, sum_more   one summand more, as the code's exclusive-or has it
--   entry-stored          one entry more of a table in the first words of an array
--   digits_from, digits-start, -more, -all, -below   a number by its digits, from the highest on
--   first_found, past-here, past-before   lines tried in turn, from the first on and from the last back
--   small-burst, box-size   the sizes of a burst: at most 16 places
--   part-size, PartPlace, part-place   those of a smaller rectangle in it, and the place of its digit k
--
-- Assumes nothing.
use mathlib.Core.Path.{◌≡◌, refl, sym, ap, ap₂, ◌∙◌}
use mathlib.Core.Bool.{Bool, true, false, cond}
use mathlib.Core.List.{List}
use Prim.Native.Nat.{ℕ, zero, suc, ◌+◌, ◌-◌, ◌*◌, ◌/◌, ◌%◌, ◌^◌, ◌≤◌, ◌<◌}
use native.Mathlib.Nat.{mod-lt, mod-one, mod-add-mod, suc-mul, mul-le-mul, zero-lt-suc}
use native.Mathlib.Decide.{ℕ_discrete}
use native.Mathlib.Numerals.{add-one}
use native.Mathlib.Omega.{arith}
use lib.Bits.{bit_xor}
use lib.Dec.{eqb}
use lib.ListN.{length, get_or, set, length-set}
use lib.Count.{ones, ones_cat}
use lib.Pow.{pow_mono, pow_pos}
use Rattle.std.proofs.lemmas.Nat.{mod-pow-add}
use lib.Seq.{get_or-set_same, get_or-set_other}
use Rattle.gf2.specs.Xor.{◌⊕◌}
use Rattle.gf2.specs.Sum.{xor_sum}
use Rattle.gf2.proofs.Xor.{xor_is}
use Rattle.gf2.proofs.Sum.{sum-none, sum-next}
use Rattle.finite.specs.Search.{bit, count_below, number_of, first_of, past_of}
use Rattle.finite.proofs.Truth.{clash}
use Rattle.finite.proofs.Digits.{number-equal, number-below}
use Rattle.finite.proofs.Search.{First, any_here, first-is}
use Rattle.plan.specs.declared.header.Header.{Header}
use Rattle.plan.specs.Header.{Small}
use Rattle.mend.specs.Strip.{BurstSize}
use Rattle.mend.specs.Report.{Part}
use Rattle.boxcode.proofs.Report.{box-place}

-- ---- digits

pub bit-value : (x k : ℕ) → x / 2 ^ k % 2 ≡ cond (bit x k) 1 0
unfolding bit
bit-value x k = go (x / 2 ^ k % 2) (mod-lt (x / 2 ^ k) (zero-lt-suc 1))
  where
    go : (m : ℕ) → m < 2 → m ≡ cond (eqb m 1) 1 0
    go zero l = refl
    go (suc zero) l = refl
    go (suc (suc m)) l = absurd (omega arith)

pub one-true : (b : Bool) (n : ℕ) → n ≡ cond b 1 0 → n ≡ 1 → b ≡ true
one-true true n e l = refl
one-true false n e l = absurd (omega arith)

pub not-one : (b : Bool) (n : ℕ) → n ≡ cond b 1 0 → (n ≡ 1 → ⊥) → b ≡ false
not-one true n e l = absurd (l e)
not-one false n e l = refl

pub digit-most : (b : Bool) (n : ℕ) → n ≡ cond b 1 0 → n ≤ 1
digit-most true n e = omega arith
digit-most false n e = omega arith

-- the digits that are 1, as the code counts them
pub ones-digits : (x n : ℕ) → ones (x % 2 ^ n) ≡ count_below n (bit x)
unfolding count_below ones
ones-digits x zero = ap ones (mod-one x)
ones-digits x (suc n) =
    ap ones (ap (λ (m : ℕ). x % 2 ^ m) (let e : suc n ≡ 1 + n = omega arith in e) ∙ mod-pow-add x 1 n)
    ∙ ones_cat n (x / 2 ^ n % 2) (x % 2 ^ n) (mod-lt x (pow_pos n))
    ∙ (let e : ones (x / 2 ^ n % 2) + ones (x % 2 ^ n) ≡ ones (x % 2 ^ n) + ones (x / 2 ^ n % 2) = omega arith in e)
    ∙ ap₂ ◌+◌ (ones-digits x n) (one-digit (x / 2 ^ n % 2) (mod-lt (x / 2 ^ n) (zero-lt-suc 1)) ∙ bit-value x n)
  where
    one-digit : (d : ℕ) → d < 2 → ones d ≡ d
    one-digit zero l = refl
    one-digit (suc zero) l = refl
    one-digit (suc (suc d)) l = absurd (omega arith)

-- ---- multiples and remainders

pub times-next : (k m : ℕ) → (k + 1) * m ≡ k * m + m
times-next k m = ap (λ (n : ℕ). n * m) (add-one k) ∙ suc-mul k m

pub mod-start : (a b : ℕ) → a % b ≡ (a + 0) % b
mod-start a b = ap (λ (n : ℕ). n % b) (let e : a ≡ a + 0 = omega arith in e)

pub mod-next : (a d b t : ℕ) → t ≡ (a + d) % b → (t + 1) % b ≡ (a + (d + 1)) % b
mod-next a d b t e =
    ap (λ (n : ℕ). (n + 1) % b) e ∙ mod-add-mod (a + d) b 1 ∙ ap (λ (n : ℕ). n % b) (let z : a + d + 1 ≡ a + (d + 1) = omega arith in z)

-- ---- sums

pub sum-start : (f : ℕ → ℕ) → 0 ≡ xor_sum 0 f
sum-start f = sym (sum-none f)

pub sum_more : (n : ℕ) (f : ℕ → ℕ) (s v : ℕ) → s ≡ xor_sum n f → v ≡ f n → bit_xor s v ≡ xor_sum (n + 1) f
sum_more n f s v e g = xor_is s v ∙ ap₂ ◌⊕◌ e g ∙ sym (ap (λ (m : ℕ). xor_sum m f) (add-one n) ∙ sum-next n f)

-- ---- tables

pub entry-stored : (f : ℕ → ℕ) (words : List ℕ) (k x : ℕ) → k < 16 → length words ≡ 16 → ((j : ℕ) → j < k → get_or words j 0 ≡ f j) → x ≡ f k
    → (length (set words k x) ≡ 16) × ((j : ℕ) → j < k + 1 → get_or (set words k x) j 0 ≡ f j)
entry-stored f words k x l n h e = (length-set words k x ∙ n, λ j lj. at j lj (ℕ_discrete j k))
  where
    at : (j : ℕ) → j < k + 1 → Dec (j ≡ k) → get_or (set words k x) j 0 ≡ f j
    at j lj (yes q) = rw q (get_or-set_same words k x 0 (omega arith) ∙ e)
    at j lj (no q) = get_or-set_other words k j x 0 q ∙ h j (omega arith)

-- ---- numbers by digits

-- the digits of p from k on, up to m
unfoldable pub digits_from : ℕ → ℕ → (ℕ → Bool) → ℕ
digits_from m k p = number_of (m - k) (λ j. p (k + j))

pub digits-start : (m : ℕ) (p : ℕ → Bool) → 0 ≡ digits_from m m p
unfolding digits_from number_of
digits-start m p = sym (ap (λ (n : ℕ). number_of n (λ j. p (m + j))) (let e : m - m ≡ 0 = omega arith in e))

pub digits_more : (m k : ℕ) (p : ℕ → Bool) → 0 < k → k ≤ m → 2 * digits_from m k p + cond (p (k - 1)) 1 0 ≡ digits_from m (k - 1) p
unfolding digits_from
digits_more m k p pos l =
    let z : 2 * number_of (m - k) (λ j. p (k + j)) + cond (p (k - 1)) 1 0 ≡ cond (p (k - 1)) 1 0 + 2 * number_of (m - k) (λ j. p (k + j)) = omega arith in
    z ∙ ap₂ (λ (b : Bool) (x : ℕ). cond b 1 0 + 2 * x)
    (ap p (let e : k - 1 ≡ (k - 1) + 0 = omega arith in e))
    (number-equal (m - k) (λ j. p (k + j)) (λ j. p ((k - 1) + suc j)) (λ j lj. ap p (let e : k + j ≡ (k - 1) + suc j = omega arith in e)))
    ∙ (unfold number_of in sym (ap (λ (n : ℕ). number_of n (λ j. p ((k - 1) + j))) (let e : m - (k - 1) ≡ suc (m - k) = omega arith in e)))

pub digits-all : (m : ℕ) (p : ℕ → Bool) → digits_from m 0 p ≡ number_of m p
unfolding digits_from
digits-all m p =
    ap (λ (n : ℕ). number_of n (λ j. p (0 + j))) (let e : m - 0 ≡ m = omega arith in e)
    ∙ number-equal m (λ j. p (0 + j)) p (λ j l. ap p (let e : 0 + j ≡ j = omega arith in e))

pub digits-below : (m k : ℕ) (p : ℕ → Bool) (y : ℕ) → y ≡ digits_from m k p → m ≤ 16 → y < 65536
unfolding digits_from
digits-below m k p y e l =
    let b : number_of (m - k) (λ j. p (k + j)) < 2 ^ (m - k) = number-below (m - k) (λ j. p (k + j)) in
    let u : 2 ^ (m - k) ≤ 2 ^ 16 = pow_mono (let e : m - k ≤ 16 = omega arith in e) in
    omega arith

-- ---- lines

pub first_found : (n : ℕ) (p : ℕ → Bool) (k : ℕ) → k < n → ((j : ℕ) → j < k → p j ≡ false) → p k ≡ true → k ≡ first_of n p
first_found n p k l none t = go (first_of n p) (first-is n p (any_here n p k l t))
  where
    go : (f : ℕ) → First n p f → k ≡ f
    go f w = let u : f ≤ k = w.least k t in let v : f < k → ⊥ = λ lf. clash w.holds (none f lf) in omega arith

pub past-here : (k : ℕ) (p : ℕ → Bool) → 0 < k → p (k - 1) ≡ true → k ≡ past_of k p
unfolding past_of
past-here zero p l t = absurd (omega arith)
past-here (suc k) p l t = let e : suc k - 1 ≡ k = omega arith in let u : p k ≡ true = ap p (sym e) ∙ t in rw u

pub past-before : (k : ℕ) (p : ℕ → Bool) → 0 < k → p (k - 1) ≡ false → past_of k p ≡ past_of (k - 1) p
unfolding past_of
past-before zero p l t = absurd (omega arith)
past-before (suc k) p l t = let e : suc k - 1 ≡ k = omega arith in let u : p k ≡ false = ap p (sym e) ∙ t in rw (u, e)

pub small-burst : {h : Header} → Small h → BurstSize h.b1 h.b2
small-burst s = record { b1_pos = s.b1_pos; b1_most = s.b1_most; b2_pos = s.b2_pos; b2_most = s.b2_most }

pub box-size : {b1 b2 : ℕ} → BurstSize b1 b2 → b1 * b2 ≤ 16
box-size b = mul-le-mul b.b1_most b.b2_most

pub part-size : {b2 row column height width : ℕ} → Part b2 row column height width → height * width ≤ 16
part-size {b2} {row} {column} {height} {width} p =
    let m : height ≤ 4 = omega (arith, p.rows_in) in
    let n : width ≤ 4 = omega (arith, p.columns_in, p.columns_most) in
    mul-le-mul m n

pub record PartPlace (b2 row column width k : ℕ) : Type 0 where
  pub wide : 0 < width
  pub row_most : row + k / width ≤ 3
  pub start_most : (row + k / width) * b2 ≤ 12
  pub column_most : column + k % width ≤ 3

pub part-place : {b2 row column height width : ℕ} → Part b2 row column height width → (k : ℕ) → k < height * width → PartPlace b2 row column width k
part-place {b2} {row} {column} {height} {width} p k l =
    let q = box-place height width k l in
    let a : row + k / width ≤ 3 = omega (arith, p.rows_in) in
    record { wide = omega arith; row_most = a; start_most = mul-le-mul a p.columns_most; column_most = omega (arith, p.columns_in, p.columns_most) }
