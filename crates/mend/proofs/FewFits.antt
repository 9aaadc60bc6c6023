-- Fits of few entries:
--
--   none-fits, one-fits, two-fit         the pattern of no entry, of one and of two
--   pair_found, pair-missed, pairs-more  of two entries, by their last
--   nothing-fits                         where no one and no two have the sum, no choice of few has
--
-- Assumes nothing.
use mathlib.Core.Path.{◌≡◌, refl, sym, ap, ap₂, ◌∙◌}
use mathlib.Core.Bool.{Bool, true, false, ◌||◌, xor}
use mathlib.Core.List.{List}
use Prim.Native.Nat.{ℕ, suc, ◌+◌, ◌*◌, ◌%◌, ◌^◌, ◌≤◌, ◌<◌}
use native.Mathlib.Nat.{pow-succ', one-mul}
use native.Mathlib.Decide.{ℕ_discrete, dec_lt}
use native.Mathlib.Omega.{arith}
use Rattle.std.specs.Prelude.{◌≢◌, Option, Some, None}
use lib.Dec.{eqb}
use lib.ListN.{length, take}
use lib.Seq.{length-take-le, get_or-take}
use lib.Pow.{pow_mono, pow_pos, shl_exact}
use borrow.Author.Tests.{eq-eqb, ne_eqb}
use Rattle.gf2.specs.Xor.{◌⊕◌, pick}
use Rattle.gf2.specs.Sum.{chosen_sum}
use Rattle.gf2.proofs.Xor.{xor_zero_left, xor_below, xor-back, bit-xor}
use Rattle.gf2.proofs.Sum.{sum-equal}
use Rattle.finite.specs.Search.{bit, count_below}
use Rattle.finite.proofs.Count.{count-equal, count_none}
use Rattle.finite.proofs.Digits.{bit-none, bit-power}
use Rattle.sparse.proofs.Range.{InRange, Last, one, couple, one-count, one-sum, none-chosen, last-chosen, range-count, range-sum}
use Rattle.sparse.proofs.Sets.{couple-count, couple-sum, couple-range}
use Rattle.plan.specs.Table.{word_at}
use Rattle.mend.specs.Window.{FewPattern, PairFit, FewFit}

-- the sums and counts of equal choices
same_count : (n : ℕ) (m m' : ℕ → Bool) → ((k : ℕ) → m k ≡ m' k) → count_below n m ≡ count_below n m'
same_count n m m' h = count-equal n m m' (λ k l. h k)

same_sum : (n : ℕ) (f : ℕ → ℕ) (m m' : ℕ → Bool) → ((k : ℕ) → m k ≡ m' k) → chosen_sum n m f ≡ chosen_sum n m' f
same_sum n f m m' h = sum-equal n (λ k. pick (m k) (f k)) (λ k. pick (m' k) (f k)) (λ k l. ap (λ (b : Bool). pick b (f k)) (h k))

power_below : (k n : ℕ) → k < n → 2 ^ k < 2 ^ n
power_below k n l = let e = pow-succ' 2 k in let p = pow_pos k in let m : 2 ^ suc k ≤ 2 ^ n = pow_mono l in omega arith

-- a shift that loses nothing
pub shifted : (k : ℕ) → k < 64 → 1 * 2 ^ k % 18446744073709551616 ≡ 2 ^ k
shifted k l = shl_exact 1 k 64 (omega arith) (omega arith) ∙ one-mul (2 ^ k)

module _ (t : ℕ) (t1 : 1 ≤ t) (f : ℕ → ℕ) (n : ℕ) where
  pub none-fits : FewPattern t f n 0 0
  none-fits =
      let z : count_below n (bit 0) ≡ 0 = count_none n (bit 0) (λ k l. bit-none k) in
      record { below = pow_pos n; few = omega arith; sum = none-chosen n (bit 0) f z }

  pub one-fits : (k v : ℕ) → k < n → f k ≡ v → FewPattern t f n v (2 ^ k)
  unfolding one
  one-fits k v l e = record {
    below = power_below k n l;
    few = omega (arith, same_count n (bit (2 ^ k)) (one k) (bit-power k), one-count k n l);
    sum = same_sum n f (bit (2 ^ k)) (one k) (bit-power k) ∙ one-sum k n f l ∙ e;
  }

  pub nothing-fits : t ≤ 2 → (v : ℕ) → (v ≡ 0 → ⊥) → ((k : ℕ) → k < n → f k ≡ v → ⊥)
      → (t ≡ 2 → (l k : ℕ) → l < k → k < n → f l ⊕ f k ≡ v → ⊥) → (m : ℕ → Bool) → count_below n m ≤ t → chosen_sum n m f ≡ v → ⊥
  nothing-fits t2 v nz ones twos m few e = go (dec_lt (count_below n m) 1)
    where
      go : Dec (count_below n m < 1) → ⊥
      go (yes u) = nz (sym e ∙ none-chosen n m f (let z : count_below n m ≡ 0 = omega arith in z))
      go (no u) = last (dec_lt (count_below k m) 1)
        where
          L : Last n m f
          L = last-chosen n m f (omega arith)

          k : ℕ
          k = L.place

          last : Dec (count_below k m < 1) → ⊥
          last (yes w) =
              ones k L.below
              (sym (L.sum ∙ ap (λ (x : ℕ). x ⊕ f k) (none-chosen k m f (let z : count_below k m ≡ 0 = omega arith in z)) ∙ xor_zero_left (f k)) ∙ e)
          last (no w) =
              let M = last-chosen k m f (omega arith) in
              let l = M.place in
              let z : count_below l m ≡ 0 = omega (arith, M.count, L.count) in
              twos (omega (arith, M.count, L.count)) l k M.below L.below
              (sym (L.sum ∙ ap (λ (x : ℕ). x ⊕ f k) (M.sum ∙ ap (λ (x : ℕ). x ⊕ f l) (none-chosen l m f z) ∙ xor_zero_left (f l))) ∙ e)

pub two-fit : (f : ℕ → ℕ) (n l k v : ℕ) → l < k → k < n → f l ⊕ f k ≡ v → FewPattern 2 f n v (2 ^ l ⊕ 2 ^ k)
unfolding couple xor
two-fit f n l k v lk kn e = record {
  below = xor_below n (2 ^ l) (2 ^ k) (power_below l n (omega arith)) (power_below k n kn);
  few = omega (arith, same_count n (bit (2 ^ l ⊕ 2 ^ k)) (couple l k) digits, range-count 0 (suc k) n (couple l k) kn r, couple-count l k lk);
  sum = same_sum n f (bit (2 ^ l ⊕ 2 ^ k)) (couple l k) digits ∙ range-sum 0 (suc k) n (couple l k) kn r f ∙ couple-sum l k lk f ∙ e;
}
  where
    r : InRange 0 (suc k) (couple l k)
    r = couple-range l k lk 0 (omega arith)

    digits : (j : ℕ) → bit (2 ^ l ⊕ 2 ^ k) j ≡ couple l k j
    digits j = bit-xor (2 ^ l) (2 ^ k) j ∙ ap₂ xor (bit-power l j) (bit-power k j) ∙ go (ℕ_discrete l j)
      where
        go : Dec (l ≡ j) → xor (eqb l j) (eqb k j) ≡ (eqb l j || eqb k j)
        go (yes q) = rw (eq-eqb l j q, ne_eqb k j (λ z. omega arith)) refl
        go (no q) = rw (ne_eqb l j q) (light (eqb k j))
          where
            light : (b : Bool) → xor false b ≡ b
            light true = refl
            light false = refl

-- ---- one more word

module _ (words : List ℕ) (k v : ℕ) (on : k ≤ length words) where
  size : length (take k words) ≡ k
  size = length-take-le k words on

  word-at : (j : ℕ) → j < k → word_at (take k words) j ≡ word_at words j
  word-at j u = get_or-take k words j 0 u

  pub pair_found : (l : ℕ) → l < length (take k words) → word_at (take k words) l ≡ v ⊕ word_at words k → (l < k) × (word_at words l ⊕ word_at words k ≡ v)
  pair_found l u e =
      let lk : l < k = omega (arith, size) in
      (lk, ap (λ (x : ℕ). x ⊕ word_at words k) (sym (word-at l lk) ∙ e) ∙ xor-back v (word_at words k))

  pub pair-missed : ((j : ℕ) → j < length (take k words) → word_at (take k words) j ≢ v ⊕ word_at words k)
      → (j : ℕ) → j < k → word_at words j ⊕ word_at words k ≡ v → ⊥
  pair-missed none j lj q =
      none j (omega (arith, size))
      (word-at j lj ∙ sym (xor-back (word_at words j) (word_at words k)) ∙ ap (λ (x : ℕ). x ⊕ word_at words k) q)

-- no two words before the next have the sum
pub pairs-more : (f : ℕ → ℕ) (v k : ℕ) → ((l j : ℕ) → l < j → j < k → f l ⊕ f j ≡ v → ⊥) → ((j : ℕ) → j < k → f j ⊕ f k ≡ v → ⊥)
    → (l j : ℕ) → l < j → j < k + 1 → f l ⊕ f j ≡ v → ⊥
pairs-more f v k before here l j lj u = go (ℕ_discrete j k)
  where
    go : Dec (j ≡ k) → f l ⊕ f j ≡ v → ⊥
    go (yes q) e = here l (omega arith) (ap (λ (x : ℕ). f l ⊕ f x) (sym q) ∙ e)
    go (no q) e = before l j lj (omega arith) e

-- where t is 2, what is told of two words after none by itself has the sum
pub pair-few : (t : ℕ) (f : ℕ → ℕ) (n v : ℕ) → t ≡ 2 → (v ≡ 0 → ⊥) → ((k : ℕ) → k < n → f k ≡ v → ⊥) → (r : Option ℕ) → PairFit f n v r → FewFit t f n v r
pair-few t f n v e nz ones (Some x) p = rw e p
pair-few t f n v e nz ones None p = nothing-fits t (omega arith) f n (omega arith) v nz ones (λ _. p)
