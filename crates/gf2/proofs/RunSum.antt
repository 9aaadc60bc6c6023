-- Laws of the sum over a run of places, from place a up to but not including place b, over any family and any bound n:
--
--   run-sum-empty    where no place of it is below n, it is 0: where b is at or below a, and where n is
--   run-sum-single   of one place it is the value there
--   run-sum-joined   the run a to b and then the run b to c are the run a to c
--   run-sum-next     one place more at the end
--   run-sum-before   one place more at the front
--   run-sum-past     places from n on add nothing
--   run-sum-rest     the run a to b and then what is left up to n, where b may be past n
--   run-sum-whole    the run 0 to n is the whole sum
--   run-sum-below    a bound by a power of two
--   run-sum-equal    equal values give equal sums
--   run-sum-exchange of a family of sums: the sum of the runs
--
-- Assumes nothing.
use mathlib.Core.Path.{◌≡◌, sym, ap, ◌∙◌}
use Prim.Native.Nat.{ℕ, ◌+◌, ◌-◌, ◌^◌, ◌≤◌, ◌<◌, min}
use native.Mathlib.Omega.{arith}
use Rattle.gf2.specs.Xor.{◌⊕◌}
use Rattle.gf2.specs.Sum.{xor_sum, run_sum}
use Rattle.gf2.proofs.Xor.{xor_zero_left}
use Rattle.gf2.proofs.Sum.{sum-none, sum-next, sum-equal, sum-split, sum-exchange, sum_below}

module _ (n : ℕ) (f : ℕ → ℕ) where
  pub run-sum-empty : (a b : ℕ) → min b n ≤ a → run_sum n f a b ≡ 0
  unfolding run_sum
  run-sum-empty a b l =
      let e : min b n - a ≡ 0 = omega arith in
      ap (λ (m : ℕ). xor_sum m (λ k. f (a + k))) e ∙ sum-none (λ k. f (a + k))

  pub run-sum-single : (a : ℕ) → a < n → run_sum n f a (a + 1) ≡ f a
  unfolding run_sum
  run-sum-single a l =
      let e : min (a + 1) n - a ≡ 1 = omega arith in
      let z : a + 0 ≡ a = omega arith in
      ap (λ (m : ℕ). xor_sum m (λ k. f (a + k))) e ∙ sum-next 0 (λ k. f (a + k))
      ∙ ap (λ (x : ℕ). x ⊕ f (a + 0)) (sum-none (λ k. f (a + k))) ∙ xor_zero_left (f (a + 0)) ∙ ap f z

  -- a place of the second run is below n, so the first run ends at b
  pub run-sum-joined : (a b c : ℕ) → a ≤ b → b ≤ c → run_sum n f a c ≡ run_sum n f a b ⊕ run_sum n f b c
  unfolding run_sum
  run-sum-joined a b c l m =
      let x = min b n - a in
      let y = min c n - b in
      let e : min c n - a ≡ x + y = omega arith in
      ap (λ (m : ℕ). xor_sum m (λ k. f (a + k))) e ∙ sum-split x y (λ k. f (a + k))
      ∙ ap (λ (v : ℕ). xor_sum x (λ k. f (a + k)) ⊕ v)
      (sum-equal y (λ k. f (a + (x + k))) (λ k. f (b + k)) (λ k lk. ap f (omega arith)))

  pub run-sum-next : (a b : ℕ) → a ≤ b → b < n → run_sum n f a (b + 1) ≡ run_sum n f a b ⊕ f b
  run-sum-next a b l m = run-sum-joined a b (b + 1) l (omega arith) ∙ ap (λ (v : ℕ). run_sum n f a b ⊕ v) (run-sum-single b m)

  pub run-sum-before : (a b : ℕ) → a < b → a < n → run_sum n f a b ≡ f a ⊕ run_sum n f (a + 1) b
  run-sum-before a b l m = run-sum-joined a (a + 1) b (omega arith) (omega arith) ∙ ap (λ (v : ℕ). v ⊕ run_sum n f (a + 1) b) (run-sum-single a m)

  pub run-sum-past : (a b : ℕ) → run_sum n f a b ≡ run_sum n f a (min b n)
  unfolding run_sum
  run-sum-past a b =
      let e : min b n - a ≡ min (min b n) n - a = omega arith in
      ap (λ (m : ℕ). xor_sum m (λ k. f (a + k))) e

  pub run-sum-rest : (a b : ℕ) → a ≤ b → run_sum n f a n ≡ run_sum n f a b ⊕ run_sum n f b n
  run-sum-rest a b l =
      let e : min (b + n) n ≡ n = omega arith in
      let up : (k : ℕ) → run_sum n f k (b + n) ≡ run_sum n f k n = λ k. run-sum-past k (b + n) ∙ ap (run_sum n f k) e in
      sym (up a) ∙ run-sum-joined a b (b + n) l (omega arith) ∙ ap (λ (v : ℕ). run_sum n f a b ⊕ v) (up b)

  pub run-sum-below : (w a b : ℕ) → ((k : ℕ) → k < n → f k < 2 ^ w) → run_sum n f a b < 2 ^ w
  unfolding run_sum
  run-sum-below w a b h = sum_below w (min b n - a) (λ k. f (a + k)) (λ k l. h (a + k) (omega arith))

  pub run-sum-whole : run_sum n f 0 n ≡ xor_sum n f
  unfolding run_sum
  run-sum-whole =
      let e : min n n - 0 ≡ n = omega arith in
      ap (λ (m : ℕ). xor_sum m (λ k. f (0 + k))) e ∙ sum-equal n (λ k. f (0 + k)) f (λ k l. ap f (omega arith))

pub run-sum-equal : (n : ℕ) (f g : ℕ → ℕ) (a b : ℕ) → ((k : ℕ) → k < n → f k ≡ g k) → run_sum n f a b ≡ run_sum n g a b
unfolding run_sum
run-sum-equal n f g a b h = sum-equal (min b n - a) (λ k. f (a + k)) (λ k. g (a + k)) (λ k l. h (a + k) (omega arith))

pub run-sum-exchange : (n m : ℕ) (f : ℕ → ℕ → ℕ) (a b : ℕ)
    → run_sum n (λ i. xor_sum m (λ j. f i j)) a b ≡ xor_sum m (λ j. run_sum n (λ i. f i j) a b)
unfolding run_sum
run-sum-exchange n m f a b = sum-exchange (min b n - a) m (λ k j. f (a + k) j)
