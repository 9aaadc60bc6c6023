-- On a table of powers the sets of few entries of two windows one entry on have z times the sums of those before: so only how far apart
-- two windows are counts, as without a limit on the cells (Shift).
--
--   up, up-sum, up-count   a choice moved on by one place
--   sparse-shift           the pair one entry on
--   few-row                so one row of pairs is enough
--
-- Assumes nothing.
use mathlib.Core.Path.{◌≡◌, refl, sym, ap, ap₂, ◌∙◌}
use mathlib.Core.Bool.{Bool, true, false, cond}
use mathlib.Core.List.{List}
use Prim.Native.Nat.{ℕ, zero, suc, ◌+◌, ◌-◌, ◌*◌, ◌%◌, ◌≤◌, ◌<◌, max}
use native.Mathlib.Nat.{add-mul, add-suc, add-zero, zero-mul}
use native.Mathlib.Omega.{arith}
use lib.Dec.{eqb}
use lib.ListN.{length}
use borrow.Author.Tests.{eqb-true, eq-eqb}
use Rattle.finite.specs.Search.{within, count_below}
use Rattle.finite.proofs.Truth.{clash, not-true, same_truth, within-from, within-to, in_within}
use Rattle.gf2.specs.Xor.{◌⊕◌, pick}
use Rattle.gf2.specs.Sum.{xor_sum, chosen_sum}
use Rattle.gf2.specs.Independence.{Within}
use Rattle.gf2.specs.Sparse.{Apart, IndependentUpTo, apart, free_up_to}
use Rattle.gf2.specs.Powers.{times_z, modulus_of, are_powers}
use Rattle.gf2.proofs.Xor.{xor_zero_right, xor-cancel, xor_self}
use Rattle.gf2.proofs.Sum.{sum-equal, sum-none, sum-next}
use Rattle.gf2.proofs.Linear.{Linear}
use Rattle.gf2.proofs.Multiplication.{times-linear, times-injective, powers-stepped}
use Rattle.gf2.proofs.Independence.{pick_true, pick-false}
use Rattle.gf2.proofs.Sparse.{apart-apart, so-apart, free-up-to, so-free}
use Rattle.plan.specs.Table.{word_at}
use Rattle.std.proofs.Common.{None}
use Rattle.accept.specs.Pairs.{in_row, first_failing}
use Rattle.plan.specs.declared.table.Table.{Table}
use Rattle.plan.specs.declared.table.Table.TheVariants.{Rows, Columns}
use Rattle.accept.specs.Windows.{reduction, sparse_free, few_free, start_of, Windows}
use Rattle.accept.proofs.Pairing.{first-row}
use Rattle.accept.proofs.Shift.{reduction-next, start-from, start-apart, window-in}

-- a choice moved on by one place, and back
unfoldable up : (ℕ → Bool) → ℕ → Bool
up m zero = false
up m (suc k) = m k

down : (ℕ → Bool) → ℕ → Bool
down m k = m (suc k)

up-down : (m : ℕ → Bool) → m 0 ≡ false → (k : ℕ) → up (down m) k ≡ m k
unfolding up down
up-down m e zero = sym e
up-down m e (suc k) = refl

-- moved on, it has as many places, as long as it ends before the last
count-first : (n : ℕ) (m : ℕ → Bool) → count_below (suc n) (up m) ≡ count_below n m
unfolding up count_below
count-first zero m = refl
count-first (suc n) m = ap (λ (x : ℕ). x + cond (m n) 1 0) (count-first n m)

up-count : (n : ℕ) (m : ℕ → Bool) → ((k : ℕ) → m k ≡ true → suc k < n) → count_below n (up m) ≡ count_below n m
unfolding count_below
up-count zero m h = refl
up-count (suc n) m h =
    count-first n m ∙ sym (ap (λ (b : Bool). count_below n m + cond b 1 0) (not-true (m n) (λ e. absurd (omega (arith, h n e)))) ∙ add-zero (count_below n m))

sum_first : (n : ℕ) (m : ℕ → Bool) (g : ℕ → ℕ) → chosen_sum (suc n) (up m) g ≡ xor_sum n (λ k. pick (m k) (g (suc k)))
unfolding up
sum_first zero m g =
    sum-next 0 (λ k. pick (up m k) (g k)) ∙ ap₂ ◌⊕◌ (sum-none (λ k. pick (up m k) (g k))) (pick-false (g 0)) ∙ xor_self 0
    ∙ sym (sum-none (λ k. pick (m k) (g (suc k))))
sum_first (suc n) m g =
    sum-next (suc n) (λ k. pick (up m k) (g k)) ∙ ap (λ (x : ℕ). x ⊕ pick (m n) (g (suc n))) (sum_first n m g)
    ∙ sym (sum-next n (λ k. pick (m k) (g (suc k))))

module _ (M : ℕ → ℕ) (linear : Linear M) where
  M-zero : M 0 ≡ 0
  M-zero = ap M (sym (xor_self 0)) ∙ linear 0 0 ∙ xor_self (M 0)

  sum-linear : (n : ℕ) (g : ℕ → ℕ) → xor_sum n (λ k. M (g k)) ≡ M (xor_sum n g)
  sum-linear zero g = sum-none (λ k. M (g k)) ∙ sym (ap M (sum-none g) ∙ M-zero)
  sum-linear (suc n) g =
      sum-next n (λ k. M (g k)) ∙ ap (λ (x : ℕ). x ⊕ M (g n)) (sum-linear n g) ∙ sym (ap M (sum-next n g) ∙ linear (xor_sum n g) (g n))

  pick-linear : (b : Bool) (x : ℕ) → pick b (M x) ≡ M (pick b x)
  pick-linear true x = pick_true (M x) ∙ ap M (sym (pick_true x))
  pick-linear false x = pick-false (M x) ∙ sym (ap M (pick-false x) ∙ M-zero)

  up-sum : (n : ℕ) (m : ℕ → Bool) (g g' : ℕ → ℕ) → ((k : ℕ) → m k ≡ true → suc k < n) → ((k : ℕ) → m k ≡ true → g' (suc k) ≡ M (g k))
      → chosen_sum n (up m) g' ≡ M (chosen_sum n m g)
  unfolding up
  up-sum zero m g g' h e = sum-none (λ k. pick (up m k) (g' k)) ∙ sym (ap M (sum-none (λ k. pick (m k) (g k))) ∙ M-zero)
  up-sum (suc n) m g g' h e =
      sum_first n m g' ∙ sum-equal n (λ k. pick (m k) (g' (suc k))) (λ k. M (pick (m k) (g k))) (λ k l. at k (m k) refl)
      ∙ sum-linear n (λ k. pick (m k) (g k))
      ∙ ap M (sym (sum-next n (λ k. pick (m k) (g k))
      ∙ ap (λ (x : ℕ). chosen_sum n m g ⊕ x) (ap (λ (b : Bool). pick b (g n)) (not-true (m n) (λ t. absurd (omega (arith, h n t)))) ∙ pick-false (g n))
      ∙ xor_zero_right (chosen_sum n m g)))
    where
      at : (k : ℕ) (b : Bool) → m k ≡ b → pick (m k) (g' (suc k)) ≡ M (pick (m k) (g k))
      at k true q = ap (pick (m k)) (e k q) ∙ pick-linear (m k) (g k)
      at k false q =
          ap (λ (b : Bool). pick b (g' (suc k))) q ∙ pick-false (g' (suc k)) ∙ sym (ap M (ap (λ (b : Bool). pick b (g k)) q ∙ pick-false (g k)) ∙ M-zero)

-- an injective linear map keeps different numbers different
same_of : (M : ℕ → ℕ) → Linear M → ((x : ℕ) → eqb (M x) 0 ≡ eqb x 0) → (x y : ℕ) → M x ≡ M y → x ≡ y
same_of M linear one x y e =
    xor-cancel x y (eqb-true (x ⊕ y) 0 (sym (one (x ⊕ y)) ∙ eq-eqb (M (x ⊕ y)) 0 (linear x y ∙ ap (λ (z : ℕ). z ⊕ M y) e ∙ xor_self (M y))))

-- windows one place on
module _ (a size : ℕ) where
  window-up : (m : ℕ → Bool) → Within m (within a size) → Within (up m) (within (suc a) size)
  unfolding up
  window-up m w zero e = clash e refl
  window-up m w (suc k) e =
      in_within (suc a) size (suc k) (omega (arith, within-from a size k (w k e))) (omega (arith, within-to a size k (w k e)))

  window-down : (m : ℕ → Bool) → Within m (within (suc a) size) → Within (down m) (within a size)
  unfolding down
  window-down m w k e =
      in_within a size k (omega (arith, within-from (suc a) size (suc k) (w (suc k) e))) (omega (arith, within-to (suc a) size (suc k) (w (suc k) e)))

  first_off : (m : ℕ → Bool) → Within m (within (suc a) size) → m 0 ≡ false
  first_off m w = not-true (m 0) (λ e. absurd (omega (arith, within-from (suc a) size 0 (w 0 e))))

module _ (p : ℕ) (odd : p % 2 ≡ 1) (most n : ℕ) where
  abbrev M : ℕ → ℕ
  M = times_z p

  -- a window whose next has its last place below n
  ends : (a size : ℕ) (m : ℕ → Bool) → suc a + size ≤ n → Within m (within a size) → (k : ℕ) → m k ≡ true → suc k < n
  ends a size m u w k e = omega (arith, within-to a size k (w k e))

  module _ (a b size size' : ℕ) (g g' : ℕ → ℕ) (u : suc a + size ≤ n) (u' : suc b + size' ≤ n)
      (step : (k : ℕ) → within a size k ≡ true → g' (suc k) ≡ M (g k)) (step' : (k : ℕ) → within b size' k ≡ true → g' (suc k) ≡ M (g k)) where
    private-sum : (m : ℕ → Bool) → Within m (within a size) → chosen_sum n (up m) g' ≡ M (chosen_sum n m g)
    private-sum m w = up-sum M (times-linear p) n m g g' (ends a size m u w) (λ k e. step k (w k e))

    private-sum' : (m : ℕ → Bool) → Within m (within b size') → chosen_sum n (up m) g' ≡ M (chosen_sum n m g)
    private-sum' m w = up-sum M (times-linear p) n m g g' (ends b size' m u' w) (λ k e. step' k (w k e))

    apart-back : Apart most n (within (suc a) size) (within (suc b) size') g' → Apart most n (within a size) (within b size') g
    unfolding up
    apart-back A m m' w w' l l' s k lk = go (A (up m) (up m') (window-up a size m w) (window-up b size' m' w')
        (omega (arith, up-count n m (ends a size m u w))) (omega (arith, up-count n m' (ends b size' m' u' w')))
        (private-sum m w ∙ ap M s ∙ sym (private-sum' m' w')) (suc k))
      where
        go : (suc k < n → up m (suc k) ≡ up m' (suc k)) → m k ≡ m' k
        go h = same_truth (m k) (m' k) (λ e. sym (h (ends a size m u w k e)) ∙ e) (λ e. h (ends b size' m' u' w' k e) ∙ e)

    apart-on : Apart most n (within a size) (within b size') g → Apart most n (within (suc a) size) (within (suc b) size') g'
    unfolding up down
    apart-on A m m' w w' l l' s zero lk = first_off a size m w ∙ sym (first_off b size' m' w')
    apart-on A m m' w w' l l' s (suc k) lk =
        let d = window-down a size m w in
        let d' = window-down b size' m' w' in
        let e : up (down m) ≡ m = λ x k. up-down m (first_off a size m w) k x in
        let e' : up (down m') ≡ m' = λ x k. up-down m' (first_off b size' m' w') k x in
        let c : count_below n m ≡ count_below n (down m) = ap (count_below n) (sym e) ∙ up-count n (down m) (ends a size (down m) u d) in
        let c' : count_below n m' ≡ count_below n (down m') = ap (count_below n) (sym e') ∙ up-count n (down m') (ends b size' (down m') u' d') in
        A (down m) (down m') d d' (omega arith) (omega arith)
        (same_of M (times-linear p) (times-injective p odd) (chosen_sum n (down m) g) (chosen_sum n (down m') g)
        (sym (private-sum (down m) d) ∙ ap (λ (q : ℕ → Bool). chosen_sum n q g') e ∙ s ∙ ap (λ (q : ℕ → Bool). chosen_sum n q g') (sym e')
        ∙ private-sum' (down m') d'))
        k (omega arith)

    none-back : IndependentUpTo most n (within (suc a) size) g' → IndependentUpTo most n (within a size) g
    unfolding up
    none-back I m w l s k lk = not-true (m k) (λ e. clash e
        (I (up m) (window-up a size m w) (omega (arith, up-count n m (ends a size m u w)))
        (private-sum m w ∙ ap M s ∙ M-zero M (times-linear p)) (suc k) (ends a size m u w k e)))

    none-on : IndependentUpTo most n (within a size) g → IndependentUpTo most n (within (suc a) size) g'
    unfolding up down
    none-on I m w l s zero lk = first_off a size m w
    none-on I m w l s (suc k) lk =
        let d = window-down a size m w in
        let e : up (down m) ≡ m = λ x k. up-down m (first_off a size m w) k x in
        let c : count_below n m ≡ count_below n (down m) = ap (count_below n) (sym e) ∙ up-count n (down m) (ends a size (down m) u d) in
        I (down m) d (omega arith)
        (same_of M (times-linear p) (times-injective p odd) (chosen_sum n (down m) g) 0
        (sym (private-sum (down m) d) ∙ ap (λ (q : ℕ → Bool). chosen_sum n q g') e ∙ s ∙ sym (M-zero M (times-linear p))))
        k (omega arith)

-- the pair one entry on, of a table each of whose entries is z times the one before
module _ (p : ℕ) (odd : p % 2 ≡ 1) (f : ℕ → ℕ) (n : ℕ) (steps : (k : ℕ) → suc k < n → f (suc k) ≡ times_z p (f k)) (most : ℕ) where
  sparse-next : (t : Table) (size a b : ℕ) → 1 ≤ size → a ≤ b → suc b + size ≤ n
      → sparse_free t f most n size (suc a) (suc b) ≡ sparse_free t f most n size a b
  unfolding sparse_free
  sparse-next Rows size a b s l u =
      let on : (x : ℕ) → x ≤ b → (k : ℕ) → within x size k ≡ true → f (suc k) ≡ times_z p (f k) = λ x lx k e. steps k (omega (arith, within-to x size k e)) in
      same_truth (apart most n (within (suc a) size) (within (suc b) size) f) (apart most n (within a size) (within b size) f)
      (λ e. so-apart most n (within a size) (within b size) f
      (apart-back p odd most n a b size size f f (omega arith) u (on a l) (on b (omega arith))
      (apart-apart most n (within (suc a) size) (within (suc b) size) f e)))
      (λ e. so-apart most n (within (suc a) size) (within (suc b) size) f
      (apart-on p odd most n a b size size f f (omega arith) u (on a l) (on b (omega arith)) (apart-apart most n (within a size) (within b size) f e)))
  sparse-next Columns size a b s l u =
      let m = max (a + size) b in
      let w = b + size - m in
      let e : max (suc a + size) (suc b) ≡ suc m = omega arith in
      let d : suc b + size - suc m ≡ w = omega arith in
      let g = reduction f a size in
      let g' = reduction f (suc a) size in
      let on : (k : ℕ) → within m w k ≡ true → g' (suc k) ≡ times_z p (g k) =
      λ k e. reduction-next p odd f n steps size a k s (omega (arith, within-from m w k e)) (omega (arith, within-to m w k e, within-from m w k e)) in
      let up : suc m + w ≤ n = omega arith in
      rw (e, d)
      (same_truth (free_up_to most n (within (suc m) w) g') (free_up_to most n (within m w) g)
      (λ e. so-free most n (within m w) g (none-back p odd most n m m w w g g' up up on on (free-up-to most n (within (suc m) w) g' e)))
      (λ e. so-free most n (within (suc m) w) g' (none-on p odd most n m m w w g g' up up on on (free-up-to most n (within m w) g e))))

  sparse-far : (t : Table) (size a b d : ℕ) → 1 ≤ size → a ≤ b → b + d + size ≤ n
      → sparse_free t f most n size (a + d) (b + d) ≡ sparse_free t f most n size a b
  sparse-far t size a b zero s l u = rw (add-zero a, add-zero b)
  sparse-far t size a b (suc d) s l u =
      rw (add-suc a d, add-suc b d)
      (sparse-next t size (a + d) (b + d) s (omega arith) (omega arith) ∙ sparse-far t size a b d s l (omega arith))

  pub sparse-shift : (t : Table) (step size i j : ℕ) → 1 ≤ size → i ≤ j → j * step + size ≤ n
      → sparse_free t f most n size (i * step) (j * step) ≡ sparse_free t f most n size (0 * step) ((j - i) * step)
  sparse-shift t step size i j s l u =
      let e : j - i + i ≡ j = omega arith in
      let g : (j - i) * step + i * step ≡ j * step = sym (add-mul (j - i) i step) ∙ ap (λ (x : ℕ). x * step) e in
      let z : 0 * step + i * step ≡ i * step = omega (arith, zero-mul step) in
      rw (← z, ← g) (sparse-far t size (0 * step) ((j - i) * step) (i * step) s (omega (arith, zero-mul step)) (omega arith))

pub few-row : (t : Table) (words : List ℕ) (step size count most : ℕ) → Windows (length words) step size count → are_powers words ≡ true
    → first_failing (few_free t (word_at words) most (length words) step size) (start_of t) count
    ≡ in_row (few_free t (word_at words) most (length words) step size) 0 (start_of t 0) (count - start_of t 0) None
few-row t words step size count most w e =
    first-row (few_free t (word_at words) most (length words) step size) (start_of t) count w.some
    (λ i j _ l u. (start-apart t i j l, shifted i j (let b = start-from t i in omega arith) u))
  where
    shifted : (i j : ℕ) → i ≤ j → j < count
        → few_free t (word_at words) most (length words) step size i j ≡ few_free t (word_at words) most (length words) step size 0 (j - i)
    shifted i j l u =
        let s = powers-stepped words e in
        sparse-shift (modulus_of words) s.odd (word_at words) (length words) s.step most t step size i j w.size_pos l (window-in w j u)
