-- On a table of powers a pair of windows fails exactly if the pair as far apart that begins at the first does: the numbers of the pair one
-- entry on are z times those of the pair, and multiplication by z keeps independence.
--
--   list-next        the numbers of the pair one entry on
--   windows-shift    so only how far apart two windows are counts
--   start-from, start-to, start-apart, window-in, windows-inside   where windows and pairs begin
--   powers-row       so one row of pairs is enough
--
-- Assumes nothing.
use mathlib.Core.Path.{◌≡◌, sym, ap, ap₂, ◌∙◌}
use mathlib.Core.Bool.{true}
use mathlib.Core.List.{List, [], ◌++◌, map, map-append}
use Prim.Native.Nat.{ℕ, zero, suc, ◌+◌, ◌-◌, ◌*◌, ◌%◌, ◌≤◌, ◌<◌, max}
use native.Mathlib.Nat.{mod-lt, mul-le-mul_right, add-mul, add-suc, add-zero, zero-mul, suc-mul}
use native.Mathlib.Omega.{arith}
use lib.ListN.{length}
use Rattle.gf2.specs.Xor.{◌⊕◌}
use Rattle.gf2.specs.Vectors.{free_from, run}
use Rattle.gf2.specs.Powers.{times_z, modulus_of, are_powers}
use Rattle.gf2.proofs.Linear.{free-injective}
use Rattle.gf2.proofs.Multiplication.{times-linear, times-injective, powers-stepped}
use Rattle.gf2.proofs.Runs.{run-next}
use Rattle.plan.specs.declared.table.Table.{Table}
use Rattle.plan.specs.declared.table.Table.TheVariants.{Rows, Columns}
use Rattle.std.proofs.Common.{None}
use Rattle.accept.specs.Pairs.{in_row, first_failing}
use Rattle.plan.specs.Table.{word_at}
use Rattle.accept.specs.Windows.{reduction, rest_run, pair_list, pair_free, windows_free, start_of, WindowIn, Windows}
use Rattle.accept.proofs.Pairing.{first-row}

module _ (p : ℕ) (odd : p % 2 ≡ 1) (f : ℕ → ℕ) (n : ℕ) (steps : (k : ℕ) → suc k < n → f (suc k) ≡ times_z p (f k)) where
  -- z times the value before, at a place that is one more
  at_next : (x y : ℕ) → y ≡ suc x → y < n → f y ≡ times_z p (f x)
  at_next x y e l = rw e (steps x (omega arith))

  rest-next : (g g' : ℕ → ℕ) (size a b : ℕ) → a ≤ b → ((k : ℕ) → max (a + size) b ≤ k → k < b + size → g' (suc k) ≡ times_z p (g k))
      → rest_run g' size (suc a) (suc b) ≡ map (times_z p) (rest_run g size a b)
  unfolding rest_run
  rest-next g g' size a b l h =
      let m = max (a + size) b in
      let e : max (suc a + size) (suc b) ≡ suc m = omega arith in
      let d : suc b + size - suc m ≡ b + size - m = omega arith in
      rw (e, d)
      (run-next (times_z p) g g' m (b + size - m)
      (λ k u. ap g' (let z : suc m + k ≡ suc (m + k) = omega arith in z) ∙ h (m + k) (omega arith) (omega arith)))

  -- the entry of the first window that has the same remainder is one on as well
  pub reduction-next : (size a k : ℕ) → 1 ≤ size → a + size ≤ k → suc k < n → reduction f (suc a) size (suc k) ≡ times_z p (reduction f a size k)
  unfolding reduction
  reduction-next size a k s l u =
      let r = mod-lt (k - a) {m = size} (omega arith) in
      let e : suc k - suc a ≡ k - a = omega arith in
      rw e
      (ap₂ ◌⊕◌ (steps k u) (at_next (a + (k - a) % size) (suc a + (k - a) % size) (omega arith) (omega arith))
      ∙ sym (times-linear p (f k) (f (a + (k - a) % size))))

  pub list-next : (t : Table) (size a b : ℕ) → 1 ≤ size → a ≤ b → suc b + size ≤ n
      → pair_list t f size (suc a) (suc b) ≡ map (times_z p) (pair_list t f size a b)
  unfolding pair_list
  list-next Rows size a b s l u =
      ap₂ ◌++◌ (run-next (times_z p) f f a size (λ k v. at_next (a + k) (suc a + k) (omega arith) (omega arith)))
      (rest-next f f size a b l (λ k _ v. steps k (omega arith)))
      ∙ sym (map-append (times_z p) (run f a size) (rest_run f size a b))
  list-next Columns size a b s l u =
      rest-next (reduction f a size) (reduction f (suc a) size) size a b l (λ k v w. reduction-next size a k s (omega arith) (omega arith))

  free-next : (t : Table) (size a b : ℕ) → 1 ≤ size → a ≤ b → suc b + size ≤ n → pair_free t f size (suc a) (suc b) ≡ pair_free t f size a b
  unfolding pair_free
  free-next t size a b s l u =
      ap (free_from []) (list-next t size a b s l u)
      ∙ sym (free-injective (times_z p) (times-linear p) (times-injective p odd) (pair_list t f size a b))

  free-shift : (t : Table) (size a b d : ℕ) → 1 ≤ size → a ≤ b → b + d + size ≤ n → pair_free t f size (a + d) (b + d) ≡ pair_free t f size a b
  free-shift t size a b zero s l u = rw (add-zero a, add-zero b)
  free-shift t size a b (suc d) s l u =
      rw (add-suc a d, add-suc b d)
      (free-next t size (a + d) (b + d) s (omega arith) (omega arith) ∙ free-shift t size a b d s l (omega arith))

  pub windows-shift : (t : Table) (step size i j : ℕ) → 1 ≤ size → i ≤ j → j * step + size ≤ n
      → windows_free t f step size i j ≡ windows_free t f step size 0 (j - i)
  windows-shift t step size i j s l u =
      let e : j - i + i ≡ j = omega arith in
      let g : (j - i) * step + i * step ≡ j * step = sym (add-mul (j - i) i step) ∙ ap (λ (x : ℕ). x * step) e in
      let z : 0 * step + i * step ≡ i * step = omega (arith, zero-mul step) in
      rw (← z, ← g) (free-shift t size (0 * step) ((j - i) * step) (i * step) s (omega (arith, zero-mul step)) (omega arith))

-- a window is paired with itself or the next at the earliest
pub start-from : (t : Table) (i : ℕ) → i ≤ start_of t i
start-from Rows i = omega arith
start-from Columns i = omega arith

pub start-to : (t : Table) (i : ℕ) → start_of t i ≤ i + 1
start-to Rows i = omega arith
start-to Columns i = omega arith

pub start-apart : (t : Table) (i j : ℕ) → start_of t i ≤ j → start_of t 0 ≤ j - i
start-apart Rows i j l = omega arith
start-apart Columns i j l = omega arith

-- window j lies in the table
pub window-in : {n step size count : ℕ} → Windows n step size count → (j : ℕ) → j < count → j * step + size ≤ n
window-in {n} {step} {size} {count} w j l = omega (arith, w.inside, mul-le-mul_right step l, suc-mul j step)

pub windows-inside : {n step size count : ℕ} → Windows n step size count → (j : ℕ) → j < count → WindowIn n (j * step) size
windows-inside w j l = record { size_pos = w.size_pos; size_most = w.size_most; inside = window-in w j l; few = w.few }

pub powers-row : (t : Table) (words : List ℕ) (step size count : ℕ) → Windows (length words) step size count → are_powers words ≡ true
    → first_failing (windows_free t (word_at words) step size) (start_of t) count
    ≡ in_row (windows_free t (word_at words) step size) 0 (start_of t 0) (count - start_of t 0) None
powers-row t words step size count w e =
    first-row (windows_free t (word_at words) step size) (start_of t) count w.some
    (λ i j _ l u. (start-apart t i j l, shifted i j (let b = start-from t i in omega arith) u))
  where
    shifted : (i j : ℕ) → i ≤ j → j < count → windows_free t (word_at words) step size i j ≡ windows_free t (word_at words) step size 0 (j - i)
    shifted i j l u =
        let s = powers-stepped words e in
        windows-shift (modulus_of words) s.odd (word_at words) (length words) s.step t step size i j w.size_pos l (window-in w j u)
