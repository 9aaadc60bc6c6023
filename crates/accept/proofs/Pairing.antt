-- Laws of the search for the first failing pair, as a nested loop meets them, and what its answer says.
--
--   row_next, row-fails, row-end   at pair (i, j): it is free, it fails, there is none left in the row
--   rows_next, rows_end            at row i, and past the last
--   clear-all                      the search is clear exactly where every pair is free (all-clear)
--   row-equal, pairs-equal         equal tests have the same answer
--   row-steps                      so have tests that are equal at each pair before which all in the row are free
--   row-then, row_told             what comes after a row that is clear, and after one that is not
--   first-row                      where each pair is as the one with the first start that is as far apart, one row is enough
--
-- Assumes nothing.
use mathlib.Core.Path.{◌≡◌, refl, ◌∙◌}
use mathlib.Core.Bool.{Bool, true, false, cond}
use Prim.Native.Nat.{ℕ, zero, suc, ◌+◌, ◌-◌, ◌≤◌, ◌<◌}
use native.Mathlib.Decide.{ℕ_discrete}
use native.Mathlib.Numerals.{add-one}
use native.Mathlib.Omega.{arith}
use Rattle.std.proofs.Common.{Option, Some, None}
use Rattle.accept.specs.Pairs.{in_row, from_row, first_failing}

left : (n j : ℕ) → j < n → n - j ≡ suc (n - suc j)
left n j l = omega arith

module _ (ok : ℕ → ℕ → Bool) where
  pub row_next : (n i j : ℕ) (rest : Option (ℕ × ℕ)) → j < n → ok i j ≡ true → in_row ok i j (n - j) rest ≡ in_row ok i (j + 1) (n - (j + 1)) rest
  row_next n i j rest l e = rw (left n j l, add-one j) (unfold in_row in rw e)

  pub row-fails : (n i j : ℕ) (rest : Option (ℕ × ℕ)) → j < n → ok i j ≡ false → in_row ok i j (n - j) rest ≡ Some (i, j)
  row-fails n i j rest l e = rw (left n j l) (unfold in_row in rw e)

  pub row-end : (n i j : ℕ) (rest : Option (ℕ × ℕ)) → n ≤ j → in_row ok i j (n - j) rest ≡ rest
  row-end n i j rest l = let z : n - j ≡ 0 = omega arith in rw z (unfold in_row in refl)

  module _ (start : ℕ → ℕ) where
    pub rows_next :
        (n i : ℕ) → i < n → from_row ok start n i (n - i) ≡ in_row ok i (start i) (n - start i) (from_row ok start n (i + 1) (n - (i + 1)))
    rows_next n i l = rw (left n i l, add-one i) (unfold from_row in refl)

    pub rows_end : (n i : ℕ) → n ≤ i → from_row ok start n i (n - i) ≡ None
    rows_end n i l = let z : n - i ≡ 0 = omega arith in rw z (unfold from_row in refl)

-- equal tests in a row, and in all rows
pub row-equal :
    (ok ok' : ℕ → ℕ → Bool) (i m j : ℕ) (rest : Option (ℕ × ℕ)) → ((k : ℕ) → j ≤ k → k < j + m → ok i k ≡ ok' i k)
    → in_row ok i j m rest ≡ in_row ok' i j m rest
unfolding in_row
row-equal ok ok' i zero j rest h = refl
row-equal ok ok' i (suc m) j rest h =
    rw (h j (omega arith) (omega arith), row-equal ok ok' i m (suc j) rest (λ k l u. h k (omega arith) (omega arith)))

pub row-steps :
    (ok new : ℕ → ℕ → Bool) (i m j : ℕ) (rest : Option (ℕ × ℕ)) → (0 < m → ok i j ≡ new i j)
    → ((k : ℕ) → j ≤ k → suc k < j + m → ok i k ≡ true → ok i (suc k) ≡ new i (suc k)) → in_row ok i j m rest ≡ in_row new i j m rest
unfolding in_row
row-steps ok new i zero j rest e h = refl
row-steps ok new i (suc m) j rest e h = rw (← e (omega arith)) (go (ok i j) refl (row-steps ok new i m (suc j) rest))
  where
    go : (t : Bool) → ok i j ≡ t
        → ((0 < m → ok i (suc j) ≡ new i (suc j)) → ((k : ℕ) → suc j ≤ k → suc k < suc j + m → ok i k ≡ true → ok i (suc k) ≡ new i (suc k))
        → in_row ok i (suc j) m rest ≡ in_row new i (suc j) m rest)
        → cond t (in_row ok i (suc j) m rest) (Some (i, j)) ≡ cond t (in_row new i (suc j) m rest) (Some (i, j))
    go true q ih = ih (λ l. h j (omega arith) (omega arith) q) (λ k l u. h k (omega arith) (omega arith))
    go false q ih = refl

rows-equal :
    (ok ok' : ℕ → ℕ → Bool) (start : ℕ → ℕ) (n m i : ℕ)
    → ((k j : ℕ) → i ≤ k → k < i + m → start k ≤ j → j < n → ok k j ≡ ok' k j)
    → from_row ok start n i m ≡ from_row ok' start n i m
unfolding from_row
rows-equal ok ok' start n zero i h = refl
rows-equal ok ok' start n (suc m) i h =
    rw (rows-equal ok ok' start n m (suc i) (λ k j l u. h k j (omega arith) (omega arith)))
    (row-equal ok ok' i (n - start i) (start i) (from_row ok' start n (suc i) m)
    (λ k l u. h i k (omega arith) (omega arith) l (omega arith)))

pub pairs-equal :
    (ok ok' : ℕ → ℕ → Bool) (start : ℕ → ℕ) (n : ℕ) → ((i j : ℕ) → i < n → start i ≤ j → j < n → ok i j ≡ ok' i j)
    → first_failing ok start n ≡ first_failing ok' start n
unfolding first_failing
pairs-equal ok ok' start n h = rows-equal ok ok' start n n 0 (λ k j l u. h k j (omega arith))

-- what the answer says
row-clear :
    (ok : ℕ → ℕ → Bool) (i m j : ℕ) (rest : Option (ℕ × ℕ)) → in_row ok i j m rest ≡ None
    → (rest ≡ None) × ((k : ℕ) → j ≤ k → k < j + m → ok i k ≡ true)
unfolding in_row
row-clear ok i zero j rest e = (e, λ k l u. absurd (omega arith))
row-clear ok i (suc m) j rest e = go (ok i j) refl (row-clear ok i m (suc j) rest) e
  where
    go : (t : Bool) → ok i j ≡ t
        → (in_row ok i (suc j) m rest ≡ None → (rest ≡ None) × ((k : ℕ) → suc j ≤ k → k < suc j + m → ok i k ≡ true))
        → cond t (in_row ok i (suc j) m rest) (Some (i, j)) ≡ None
        → (rest ≡ None) × ((k : ℕ) → j ≤ k → k < j + suc m → ok i k ≡ true)
    go true q ih z = ((ih z).0, λ k l u. here k l u (ℕ_discrete k j) (ih z).1)
      where
        here : (k : ℕ) → j ≤ k → k < j + suc m → Dec (k ≡ j) → ((k : ℕ) → suc j ≤ k → k < suc j + m → ok i k ≡ true) → ok i k ≡ true
        here k l u (yes p) f = rw p q
        here k l u (no p) f = f k (omega arith) (omega arith)
    go false q ih z = let w : ◌≡◌ {A = ℕ} 0 1 = cc in absurd (omega arith)

rows-clear :
    (ok : ℕ → ℕ → Bool) (start : ℕ → ℕ) (n m i : ℕ) → from_row ok start n i m ≡ None
    → (k j : ℕ) → i ≤ k → k < i + m → start k ≤ j → j < n → ok k j ≡ true
unfolding from_row
rows-clear ok start n zero i e k j l u a b = absurd (omega arith)
rows-clear ok start n (suc m) i e k j l u a b =
    let r = row-clear ok i (n - start i) (start i) (from_row ok start n (suc i) m) e in
    go (ℕ_discrete k i) (rows-clear ok start n m (suc i) r.0) r.1
  where
    go : Dec (k ≡ i) → ((k j : ℕ) → suc i ≤ k → k < suc i + m → start k ≤ j → j < n → ok k j ≡ true)
        → ((j : ℕ) → start i ≤ j → j < start i + (n - start i) → ok i j ≡ true) → ok k j ≡ true
    go (yes p) below here = let s : start i ≤ j = rw p at a in rw p (here j s (omega arith))
    go (no p) below here = below k j (omega arith) (omega arith) a b

pub clear-all :
    (ok : ℕ → ℕ → Bool) (start : ℕ → ℕ) (n : ℕ) → first_failing ok start n ≡ None
    → (i j : ℕ) → i < n → start i ≤ j → j < n → ok i j ≡ true
unfolding first_failing
clear-all ok start n e i j l = rows-clear ok start n n 0 e i j (omega arith) (omega arith)

every : ℕ → ℕ → Bool
every i j = true

row-every : (i m j : ℕ) (rest : Option (ℕ × ℕ)) → in_row every i j m rest ≡ rest
unfolding in_row every
row-every i zero j rest = refl
row-every i (suc m) j rest = row-every i m (suc j) rest

rows-every : (start : ℕ → ℕ) (n m i : ℕ) → from_row every start n i m ≡ None
unfolding from_row
rows-every start n zero i = refl
rows-every start n (suc m) i = row-every i (n - start i) (start i) (from_row every start n (suc i) m) ∙ rows-every start n m (suc i)

pub all-clear :
    (ok : ℕ → ℕ → Bool) (start : ℕ → ℕ) (n : ℕ) → ((i j : ℕ) → i < n → start i ≤ j → j < n → ok i j ≡ true)
    → first_failing ok start n ≡ None
unfolding first_failing every
all-clear ok start n h = pairs-equal ok every start n h ∙ rows-every start n n 0

-- what comes after a row does not matter where the row tells it
row-rest : (ok : ℕ → ℕ → Bool) (i m j : ℕ) (rest : Option (ℕ × ℕ)) → (in_row ok i j m None ≡ None → rest ≡ None) → in_row ok i j m rest ≡ in_row ok i j m None
unfolding in_row
row-rest ok i zero j rest h = h refl
row-rest ok i (suc m) j rest h = go (ok i j) h (row-rest ok i m (suc j) rest)
  where
    go : (t : Bool) → (cond t (in_row ok i (suc j) m None) (Some (i, j)) ≡ None → rest ≡ None)
        → ((in_row ok i (suc j) m None ≡ None → rest ≡ None) → in_row ok i (suc j) m rest ≡ in_row ok i (suc j) m None)
        → cond t (in_row ok i (suc j) m rest) (Some (i, j)) ≡ cond t (in_row ok i (suc j) m None) (Some (i, j))
    go true h ih = ih h
    go false h ih = refl

pub row-then : (ok : ℕ → ℕ → Bool) (i m j : ℕ) (rest : Option (ℕ × ℕ)) → in_row ok i j m None ≡ None → in_row ok i j m rest ≡ rest
unfolding in_row
row-then ok i zero j rest e = refl
row-then ok i (suc m) j rest e = go (ok i j) e (row-then ok i m (suc j) rest)
  where
    go : (t : Bool) → cond t (in_row ok i (suc j) m None) (Some (i, j)) ≡ None → (in_row ok i (suc j) m None ≡ None → in_row ok i (suc j) m rest ≡ rest)
        → cond t (in_row ok i (suc j) m rest) (Some (i, j)) ≡ rest
    go true e ih = ih e
    go false e ih = let w : ◌≡◌ {A = ℕ} 0 1 = cc in absurd (omega arith)

pub row_told : (ok : ℕ → ℕ → Bool) (i m j : ℕ) (rest : Option (ℕ × ℕ)) (p : ℕ × ℕ) → in_row ok i j m None ≡ Some p → in_row ok i j m rest ≡ Some p
unfolding in_row
row_told ok i zero j rest p e = let w : ◌≡◌ {A = ℕ} 0 1 = cc in absurd (omega arith)
row_told ok i (suc m) j rest p e = go (ok i j) e (row_told ok i m (suc j) rest p)
  where
    go : (t : Bool) → cond t (in_row ok i (suc j) m None) (Some (i, j)) ≡ Some p
        → (in_row ok i (suc j) m None ≡ Some p → in_row ok i (suc j) m rest ≡ Some p)
        → cond t (in_row ok i (suc j) m rest) (Some (i, j)) ≡ Some p
    go true e ih = ih e
    go false e ih = e

pub first-row :
    (ok : ℕ → ℕ → Bool) (start : ℕ → ℕ) (n : ℕ) → 1 ≤ n
    → ((i j : ℕ) → i < n → start i ≤ j → j < n → (start 0 ≤ j - i) × (ok i j ≡ ok 0 (j - i)))
    → first_failing ok start n ≡ in_row ok 0 (start 0) (n - start 0) None
unfolding first_failing from_row every
first-row ok start zero l h = absurd (omega arith)
first-row ok start (suc m) l h =
    row-rest ok 0 (suc m - start 0) (start 0) (from_row ok start (suc m) 1 m)
    (λ e.
    let all = (row-clear ok 0 (suc m - start 0) (start 0) None e).1 in
    rows-equal ok every start (suc m) m 1
    (λ i j a b c d. let s = h i j (omega arith) c d in s.1 ∙ all (j - i) s.0 (omega arith))
    ∙ rows-every start (suc m) m 1)
