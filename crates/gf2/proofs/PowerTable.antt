-- Tables of powers, as words are laid out and as they stand.
--
--   powers-none, powers-stored   no power is laid out yet; one more is
--   table-length, table-entry    the table from 1 on has n entries, and entry k is z to the power k
--   powers-table                 words that are n, and hold n powers, are this table
--   follows p x ws               a test that the checker computes over a whole table: its first word is x, and each after it is z times the
--                                one before
--   followed                     what passes it is the table from x on
--
-- Assumes nothing.
use mathlib.Core.Path.{◌≡◌, refl, sym, ap, ap₂, subst, ◌∙◌}
use mathlib.Core.Bool.{Bool, true, ◌&&◌}
use mathlib.Core.List.{List, [], ◌∷◌}
use Prim.Native.Nat.{ℕ, zero, suc, ◌+◌, ◌<◌}
use native.Mathlib.Decide.{ℕ_discrete}
use native.Mathlib.Nat.{add-zero, zero-add, add-suc, suc-add, le_of_suc-le-suc}
use native.Mathlib.Omega.{arith}
use borrow.Author.Tests.{eqb-true}
use lib.Dec.{eqb}
use lib.ListN.{length, get_or, set, length-set}
use lib.Seq.{get_or-set_same, get_or-set_other, ext_get_or}
use Rattle.finite.proofs.Truth.{both}
use Rattle.gf2.specs.Powers.{times_z, power, powers_from, PowersIn}

pub powers-none : (p : ℕ) (ws : List ℕ) → PowersIn p 0 ws ws
powers-none p ws = record { size = refl; value = λ j l. absurd (omega arith) }

pub powers-stored : (p k : ℕ) (ws vs : List ℕ) (x : ℕ) → k < length vs → PowersIn p k ws vs → x ≡ power p k → PowersIn p (k + 1) ws (set vs k x)
powers-stored p k ws vs x l P e = record { size = length-set vs k x ∙ P.size; value = λ j lj. at j lj (ℕ_discrete j k) }
  where
    at : (j : ℕ) → j < k + 1 → Dec (j ≡ k) → get_or (set vs k x) j 0 ≡ power p j
    at j lj (yes q) = rw (q, get_or-set_same vs k x 0 l) e
    at j lj (no q) = rw (get_or-set_other vs k j x 0 q) (P.value j (omega arith))

pub table-length : (p x n : ℕ) → length (powers_from p x n) ≡ n
unfolding powers_from
table-length p x zero = refl
table-length p x (suc n) = ap suc (table-length p (times_z p x) n)

-- from power i on
entry-from : (p n i k : ℕ) → k < n → get_or (powers_from p (power p i) n) k 0 ≡ power p (i + k)
unfolding powers_from power
entry-from p zero i k l = absurd (omega arith)
entry-from p (suc n) i zero l = ap (power p) (sym (add-zero i))
entry-from p (suc n) i (suc k) l = entry-from p n (suc i) k (le_of_suc-le-suc l) ∙ ap (power p) (suc-add i k ∙ sym (add-suc i k))

pub table-entry : (p n k : ℕ) → k < n → get_or (powers_from p 1 n) k 0 ≡ power p k
unfolding power
table-entry p n k l = entry-from p n 0 k l ∙ ap (power p) (zero-add k)

pub powers-table : (p n : ℕ) (ws vs : List ℕ) → PowersIn p n ws vs → length ws ≡ n → vs ≡ powers_from p 1 n
powers-table p n ws vs P l =
    ext_get_or 0 vs (powers_from p 1 n) (P.size ∙ l ∙ sym (table-length p 1 n))
    (λ k u. let m = P.size in P.value k (omega arith) ∙ sym (table-entry p n k (omega arith)))

abbrev pub follows : ℕ → ℕ → List ℕ → Bool
follows p x [] = true
follows p x (w ∷ ws) = eqb w x && follows p (times_z p w) ws

pub followed : (p x : ℕ) (ws : List ℕ) → follows p x ws ≡ true → ws ≡ powers_from p x (length ws)
unfolding powers_from
followed p x [] t = refl
followed p x (w ∷ ws) t =
    let b = both (eqb w x) (follows p (times_z p w) ws) t in
    let e = eqb-true w x b.0 in
    ap₂ (λ (y : ℕ) (ys : List ℕ). y ∷ ys) e
    (subst (λ (y : ℕ). ws ≡ powers_from p (times_z p y) (length ws)) e (followed p (times_z p w) ws b.1))
