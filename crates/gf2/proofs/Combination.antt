-- Laws of digits and of `combination`.
--
--   bit_past, bit-leading  digits past the end, and the leading one
--   bits-zero              a number with no digit set is 0
--   combination-zero, combination-xor      combination 0, and the exclusive-or of two
--   combination-kept       with one vector more, a combination of those before it is the same
--   combination-last       the combination of the last vector alone
--   combination-only       of free vectors, a number is made by one combination only
--   combination-listed     a combination of a listed family, as a choice
--
-- Assumes nothing.
use mathlib.Core.Path.{◌≡◌, refl, sym, ap, ap₂, ◌∙◌}
use mathlib.Core.Bool.{Bool, true, false, xor}
use mathlib.Core.List.{List, [], ◌∷◌, ◌++◌}
use Prim.Native.Nat.{ℕ, suc, ◌^◌, ◌≤◌, ◌<◌}
use native.Mathlib.Nat.{div-eq_of_lt, div-eq_of_lt-le, eq-zero-or-pos}
use native.Mathlib.Omega.{arith}
use mathlib.Core.Logic.{⊎_elim}
use borrow.Author.Tests.{ne_eqb}
use lib.Count.{leading_top}
use lib.ListN.{length, get_or, length-append, get_or-append}
use lib.Pow.{pow_mono, pow_pos}
use lib.Seq.{get_or-append_seam}
use Rattle.gf2.specs.Xor.{◌⊕◌, pick}
use Rattle.gf2.specs.Sum.{xor_sum, chosen_sum}
use Rattle.gf2.specs.Vectors.{free_from, listed}
use Rattle.gf2.specs.Solver.{combination}
use Rattle.finite.specs.Search.{bit}
use Rattle.finite.proofs.Digits.{bit-power}
use Rattle.finite.proofs.Truth.{never}
use Rattle.gf2.proofs.Xor.{xor-cancel, xor_below, xor_self, xor_zero_right, bit-xor}
use Rattle.gf2.proofs.Sum.{sum-equal, sum-zero, sum-next, sum-single, chosen-differ}
use Rattle.gf2.proofs.Independence.{free-independent, pick_true, pick-false}
use Rattle.gf2.proofs.Vectors.{free-listed, listed-length}
use Rattle.gf2.proofs.Triangle.{pow-double, listed-list}
use Rattle.gf2.proofs.Span.{listed_at}

pub bit_past : (n j y : ℕ) → y < 2 ^ n → n ≤ j → bit y j ≡ false
unfolding bit
bit_past n j y l u = let s : y < 2 ^ j = omega (arith, pow_mono u) in rw (div-eq_of_lt s)

-- the leading digit is set
pub bit-leading : (j y : ℕ) → 2 ^ j ≤ y → y < 2 ^ suc j → bit y j ≡ true
unfolding bit
bit-leading j y l u = let d = pow-double j in rw (div-eq_of_lt-le {k = 1} (2 ^ j) {m = y} (omega arith) (omega arith))

pub bits-zero : (n y : ℕ) → y < 2 ^ n → ((k : ℕ) → k < n → bit y k ≡ false) → y ≡ 0
bits-zero n y l h =
    ⊎_elim (λ e. e)
    (λ p. let t = leading_top n y p l in absurd (never (bit y t.0) (bit-leading t.0 y t.2 t.3) (h t.0 (omega (arith, t.1)))))
    (eq-zero-or-pos y)

pub combination-xor : (vs : List ℕ) (y z : ℕ) → combination vs (y ⊕ z) ≡ combination vs y ⊕ combination vs z
unfolding combination
combination-xor vs y z =
    sum-equal (length vs) (λ i. pick (bit (y ⊕ z) i) (get_or vs i 0)) (λ i. pick (xor (bit y i) (bit z i)) (get_or vs i 0))
    (λ i l. ap (λ (t : Bool). pick t (get_or vs i 0)) (bit-xor y z i))
    ∙ chosen-differ (length vs) (bit y) (bit z) (λ i. get_or vs i 0)

pub combination-zero : (vs : List ℕ) → combination vs 0 ≡ 0
unfolding combination
combination-zero vs =
    sum-zero (length vs) (λ i. pick (bit 0 i) (get_or vs i 0))
    (λ i l. ap (λ (t : Bool). pick t (get_or vs i 0)) (bit_past 0 i 0 (omega arith) (omega arith)) ∙ pick-false (get_or vs i 0))

pub next-length : (vs : List ℕ) (m : ℕ) → length (vs ++ (m ∷ [])) ≡ suc (length vs)
next-length vs m = length-append vs (m ∷ []) ∙ omega arith

pub combination-kept : (vs : List ℕ) (m y : ℕ) → y < 2 ^ length vs → combination (vs ++ (m ∷ [])) y ≡ combination vs y
unfolding combination
combination-kept vs m y l =
    rw (next-length vs m)
    (sum-next (length vs) (λ i. pick (bit y i) (get_or (vs ++ (m ∷ [])) i 0))
    ∙ ap₂ ◌⊕◌
    (sum-equal (length vs) (λ i. pick (bit y i) (get_or (vs ++ (m ∷ [])) i 0)) (λ i. pick (bit y i) (get_or vs i 0))
    (λ i u. ap (λ (x : ℕ). pick (bit y i) x) (get_or-append vs (m ∷ []) 0 i u)))
    (ap (λ (t : Bool). pick t (get_or (vs ++ (m ∷ [])) (length vs) 0)) (bit_past (length vs) (length vs) y l (omega arith))
    ∙ pick-false (get_or (vs ++ (m ∷ [])) (length vs) 0))
    ∙ xor_zero_right (xor_sum (length vs) (λ i. pick (bit y i) (get_or vs i 0))))

pub combination-last : (vs : List ℕ) (m : ℕ) → combination (vs ++ (m ∷ [])) (2 ^ length vs) ≡ m
unfolding combination
combination-last vs m =
    sum-single (length (vs ++ (m ∷ []))) (length vs) (λ i. pick (bit (2 ^ length vs) i) (get_or (vs ++ (m ∷ [])) i 0))
    (omega (arith, next-length vs m))
    (λ k l d. ap (λ (t : Bool). pick t (get_or (vs ++ (m ∷ [])) k 0)) (bit-power (length vs) k ∙ ne_eqb (length vs) k (λ e. d (sym e)))
    ∙ pick-false (get_or (vs ++ (m ∷ [])) k 0))
    ∙ ap₂ pick (bit-leading (length vs) (2 ^ length vs) (omega arith) (omega (arith, pow-double (length vs), pow_pos (length vs)))) (get_or-append_seam vs m [] 0)
    ∙ pick_true m

pub combination-only :
    (vs : List ℕ) (y z : ℕ) → free_from [] vs ≡ true → y < 2 ^ length vs → z < 2 ^ length vs → combination vs y ≡ combination vs z → y ≡ z
combination-only vs y z f ly lz e =
    xor-cancel y z
    (bits-zero (length vs) (y ⊕ z) (xor_below (length vs) y z ly lz)
    (free-independent (length vs) (λ k. true) (λ k. get_or vs k 0)
    (free-listed (length vs) (λ k. true) (λ k. get_or vs k 0) ∙ ap (free_from []) (listed-list (length vs) vs refl) ∙ f)
    (bit (y ⊕ z)) (λ k p. refl)
    (unfold combination in combination-xor vs y z ∙ ap (λ (x : ℕ). combination vs y ⊕ x) (sym e) ∙ xor_self (combination vs y))))

pub combination-listed : (n : ℕ) (f : ℕ → ℕ) (y : ℕ) → combination (listed n (λ k. true) f) y ≡ chosen_sum n (bit y) f
unfolding combination
combination-listed n f y =
    rw (listed-length n f)
    (sum-equal n (λ i. pick (bit y i) (get_or (listed n (λ k. true) f) i 0)) (λ i. pick (bit y i) (f i))
    (λ i l. ap (λ (x : ℕ). pick (bit y i) x) (listed_at n f i l)))
