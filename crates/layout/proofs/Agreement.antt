-- Where two strings of bytes of one length differ:
--
--   same_at, other_at, at_same, at_other   what the test of one byte says
--   seen_none, seen_next    a block by the exclusive-or of its bytes, all put together: nothing is seen exactly if no byte differs
--   block-next              a block in which none differs takes the agreement further
--   different-le            the first byte that differs, or the length, is at most the length
--   different-found         where it is below the length, that byte differs
--   different-before        and no byte before it does
--   agree-ends, agree-stops       no byte differs; some byte does: what a loop that compares them in turn has
--   agree_at                      where none differs, each is the same
--   agree-equal, equal-agree      no byte differs exactly if the two are equal
--
-- Assumes nothing.
use mathlib.Core.Path.{◌≡◌, refl, sym, ap, ◌∙◌}
use mathlib.Core.Bool.{Bool, true, false, not, ◌&&◌, ◌||◌}
use mathlib.Core.List.{List}
use Prim.Native.Nat.{ℕ, ◌+◌, ◌-◌, ◌≤◌, ◌<◌}
use native.Mathlib.Numerals.{add-one}
use native.Mathlib.Decide.{dec_lt}
use native.Mathlib.Omega.{arith}
use borrow.Author.Tests.{eqb-true, eq-eqb, ne_eqb, not-true, not-false}
use lib.Bits.{bit_or, bit_xor, or_add_and, and_le_l, and_le_r, xor_self}
use lib.Dec.{eqb}
use lib.ListN.{length, get_or}
use lib.Seq.{ext_get_or}
use Rattle.finite.specs.Search.{any_below}
use Rattle.finite.proofs.Search.{least-le, least-found, least_first, least-most, least-none, any_none}
use Rattle.finite.proofs.Truth.{clash, same_truth, both_equal, equal-both}
use Rattle.gf2.specs.Xor.{◌⊕◌}
use Rattle.gf2.proofs.Xor.{xor-cancel}
use Rattle.layout.specs.Differ.{differ_at, first_different, agree, AgreeUpTo}

-- nothing is seen in x and in the exclusive-or of a and b exactly if x is 0 and a is b
or-none : (x a b : ℕ) → eqb (bit_or x (bit_xor a b)) 0 ≡ (eqb x 0 && eqb a b)
unfolding ◌⊕◌
or-none x a b =
    same_truth (eqb (bit_or x (bit_xor a b)) 0) (eqb x 0 && eqb a b)
    (λ h.
    let e : bit_or x (bit_xor a b) ≡ 0 = eqb-true (bit_or x (bit_xor a b)) 0 h in
    let s = or_add_and x (bit_xor a b) in
    let l = and_le_l x (bit_xor a b) in
    let r = and_le_r x (bit_xor a b) in
    let q : bit_xor a b ≡ 0 = omega arith in
    equal-both x a 0 b (omega arith) (xor-cancel a b q))
    (λ h.
    let w = both_equal x a 0 b h in
    rw (w.0, w.1, xor_self b))

module _ (s t : List ℕ) where
  pub same_at : (k : ℕ) → get_or s k 0 ≡ get_or t k 0 → differ_at s t k ≡ false
  unfolding differ_at
  same_at k e = ap not (eq-eqb (get_or s k 0) (get_or t k 0) e)

  pub other_at : (k : ℕ) → (get_or s k 0 ≡ get_or t k 0 → ⊥) → differ_at s t k ≡ true
  unfolding differ_at
  other_at k h = ap not (ne_eqb (get_or s k 0) (get_or t k 0) h)

  pub at_same : (k : ℕ) → differ_at s t k ≡ false → get_or s k 0 ≡ get_or t k 0
  unfolding differ_at
  at_same k e = eqb-true (get_or s k 0) (get_or t k 0) (not-false (eqb (get_or s k 0) (get_or t k 0)) e)

  pub at_other : (k : ℕ) → differ_at s t k ≡ true → get_or s k 0 ≡ get_or t k 0 → ⊥
  at_other k e q = clash e (same_at k q)

  -- ---- in blocks

  pub seen_none : (at : ℕ) → eqb 0 0 ≡ not (any_below 0 (λ j. differ_at s t (at + j)))
  unfolding any_below
  seen_none at = refl

  pub seen_next : (at j seen : ℕ) → eqb seen 0 ≡ not (any_below j (λ m. differ_at s t (at + m)))
      → eqb (bit_or seen (bit_xor (get_or s (at + j) 0) (get_or t (at + j) 0))) 0 ≡ not (any_below (j + 1) (λ m. differ_at s t (at + m)))
  unfolding any_below differ_at
  seen_next at j seen e =
      or-none seen (get_or s (at + j) 0) (get_or t (at + j) 0)
      ∙ ap (λ (b : Bool). b && eqb (get_or s (at + j) 0) (get_or t (at + j) 0)) e
      ∙ both (any_below j (λ m. differ_at s t (at + m))) (eqb (get_or s (at + j) 0) (get_or t (at + j) 0))
      ∙ ap (λ (n : ℕ). not (any_below n (λ m. differ_at s t (at + m)))) (sym (add-one j))
    where
      both : (p q : Bool) → (not p && q) ≡ not (p || not q)
      both true q = refl
      both false true = refl
      both false false = refl

  pub block-next : (k : ℕ) → AgreeUpTo s t k → k + 64 ≤ length s → true ≡ not (any_below 64 (λ j. differ_at s t (k + j))) → AgreeUpTo s t (k + 64)
  block-next k A l e = record { most = l; same = λ j lj. go j lj (dec_lt j k) }
    where
      go : (j : ℕ) → j < k + 64 → Dec (j < k) → differ_at s t j ≡ false
      go j lj (yes h) = A.same j h
      go j lj (no h) =
          let q : k + (j - k) ≡ j = omega arith in
          ap (differ_at s t) (sym q) ∙ any_none 64 (λ m. differ_at s t (k + m)) (not-true (any_below 64 (λ m. differ_at s t (k + m))) (sym e)) (j - k) (omega arith)

  pub different-le : first_different s t ≤ length s
  unfolding first_different
  different-le = least-le (length s) (differ_at s t)

  pub different-found : first_different s t < length s → get_or s (first_different s t) 0 ≡ get_or t (first_different s t) 0 → ⊥
  unfolding first_different
  different-found l = at_other (first_different s t) (least-found (length s) (differ_at s t) l)

  pub different-before : (k : ℕ) → k < first_different s t → get_or s k 0 ≡ get_or t k 0
  unfolding first_different
  different-before k l = at_same k (least_first (length s) (differ_at s t) k l)

  pub agree-ends : ((k : ℕ) → k < length s → get_or s k 0 ≡ get_or t k 0) → agree s t ≡ true
  unfolding agree first_different
  agree-ends h = eq-eqb (first_different s t) (length s) (least-none (length s) (differ_at s t) (λ k l. same_at k (h k l)))

  pub agree-stops : (k : ℕ) → k < length s → (get_or s k 0 ≡ get_or t k 0 → ⊥) → agree s t ≡ false
  unfolding agree first_different
  agree-stops k l h =
      let m : first_different s t ≤ k = least-most (length s) (differ_at s t) k (other_at k h) in
      ne_eqb (first_different s t) (length s) (λ e. omega arith)

  pub agree_at : agree s t ≡ true → (k : ℕ) → k < length s → get_or s k 0 ≡ get_or t k 0
  unfolding agree
  agree_at e k l = let f : first_different s t ≡ length s = eqb-true (first_different s t) (length s) e in different-before k (omega arith)

  pub agree-equal : length s ≡ length t → agree s t ≡ true → s ≡ t
  agree-equal size e = ext_get_or 0 s t size (agree_at e)

  pub equal-agree : s ≡ t → agree s t ≡ true
  equal-agree e = agree-ends (λ k l. ap (λ (x : List ℕ). get_or x k 0) e)
