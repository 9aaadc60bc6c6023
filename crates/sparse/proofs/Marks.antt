-- Laws of sums with marks:
--
--   any_last                               one place more that may pass
--   mark-inside, mark-digit                the byte and the digit of a mark
--   mark-length, mark-here, mark-stays     one mark more: as many bytes, its own number has it, and no other loses it
--   unmarked                               a number without a mark is none of the sums
--   run_none, run_more, run_join           the places of a run that were tried so far: none; with one more, and with some after it
--   run-here, run_past                     one of them passes, or none does
--   few-hit, two-hit, hit-equal            hit_at where there is one place, and where there may be two; with the same sums told otherwise
--   hit-one, hit_few, hit-two              what hit_at says, by the single word and by the pairs
--
-- Assumes nothing.
use mathlib.Core.Path.{◌≡◌, refl, sym, ap, ap₂, ◌∙◌}
use mathlib.Core.Bool.{Bool, true, false, ◌&&◌, ◌||◌}
use mathlib.Core.List.{List}
use Prim.Native.Nat.{ℕ, ◌+◌, ◌-◌, ◌*◌, ◌/◌, ◌%◌, ◌^◌, ◌≤◌, ◌<◌}
use native.Mathlib.Nat.{mod-lt, zero-lt-suc, one-mul}
use native.Mathlib.Numerals.{add-one}
use native.Mathlib.Decide.{ℕ_discrete, dec_lt}
use native.Mathlib.Omega.{arith}
use lib.Dec.{eqb}
use lib.Bits.{bit_or, or_comm, or_shr, or_mod}
use lib.ListN.{length, set, length-set}
use lib.Seq.{get_or-set_same, get_or-set_other}
use lib.Pow.{shl_exact}
use borrow.Author.Tests.{eq-eqb, ne_eqb, eqb-true}
use Rattle.finite.specs.Search.{bit, any_below}
use Rattle.finite.proofs.Truth.{clash, or_left, or-none}
use Rattle.finite.proofs.Digits.{bit-power}
use Rattle.finite.proofs.Search.{any_here, none_any, any-equal}
use Rattle.gf2.specs.Xor.{◌⊕◌}
use Rattle.plan.specs.Table.{word_at}
use Rattle.sparse.specs.Sets.{hit_at, mark_place, has_mark, mark_set, one_of, Marked}

pub any_last : (d : ℕ) (p : ℕ → Bool) → (any_below d p || p d) ≡ any_below (d + 1) p
unfolding any_below
any_last d p = ap (λ (n : ℕ). any_below n p) (sym (add-one d))

-- a digit of an or is set where one of the two is
or-digit : (p q : ℕ) → p ≡ 1 → q < 2 → bit_or p q ≡ 1
or-digit p q e l = go (ℕ_discrete q 0)
  where
    go : Dec (q ≡ 0) → bit_or p q ≡ 1
    go (yes z) = ap₂ bit_or e z
    go (no z) = let o : q ≡ 1 = omega arith in ap₂ bit_or e o

or-left-bit : (a b k : ℕ) → bit a k ≡ true → bit (bit_or a b) k ≡ true
unfolding bit
or-left-bit a b k e =
    eq-eqb (bit_or a b / 2 ^ k % 2) 1
    (ap (λ (n : ℕ). n % 2) (or_shr a b k) ∙ or_mod (a / 2 ^ k) (b / 2 ^ k) 1
    ∙ or-digit (a / 2 ^ k % 2) (b / 2 ^ k % 2) (eqb-true (a / 2 ^ k % 2) 1 e) (mod-lt (b / 2 ^ k) (zero-lt-suc 1)))

or-right-bit : (a b k : ℕ) → bit b k ≡ true → bit (bit_or a b) k ≡ true
or-right-bit a b k e = ap (λ (n : ℕ). bit n k) (or_comm a b) ∙ or-left-bit b a k e

pub mark-inside : (n x k : ℕ) → n ≡ 4096 → k ≡ mark_place x → k < n
unfolding mark_place
mark-inside n x k h e = omega arith

-- the digit of a mark, as the code makes it
pub mark-digit : (x : ℕ) → 1 * 2 ^ (x % 8) % 256 ≡ 2 ^ (x % 8)
mark-digit x = shl_exact {a = 1} 1 (x % 8) 8 (omega arith) (omega arith) ∙ one-mul (2 ^ (x % 8))

pub mark-length : (marks : List ℕ) (x : ℕ) → length (mark_set marks x) ≡ length marks
unfolding mark_set
mark-length marks x = length-set marks (mark_place x) (bit_or (word_at marks (mark_place x)) (2 ^ (x % 8)))

module _ (marks : List ℕ) (n : length marks ≡ 4096) (x : ℕ) where
  abbrev byte : ℕ
  byte = bit_or (word_at marks (mark_place x)) (2 ^ (x % 8))

  set-byte : word_at (set marks (mark_place x) byte) (mark_place x) ≡ byte
  unfolding mark_place
  set-byte = get_or-set_same marks (mark_place x) byte 0 (omega arith)

  pub mark-here : has_mark (mark_set marks x) x ≡ true
  unfolding has_mark mark_set
  mark-here =
      ap (λ (y : ℕ). bit y (x % 8)) set-byte
      ∙ or-right-bit (word_at marks (mark_place x)) (2 ^ (x % 8)) (x % 8) (bit-power (x % 8) (x % 8) ∙ eq-eqb (x % 8) (x % 8) refl)

  pub mark-stays : (y : ℕ) → has_mark marks y ≡ true → has_mark (mark_set marks x) y ≡ true
  unfolding has_mark mark_set
  mark-stays y e = go (ℕ_discrete (mark_place y) (mark_place x))
    where
      go : Dec (mark_place y ≡ mark_place x) → bit (word_at (set marks (mark_place x) byte) (mark_place y)) (y % 8) ≡ true
      go (yes q) =
          ap (λ (k : ℕ). bit (word_at (set marks (mark_place x) byte) k) (y % 8)) q
          ∙ ap (λ (z : ℕ). bit z (y % 8)) set-byte
          ∙ or-left-bit (word_at marks (mark_place x)) (2 ^ (x % 8)) (y % 8) (ap (λ (k : ℕ). bit (word_at marks k) (y % 8)) (sym q) ∙ e)
      go (no q) = ap (λ (z : ℕ). bit z (y % 8)) (get_or-set_other marks (mark_place x) (mark_place y) byte 0 q) ∙ e

pub unmarked : (sums marks : List ℕ) (x : ℕ) → Marked sums marks → has_mark marks x ≡ false → one_of sums x ≡ false
unfolding one_of
unmarked sums marks x m z = none_any (length sums) (λ d. eqb (word_at sums d) x) other
  where
    other : (d : ℕ) → d < length sums → eqb (word_at sums d) x ≡ false
    other d l = ne_eqb (word_at sums d) x (λ e. clash (m.mark d l) (ap (has_mark marks) e ∙ z))

module _ (p : ℕ → Bool) (from : ℕ) where
  pub run_none : (j : ℕ) → from ≤ j → j < from → p j ≡ false
  run_none j l m = absurd (omega arith)

  pub run_more : (k : ℕ) → ((j : ℕ) → from ≤ j → j < k → p j ≡ false) → p k ≡ false → (j : ℕ) → from ≤ j → j < k + 1 → p j ≡ false
  run_more k h e j l m = go (ℕ_discrete j k)
    where
      go : Dec (j ≡ k) → p j ≡ false
      go (yes q) = ap p q ∙ e
      go (no q) = h j l (omega arith)

  pub run_join : (k r : ℕ) → ((j : ℕ) → from ≤ j → j < k → p j ≡ false) → p k ≡ false → ((j : ℕ) → k + 1 ≤ j → j < r → p j ≡ false)
      → (j : ℕ) → from ≤ j → j < r → p j ≡ false
  run_join k r h e g j l m = go (dec_lt k j)
    where
      go : Dec (k < j) → p j ≡ false
      go (yes u) = g j (omega arith) m
      go (no u) = run_more k h e j l (omega arith)

  pub run-here : (n k : ℕ) → from ≤ k → k < n → p k ≡ true → any_below (n - from) (λ d. p (from + d)) ≡ true
  run-here n k l m e =
      let q : from + (k - from) ≡ k = omega arith in
      any_here (n - from) (λ d. p (from + d)) (k - from) (omega arith) (ap p q ∙ e)

  pub run_past : (n k : ℕ) → n ≤ k → ((j : ℕ) → from ≤ j → j < k → p j ≡ false) → any_below (n - from) (λ d. p (from + d)) ≡ false
  run_past n k l h = none_any (n - from) (λ d. p (from + d)) (λ d m. h (from + d) (omega arith) (omega arith))

module _ (t : ℕ) (f : ℕ → ℕ) (from k : ℕ) (T : ℕ → Bool) where
  pub few-hit : (t ≡ 2 → ⊥) → hit_at t f from k T ≡ T (f k)
  unfolding hit_at
  few-hit n = rw (ne_eqb t 2 n) (or-none (T (f k)))

  pub two-hit : t ≡ 2 → hit_at t f from k T ≡ (T (f k) || any_below (k - from) (λ d. T (f (from + d) ⊕ f k)))
  unfolding hit_at
  two-hit n = rw (eq-eqb t 2 n)

  pub hit-one : T (f k) ≡ true → hit_at t f from k T ≡ true
  unfolding hit_at
  hit-one e = or_left (T (f k)) (eqb t 2 && any_below (k - from) (λ d. T (f (from + d) ⊕ f k))) e

  pub hit_few : T (f k) ≡ false → (t ≡ 2 → ⊥) → hit_at t f from k T ≡ false
  hit_few e n = few-hit n ∙ e

  pub hit-two : T (f k) ≡ false → t ≡ 2 → hit_at t f from k T ≡ any_below (k - from) (λ d. T (f (from + d) ⊕ f k))
  hit-two e n = two-hit n ∙ ap (λ (b : Bool). b || any_below (k - from) (λ d. T (f (from + d) ⊕ f k))) e

  -- what is asked of the sums hangs on which numbers they are
  pub hit-equal : (U : ℕ → Bool) → ((x : ℕ) → T x ≡ U x) → hit_at t f from k T ≡ hit_at t f from k U
  unfolding hit_at
  hit-equal U h =
      ap₂ ◌||◌ (h (f k))
      (ap (◌&&◌ (eqb t 2)) (any-equal (k - from) (λ d. T (f (from + d) ⊕ f k)) (λ d. U (f (from + d) ⊕ f k)) (λ d l. h (f (from + d) ⊕ f k))))
