-- Families in which value k is 0 or has k as its leading digit.
--
--   Word k w        w may stand at place k
--   xor-clears      two numbers with the same leading digit: their exclusive-or does not reach it
--   spanned-below   a bound by a power of two
--   spanned-down    a spanned number below 2 ^ n is spanned by the first n values
--   spanned-top     a spanned number with leading digit k: value k is not 0
--   listed-list     a list is what its elements are, listed
--   spanned-list    a list spans what its elements span as a family
--
-- Assumes nothing.
use mathlib.Core.Path.{◌≡◌, refl, sym, ap, ap₂, ◌∙◌}
use mathlib.Core.Bool.{Bool, true, ◌||◌, or_self}
use mathlib.Core.List.{List, [], ◌++◌, reverse_aux, append-nil}
use mathlib.Core.Logic.{◌⊎◌, ⊎_elim}
use Prim.Native.Nat.{ℕ, zero, suc, ◌+◌, ◌*◌, ◌-◌, ◌^◌, ◌≤◌, ◌<◌}
use native.Mathlib.Nat.{lt-suc_self, add-zero, add-suc}
use native.Mathlib.Omega.{arith}
use lib.Bits as bits
use lib.ListN.{length, get_or}
use lib.Pow.{pow_mono, pow_pos, pow-add}
use lib.Seq.{take_all}
use Rattle.gf2.specs.Xor.{◌⊕◌, pick}
use Rattle.gf2.specs.Independence.{spanned}
use Rattle.gf2.specs.Vectors.{spans, listed, part}
use Rattle.finite.proofs.Truth.{either}
use Rattle.gf2.proofs.Xor.{xor-again, xor_below, xor_zero_right, pick-below}
use Rattle.gf2.proofs.Sum.{sum_below}
use Rattle.gf2.proofs.Independence.{spanned-chosen}
use Rattle.gf2.proofs.Vectors.{spanned-listed, listed-run, listed-none}
use Rattle.gf2.proofs.Spans.{spans-turned}

abbrev pub Word : ℕ → ℕ → Type 0
Word k w = (w ≡ 0) ⊎ ((2 ^ k ≤ w) × (w < 2 ^ suc k))

pub pow-double : (k : ℕ) → 2 ^ suc k ≡ 2 ^ k + 2 ^ k
pow-double k = ap (λ (n : ℕ). 2 ^ n) e ∙ pow-add 2 k 1 ∙ omega arith
  where
    e : suc k ≡ k + 1
    e = omega arith

pub xor-clears : (k a c : ℕ) → 2 ^ k ≤ a → a < 2 ^ suc k → 2 ^ k ≤ c → c < 2 ^ suc k → a ⊕ c < 2 ^ k
unfolding ◌⊕◌
xor-clears k a c la ha lc hc =
    let d = pow-double k in
    let ea : 1 * 2 ^ k + (a - 2 ^ k) ≡ a = omega arith in
    let ec : 1 * 2 ^ k + (c - 2 ^ k) ≡ c = omega arith in
    let l : bits.bit_xor (a - 2 ^ k) (c - 2 ^ k) < 2 ^ k = bits.xor_lt k (a - 2 ^ k) (c - 2 ^ k) (omega arith) (omega arith) in
    let e : bits.bit_xor a c ≡ 0 * 2 ^ k + bits.bit_xor (a - 2 ^ k) (c - 2 ^ k) =
    ap₂ bits.bit_xor (sym ea) (sym ec) ∙ bits.xor_block k 1 1 (a - 2 ^ k) (c - 2 ^ k) (omega arith) (omega arith) in
    omega arith

pub spanned-below : (w n : ℕ) (member : ℕ → Bool) (f : ℕ → ℕ) (x : ℕ) → ((k : ℕ) → k < n → f k < 2 ^ w) → spanned n member f x ≡ true → x < 2 ^ w
spanned-below w n member f x h e =
    let c = spanned-chosen n member f x e in
    rw c.2 at (sum_below w n (λ k. pick (c.0 k) (f k)) (λ k l. pick-below w (c.0 k) (f k) (h k l)))

word_below : (k n w : ℕ) → k < n → Word k w → w < 2 ^ n
word_below k n w l h = ⊎_elim (λ e. omega (arith, pow_pos n)) (λ p. omega (arith, p.1, pow_mono l)) h

module _ (f : ℕ → ℕ) where
  words-below : (n x : ℕ) → ((k : ℕ) → k < n → Word k (f k)) → spanned n (λ k. true) f x ≡ true → x < 2 ^ n
  words-below n x h e = spanned-below n n (λ k. true) f x (λ k l. word_below k n (f k) l (h k l)) e

  -- value n is not needed for a number below 2 ^ n
  down-one : (n x : ℕ) → ((k : ℕ) → k < suc n → Word k (f k)) → x < 2 ^ n → spanned (suc n) (λ k. true) f x ≡ true → spanned n (λ k. true) f x ≡ true
  unfolding spanned
  down-one n x h l e =
      ⊎_elim (λ p. p)
      (λ p. ⊎_elim (λ z. ap (spanned n (λ k. true) f) (sym (xor_zero_right x) ∙ ap (λ (a : ℕ). x ⊕ a) (sym z)) ∙ p)
      (λ w.
      let u = words-below n (x ⊕ f n) (λ k q. h k (omega arith)) p in
      let v : x ⊕ (x ⊕ f n) < 2 ^ n = xor_below n x (x ⊕ f n) l u in
      absurd (omega (arith, w.0, xor-again x (f n))))
      (h n (lt-suc_self n)))
      (either (spanned n (λ k. true) f x) (spanned n (λ k. true) f (x ⊕ f n)) e)

  down-add : (n d x : ℕ) → ((k : ℕ) → k < n + d → Word k (f k)) → x < 2 ^ n → spanned (n + d) (λ k. true) f x ≡ true → spanned n (λ k. true) f x ≡ true
  down-add n zero x h l e = rw (add-zero n) at e
  down-add n (suc d) x h l e =
      down-add n d x (λ k q. h k (omega arith)) l
      (down-one (n + d) x (λ k q. h k (omega arith)) (omega (arith, pow_mono {i = n} {j = n + d} (omega arith))) (rw (add-suc n d) at e))

  pub spanned-down : (n m x : ℕ) → n ≤ m → ((k : ℕ) → k < m → Word k (f k)) → x < 2 ^ n → spanned m (λ k. true) f x ≡ true → spanned n (λ k. true) f x ≡ true
  spanned-down n m x l h u e =
      let s : n + (m - n) ≡ m = omega arith in
      down-add n (m - n) x (λ k q. h k (omega arith)) u (ap (λ (j : ℕ). spanned j (λ k. true) f x) s ∙ e)

  pub spanned-top : (k x : ℕ) → ((j : ℕ) → j < suc k → Word j (f j)) → 2 ^ k ≤ x → spanned (suc k) (λ j. true) f x ≡ true → f k ≡ 0 → ⊥
  spanned-top k x h l e z = omega (arith, words-below k x (λ j q. h j (omega arith)) (before e))
    where
      before : spanned (suc k) (λ j. true) f x ≡ true → spanned k (λ j. true) f x ≡ true
      before p =
          unfold spanned in
          sym (or_self (spanned k (λ j. true) f x))
          ∙ ap (λ (a : ℕ). spanned k (λ j. true) f x || spanned k (λ j. true) f a) (sym (xor_zero_right x) ∙ ap (λ (a : ℕ). x ⊕ a) (sym z)) ∙ p

-- the elements of a list, listed
pub listed-list : (n : ℕ) (b : List ℕ) → length b ≡ n → listed n (λ k. true) (λ k. get_or b k 0) ≡ b
listed-list n b s =
    listed-run 0 n (λ k. true) (λ k. get_or b k 0) b (omega arith) (omega arith) (λ k p q. refl) (λ k p q. refl)
    ∙ ap (λ (l : List ℕ). l ++ part 0 n b) (listed-none (λ k. true) (λ k. get_or b k 0)) ∙ take_all (n - 0) b (omega arith)

pub spanned-list : (n : ℕ) (b : List ℕ) (x : ℕ) → length b ≡ n → spanned n (λ k. true) (λ k. get_or b k 0) x ≡ spans b x
spanned-list n b x s =
    spanned-listed n (λ k. true) (λ k. get_or b k 0) x
    ∙ ap (λ (l : List ℕ). spans (reverse_aux l []) x) (listed-list n b s)
    ∙ spans-turned b [] x ∙ ap (λ (l : List ℕ). spans l x) (append-nil b)
