-- Which burst is found. The first pattern with the V sum decides, since no other has it.
--
--   strip-burst            a strip on which the pattern has the H sum gives the burst
--   strip-none             if there is no such strip, there is no burst
--   window-none            if no window has a pattern with the V sum, there is no burst
--   zero-burst, zero-none  a V sum of 0: the empty burst where the H sum is 0 too, else none
--   strips-decide          what the strips answer for the first pattern found is the answer
--   search-decides         so is what the search over the windows answers
--
-- Assumes nothing.
use mathlib.Core.Path.{◌≡◌, refl, sym, ◌∙◌}
use mathlib.Core.Bool.{Bool, true, false, cond}
use mathlib.Core.List.{List}
use Prim.Native.Nat.{ℕ, zero, suc, ◌+◌, ◌-◌, ◌*◌, ◌%◌, ◌≤◌, ◌<◌}
use native.Mathlib.Omega.{arith}
use borrow.Author.Count.{below_more}
use borrow.Author.Tests.{eqb-true, eq-eqb, ltb-true, lt-ltb}
use lib.Dec.{ltb}
use Rattle.gf2.specs.Sum.{chosen_sum}
use Rattle.gf2.proofs.Sum.{sum-zero}
use Rattle.finite.specs.Search.{bit, least, number_of, count_below, few}
use Rattle.finite.proofs.Count.{count_none, few-less, most-few}
use Rattle.finite.proofs.Truth.{never, not-true}
use Rattle.finite.proofs.Search.{least-found, least-most}
use Rattle.finite.proofs.Digits.{bit-none, number-below}
use Rattle.boxcode.specs.Code.{Code, Formed}
use Rattle.boxcode.specs.Condition.{Conditions}
use Rattle.boxcode.specs.Burst.{has_burst}
use Rattle.boxcode.proofs.Image.{unpicked}
use Rattle.boxcode.proofs.Condition.{separated}
use Rattle.boxcode.proofs.Trial.{BurstWith, has-burst, burst-is}
use Rattle.boxcode.proofs.Laid.{none_found, strip-found, found-strip}
use Rattle.mend.specs.Window.{window_sum, entry_at, first_fit}
use Rattle.mend.specs.Strip.{laid_cell, laid_row, laid_line, laid_sum, fits_on, laid_digit, box_pattern, on_strips}
use Rattle.plan.specs.declared.header.Header.{Header}
use Rattle.plan.specs.Bytes.{code_with, column_entry_at}
use Rattle.plan.specs.Table.{Unpacked, word_at}
use Rattle.std.specs.Prelude.{Option, Some, None}
use Rattle.mend.specs.Search.{after_fit, search_from}
use Rattle.plan.specs.Accepted.{AcceptedWith}
use Rattle.mend.specs.Found.{burst_at, IsBurst, BurstOrNone, FoundFor}
use Rattle.mend.proofs.First.{found-for}
use Rattle.mend.proofs.Window.{fit-sum, fit_none, in_window, in_window-holds, window-sum, window-count, pattern-sum, pattern-less}
use Rattle.mend.proofs.Laying.{laid_cells, laid-entries, laid-sum, laid-number}

module _ (c : Code) (F : Formed c) (K : Conditions c) (v s : ℕ) where
  -- pattern x of the window at row i has the V sum
  module _ (i x : ℕ) (rows : i + c.b1 ≤ c.n1) (u : few c.t (count_below (c.b1 * c.b2) (bit x)) ≡ true) (q : window_sum c i (bit x) ≡ v) where
    sparse : few c.t (count_below (c.n1 * c.b2) (in_window c i (bit x))) ≡ true
    sparse = few-less c.t _ _ (window-count c F i rows (bit x)) u

    chosen : chosen_sum (c.n1 * c.b2) (in_window c i (bit x)) c.row_entry ≡ v
    chosen = window-sum c F i rows (bit x) ∙ q

    laid-found : (a : ℕ) → a + c.b2 ≤ c.n2 → laid_sum c.b1 c.b2 c.column_entry i a x ≡ s → BurstWith c v s (laid_cells c i x a)
    unfolding laid_cells
    laid-found a columns e =
        rw chosen at
        (strip-found c F i (in_window c i (bit x)) (in_window-holds c F i rows (bit x)) sparse rows a s columns (laid-sum c F i x rows a columns ∙ e))

    pub strip-burst : (a : ℕ) → a + c.b2 ≤ c.n2 → laid_sum c.b1 c.b2 c.column_entry i a x ≡ s
        → IsBurst c v s i a (box_pattern c.b1 c.b2 a x)
    strip-burst a columns e =
        let f = laid-found a columns e in
        record {
          rows_on = rows;
          columns_on = columns;
          below = unfold box_pattern in number-below (c.b1 * c.b2) (laid_digit c.b2 a x);
          has = has-burst c F v s (laid_cells c i x a) f;
          cells = λ i' j. laid-number c F i x rows a i' j ∙ sym (burst-is c F v s (separated c F K) (laid_cells c i x a) f i' j);
        }

    pub strip-none : ((a : ℕ) → a + c.b2 ≤ c.n2 → laid_sum c.b1 c.b2 c.column_entry i a x ≡ s → ⊥) → has_burst c v s ≡ false
    unfolding laid_cells
    strip-none none =
        not-true (has_burst c v s)
        (λ t.
        let w = found-strip c F i (in_window c i (bit x)) (in_window-holds c F i rows (bit x)) sparse rows (separated c F K) s (rw chosen t) in
        none w.0 w.1 (sym (laid-sum c F i x rows w.0 w.1) ∙ w.2))

  pub window-none : ((i : ℕ) → i + c.b1 ≤ c.n1 → (m : ℕ → Bool) → few c.t (count_below (c.b1 * c.b2) m) ≡ true → window_sum c i m ≡ v → ⊥)
      → has_burst c v s ≡ false
  window-none none =
      none_found c F v s
      (λ top p rows w u e. none top rows (λ k. p (top * c.b2 + k)) (few-less c.t _ _ (pattern-less c F top rows p) u)
      (sym (pattern-sum c F top rows p w) ∙ e))

-- ---- a V sum of 0

number-none : (n : ℕ) (p : ℕ → Bool) → ((k : ℕ) → p k ≡ false) → number_of n p ≡ 0
unfolding number_of
number-none zero p h = refl
number-none (suc n) p h = rw (h 0, number-none n (λ k. p (suc k)) (λ k. h (suc k)))

module _ (c : Code) (F : Formed c) (K : Conditions c) where
  no-sum : window_sum c 0 (bit 0) ≡ 0
  unfolding window_sum
  no-sum = sum-zero (c.b1 * c.b2) _ (λ k l. unpicked (bit 0 k) (entry_at c 0 k) (bit-none k))

  none-few : few c.t (count_below (c.b1 * c.b2) (bit 0)) ≡ true
  none-few = most-few c.t (count_below (c.b1 * c.b2) (bit 0)) (omega (arith, count_none (c.b1 * c.b2) (bit 0) (λ k l. bit-none k)))

  no-laid : (a : ℕ) → laid_sum c.b1 c.b2 c.column_entry 0 a 0 ≡ 0
  unfolding laid_sum laid_line laid_row laid_cell
  no-laid a = sum-zero c.b1 _ (λ r lr. sum-zero c.b2 _ (λ d ld. unpicked _ _ (bit-none (r * c.b2 + (a + d) % c.b2))))

  no-pattern : box_pattern c.b1 c.b2 0 0 ≡ 0
  unfolding box_pattern laid_digit
  no-pattern = number-none (c.b1 * c.b2) (laid_digit c.b2 0 0) (λ k. bit-none _)

  first-window : 0 + c.b1 ≤ c.n1
  first-window = let l = F.n1_least in omega arith

  pub zero-burst : IsBurst c 0 0 0 0 0
  zero-burst =
      let on : 0 + c.b2 ≤ c.n2 = (let l = F.n2_least in omega arith) in
      rw no-pattern at (strip-burst c F K 0 0 0 0 first-window none-few no-sum 0 on (no-laid 0))

  pub zero-none : (s : ℕ) → (s ≡ 0 → ⊥) → has_burst c 0 s ≡ false
  zero-none s ne = strip-none c F K 0 s 0 0 first-window none-few no-sum (λ a columns e. ne (sym e ∙ no-laid a))

-- ---- from the strips to the answer

-- on the strips, the unpacked table is the plan's: so what the strips answer is right for the two sums
pub strips-decide : (s : List ℕ) (h : Header) (words : List ℕ) → AcceptedWith s h → Unpacked s h words
    → (v t i x : ℕ) → i + h.b1 ≤ h.n1
    → (few h.t (count_below (h.b1 * h.b2) (bit x)) ≡ true) × (window_sum (code_with s h) i (bit x) ≡ v)
    → FoundFor (code_with s h) v t (on_strips h (word_at words) i x t)
unfolding on_strips fits_on
strips-decide s h words U T v t i x rows q = found-for (code_with s h) v t (on_strips h (word_at words) i x t) (go (ltb a n) refl)
  where
    n : ℕ
    n = h.n2 - h.b2 + 1

    p : ℕ → Bool
    p = fits_on h.b1 h.b2 (word_at words) i x t

    a : ℕ
    a = least n p

    same : (a : ℕ) → a + h.b2 ≤ h.n2 → laid_sum h.b1 h.b2 (word_at words) i a x ≡ laid_sum h.b1 h.b2 (column_entry_at s h) i a x
    same a on = laid-entries h.b1 h.b2 h.n2 i a x (word_at words) (column_entry_at s h) U.formed.b1_pos on T.entry

    go : (b : Bool) → ltb a n ≡ b → BurstOrNone (code_with s h) v t (cond b (Some (burst_at i a (box_pattern h.b1 h.b2 a x))) None)
    go true e =
        let l : a < n = ltb-true a n e in
        let on : a + h.b2 ≤ h.n2 = (let w = U.framed.small.n2_least in omega arith) in
        strip-burst (code_with s h) U.formed U.conditions v t i x rows q.0 q.1 a on
        (sym (same a on) ∙ eqb-true (laid_sum h.b1 h.b2 (word_at words) i a x) t (least-found n p l))
    go false e =
        strip-none (code_with s h) U.formed U.conditions v t i x rows q.0 q.1
        (λ k on z.
        let m : a ≤ k = least-most n p k (eq-eqb (laid_sum h.b1 h.b2 (word_at words) i k x) t (same k on ∙ z)) in
        never (ltb a n) (lt-ltb a n (omega arith)) e)

-- ---- from the windows to the answer

module _ (s : List ℕ) (h : Header) (words : List ℕ) (U : AcceptedWith s h) (T : Unpacked s h words) (v t : ℕ) where
  -- the window at row j has no pattern with the V sum
  abbrev Misses : ℕ → Type 0
  Misses j = (m : ℕ → Bool) → few h.t (count_below (h.b1 * h.b2) m) ≡ true → window_sum (code_with s h) j m ≡ v → ⊥

  search-rest : (m i : ℕ) → i + m ≡ h.n1 - h.b1 + 1 → ((j : ℕ) → j < i → Misses j)
      → FoundFor (code_with s h) v t (search_from s h (word_at words) v t i m)
  unfolding search_from
  search-rest zero i e none =
      found-for (code_with s h) v t None
      (window-none (code_with s h) U.formed U.conditions v t (λ j on m u q. none j (let l = U.framed.small.n1_least in omega arith) m u q))
  search-rest (suc m) i e none = go (first_fit (code_with s h) i v) refl (λ z. search-rest m (suc i) (omega arith) z)
    where
      go : (f : Option ℕ) → first_fit (code_with s h) i v ≡ f
          → (((j : ℕ) → j < suc i → Misses j) → FoundFor (code_with s h) v t (search_from s h (word_at words) v t (suc i) m))
          → FoundFor (code_with s h) v t (after_fit f (λ x. on_strips h (word_at words) i x t) (search_from s h (word_at words) v t (suc i) m))
      go (Some x) q rest =
          let l = U.framed.small.n1_least in
          strips-decide s h words U T v t i x (omega arith) (fit-sum (code_with s h) i v x q)
      go None q rest = rest (λ j l. below_more Misses i none (fit_none (code_with s h) i v q) j (let k : j < i + 1 = omega arith in k))

  pub search-decides : FoundFor (code_with s h) v t (search_from s h (word_at words) v t 0 (h.n1 - h.b1 + 1))
  search-decides = search-rest (h.n1 - h.b1 + 1) 0 (omega arith) (λ j l. absurd (omega arith))
