-- Patterns of a window, and the fit by its V entries.
--
--   rows_fit          the positions of a window are positions of the table
--   gathered-any, gathered   an array with the window's entries: any; and their list, filled up with zeros
--   in_window          the choice m among a window's entries, as positions of the row table
--   in_window-holds, window-place, window-sum   it is in the window, and has their sum
--   pattern-sum       a pattern in the window has the sum of its choice
--   window-few, window-free     the entries are at most 64, and under the conditions independent
--   fit_is                      so the solution for the entries is the first pattern with the V sum
--   fit-sum, fit_none           that pattern has the V sum; where there is none, no choice has it
--
-- Assumes nothing.
use mathlib.Core.Path.{◌≡◌, refl, sym, ap, ap₂, ◌∙◌}
use mathlib.Core.Bool.{Bool, true, false, cond, ◌&&◌}
use mathlib.Core.List.{List, [], ◌++◌, append-nil}
use Prim.Native.Nat.{ℕ, ◌+◌, ◌-◌, ◌*◌, ◌/◌, ◌^◌, ◌≤◌, ◌<◌}
use native.Mathlib.Nat.{add-mul, mul-le-mul, mul-le-mul_right, le-div_iff_mul-le, div-lt_iff_lt-mul, lt_of_lt_of_le, lt_trans}
use native.Mathlib.Omega.{arith}
use borrow.Author.Tests.{eqb-true, eq-eqb, ltb-true, lt-ltb, le-ltb}
use Rattle.std.specs.Prelude.{Option, Some, None}
use lib.Dec.{eqb, ltb}
use lib.ListN.{length, get_or, take, drop, replicate}
use lib.Pow.{pow_mono}
use lib.Seq.{ext_get_or, length-take-le, get_or-take}
use Rattle.std.proofs.lemmas.List.{length-append, length-drop, get_or_append_left}
use Rattle.gf2.specs.Xor.{pick}
use Rattle.gf2.specs.Sum.{chosen_sum}
use Rattle.gf2.specs.Independence.{Independent}
use Rattle.gf2.specs.Vectors.{spans, free_from, listed}
use Rattle.gf2.specs.Solver.{combination, solution}
use Rattle.gf2.proofs.Basis.{Below}
use Rattle.gf2.proofs.Sum.{sum-equal, sum-zero}
use Rattle.gf2.proofs.Independence.{chosen-spanned, independent-free, pick-false}
use Rattle.gf2.proofs.Vectors.{listed-length, spanned-listed, free-listed}
use Rattle.gf2.proofs.Span.{listed_at}
use Rattle.gf2.proofs.Spans.{spans-turned}
use Rattle.gf2.proofs.Combination.{combination-listed}
use Rattle.gf2.proofs.Solving.{solution-found}
use Rattle.finite.specs.Search.{bit, within, least, number_of, count_below, few}
use Rattle.finite.proofs.Search.{least-found, least-most, least-is, least-none, least-equal}
use Rattle.finite.proofs.Count.{count-equal, few-any, few-less, few-most, most-few}
use Rattle.finite.proofs.Digits.{number-below, bit-number, bits-equal}
use Rattle.finite.proofs.Truth.{not-true, same_truth, both, and_left, and_right, and_both, within-from, within-to, in_within}
use Rattle.boxcode.specs.Code.{Code, Formed}
use Rattle.boxcode.specs.Condition.{Conditions}
use Rattle.boxcode.specs.Burst.{patterns}
use Rattle.boxcode.proofs.Image.{unpicked, count-injects}
use Rattle.boxcode.proofs.Pattern.{InWindow}
use Rattle.boxcode.proofs.Condition.{rows_apart}
use Rattle.mend.specs.Window.{entry_at, window_entries, Gathered, window_sum, makes_sum, first_fit, FewPattern, FewFit}
use Rattle.plan.specs.Table.{word_at}
use Rattle.mend.proofs.Runs.{run-sum}

unfoldable pub in_window : Code → ℕ → (ℕ → Bool) → ℕ → Bool
in_window c i m k = within (i * c.b2) (c.b1 * c.b2) k && m (k - i * c.b2)

pub rows_fit : (i b n w : ℕ) → i + b ≤ n → i * w + b * w ≤ n * w
rows_fit i b n w l = let e : (i + b) * w ≡ i * w + b * w = add-mul i b w in let m : (i + b) * w ≤ n * w = mul-le-mul_right w l in omega arith

pub gathered-any : (c : Code) (i : ℕ) (words : List ℕ) → c.b1 * c.b2 ≤ 16 → length words ≡ 16
    → ((k : ℕ) → k < c.b1 * c.b2 → get_or words k 0 ≡ entry_at c i k) → Gathered c i words
unfolding window_entries
gathered-any c i words few size at = record {
  size = size;
  entries =
      let n = c.b1 * c.b2 in
      let l : length (take n words) ≡ n = length-take-le n words (omega arith) in
      ext_get_or 0 (take n words) (listed n (λ k. true) (entry_at c i)) (l ∙ sym (listed-length n (entry_at c i)))
      (λ k lk. let u : k < n = omega arith in get_or-take n words k 0 u ∙ at k u ∙ sym (listed_at n (entry_at c i) k u));
}

pub gathered : (c : Code) (i : ℕ) (items : List ℕ) → c.b1 * c.b2 ≤ 16 → length items ≡ c.b1 * c.b2
    → ((k : ℕ) → k < c.b1 * c.b2 → get_or items k 0 ≡ entry_at c i k) → Gathered c i (items ++ drop (c.b1 * c.b2) (replicate 16 0))
gathered c i items most size at =
    let zeros : List ℕ = replicate 16 0 in
    let rest : List ℕ = drop (c.b1 * c.b2) zeros in
    gathered-any c i (items ++ rest) most (length-append items rest ∙ omega (arith, size, length-drop (c.b1 * c.b2) zeros))
    (λ k l. get_or_append_left items rest 0 k (omega arith) ∙ at k l)

-- a fit of few words that begin an array is one of few entries
pub few_words : (c : Code) (i t v : ℕ) (words : List ℕ) → Gathered c i words → (r : Option ℕ)
    → FewFit t (word_at (take (c.b1 * c.b2) words)) (length (take (c.b1 * c.b2) words)) v r → FewFit t (entry_at c i) (c.b1 * c.b2) v r
unfolding window_entries
few_words c i t v words G = go (length (take n words)) (ap length G.entries ∙ listed-length n (entry_at c i))
  where
    n : ℕ
    n = c.b1 * c.b2

    same : (k : ℕ) → k < n → word_at (take n words) k ≡ entry_at c i k
    same k l = ap (λ (t : List ℕ). get_or t k 0) G.entries ∙ listed_at n (entry_at c i) k l

    sums : (m : ℕ → Bool) → chosen_sum n m (word_at (take n words)) ≡ chosen_sum n m (entry_at c i)
    sums m = sum-equal n (λ k. pick (m k) (word_at (take n words) k)) (λ k. pick (m k) (entry_at c i k)) (λ k l. ap (pick (m k)) (same k l))

    go : (z : ℕ) → z ≡ n → (r : Option ℕ) → FewFit t (word_at (take n words)) z v r → FewFit t (entry_at c i) n v r
    go z e (Some x) f =
        let g : FewPattern t (word_at (take n words)) n v x = rw e at f in
        record { below = g.below; few = g.few; sum = sym (sums (bit x)) ∙ g.sum }
    go z e None f = λ m l q. (rw e at f) m l (sums m ∙ q)

module _ (c : Code) (F : Formed c) (i : ℕ) (on : i + c.b1 ≤ c.n1) where
  at_most : c.b1 * c.b2 ≤ 16
  at_most = mul-le-mul F.b1_most F.b2_most

  -- the entries of a pattern in the window
  pub pattern-sum : (p : ℕ → Bool) → InWindow c i p → chosen_sum (c.n1 * c.b2) p c.row_entry ≡ window_sum c i (λ k. p (i * c.b2 + k))
  unfolding window_sum
  pattern-sum p w =
      run-sum (c.n1 * c.b2) (i * c.b2) (c.b1 * c.b2) (λ k. pick (p k) (c.row_entry k)) (rows_fit i c.b1 c.n1 c.b2 on)
      (λ k miss. unpicked (p k) (c.row_entry k) (not-true (p k) (λ t. out k (w k t) miss)))
    where
      out : (k : ℕ) → within i c.b1 (k / c.b2) ≡ true → (i * c.b2 ≤ k → k < i * c.b2 + c.b1 * c.b2 → ⊥) → ⊥
      out k t miss =
          let e : (i + c.b1) * c.b2 ≡ i * c.b2 + c.b1 * c.b2 = add-mul i c.b1 c.b2 in
          let u : k < (i + c.b1) * c.b2 = (div-lt_iff_lt-mul F.b2_pos).0 (within-to i c.b1 (k / c.b2) t) in
          miss ((le-div_iff_mul-le F.b2_pos).0 (within-from i c.b1 (k / c.b2) t)) (omega arith)

  pub in_window-holds : (m : ℕ → Bool) → InWindow c i (in_window c i m)
  unfolding in_window
  in_window-holds m k t =
      let w = and_left (within (i * c.b2) (c.b1 * c.b2) k) (m (k - i * c.b2)) t in
      let e : (i + c.b1) * c.b2 ≡ i * c.b2 + c.b1 * c.b2 = add-mul i c.b1 c.b2 in
      let u : k < i * c.b2 + c.b1 * c.b2 = within-to (i * c.b2) (c.b1 * c.b2) k w in
      in_within i c.b1 (k / c.b2) ((le-div_iff_mul-le F.b2_pos).1 (within-from (i * c.b2) (c.b1 * c.b2) k w))
      ((div-lt_iff_lt-mul F.b2_pos).1 (let z : k < (i + c.b1) * c.b2 = omega arith in z))

  pub window-place : (m : ℕ → Bool) (k : ℕ) → k < c.b1 * c.b2 → in_window c i m (i * c.b2 + k) ≡ m k
  unfolding in_window
  window-place m k l =
      ap₂ (λ (b : Bool) (x : ℕ). b && m x) (in_within (i * c.b2) (c.b1 * c.b2) (i * c.b2 + k) (omega arith) (omega arith))
      (let e : i * c.b2 + k - i * c.b2 ≡ k = omega arith in e)

  pub window-sum : (m : ℕ → Bool) → chosen_sum (c.n1 * c.b2) (in_window c i m) c.row_entry ≡ window_sum c i m
  window-sum m =
      pattern-sum (in_window c i m) (in_window-holds m)
      ∙ (unfold window_sum in
      sum-equal (c.b1 * c.b2) (λ k. pick (in_window c i m (i * c.b2 + k)) (entry_at c i k)) (λ k. pick (m k) (entry_at c i k))
      (λ k l. ap (λ (b : Bool). pick b (entry_at c i k)) (window-place m k l)))

  window-length : length (window_entries c i) ≡ c.b1 * c.b2
  unfolding window_entries
  window-length = listed-length (c.b1 * c.b2) (entry_at c i)

  pub window-few : length (window_entries c i) ≤ 64
  window-few = let e = window-length in let l = at_most in omega arith

  window-below : Below 64 (window_entries c i)
  unfolding window_entries
  window-below k l =
      let n = c.b1 * c.b2 in
      let e : length (listed n (λ k. true) (entry_at c i)) ≡ n = window-length in
      let lk : k < n = omega arith in
      let f : i * c.b2 + n ≤ c.n1 * c.b2 = rows_fit i c.b1 c.n1 c.b2 on in
      let b : entry_at c i k < 2 ^ c.rv = F.row_entries (i * c.b2 + k) (omega arith) in
      let p : 2 ^ c.rv ≤ 2 ^ 64 = pow_mono (let r : c.rv ≤ 64 = (let r = F.rv_most in omega arith) in r) in
      rw (listed_at n (entry_at c i) k lk) (lt_of_lt_of_le b p)

  -- as many of the window's positions are chosen as of its entries, at most; and back
  pub window-count : (m : ℕ → Bool) → count_below (c.n1 * c.b2) (in_window c i m) ≤ count_below (c.b1 * c.b2) m
  unfolding in_window
  window-count m =
      count-injects (c.n1 * c.b2) (c.b1 * c.b2) (in_window c i m) m (λ k. k - i * c.b2)
      (λ k l t.
      let w = and_left (within (i * c.b2) (c.b1 * c.b2) k) (m (k - i * c.b2)) t in (
        omega (arith, within-from (i * c.b2) (c.b1 * c.b2) k w, within-to (i * c.b2) (c.b1 * c.b2) k w),
        and_right (within (i * c.b2) (c.b1 * c.b2) k) (m (k - i * c.b2)) t,
      ))
      (λ k j lk lj tk tj e.
      let w = and_left (within (i * c.b2) (c.b1 * c.b2) k) (m (k - i * c.b2)) tk in
      let u = and_left (within (i * c.b2) (c.b1 * c.b2) j) (m (j - i * c.b2)) tj in
      omega (arith, within-from (i * c.b2) (c.b1 * c.b2) k w, within-from (i * c.b2) (c.b1 * c.b2) j u))

  pub pattern-less : (p : ℕ → Bool) → count_below (c.b1 * c.b2) (λ k. p (i * c.b2 + k)) ≤ count_below (c.n1 * c.b2) p
  pattern-less p =
      let f : i * c.b2 + c.b1 * c.b2 ≤ c.n1 * c.b2 = rows_fit i c.b1 c.n1 c.b2 on in
      count-injects (c.b1 * c.b2) (c.n1 * c.b2) (λ k. p (i * c.b2 + k)) p (λ k. i * c.b2 + k) (λ k l t. (omega arith, t))
      (λ k j lk lj tk tj e. omega arith)

  -- choices of few entries of the window with the same sum are the same
  pub window-apart : Conditions c → (m m' : ℕ → Bool) → few c.t (count_below (c.b1 * c.b2) m) ≡ true → few c.t (count_below (c.b1 * c.b2) m') ≡ true
      → window_sum c i m ≡ window_sum c i m' → (k : ℕ) → k < c.b1 * c.b2 → m k ≡ m' k
  window-apart K m m' u u' s k l =
      let f : i * c.b2 + c.b1 * c.b2 ≤ c.n1 * c.b2 = rows_fit i c.b1 c.n1 c.b2 on in
      sym (window-place m k l)
      ∙ rows_apart c K i i on on (in_window c i m) (in_window c i m') (in_window-holds m) (in_window-holds m')
      (few-less c.t _ _ (window-count m) u) (few-less c.t _ _ (window-count m') u')
      (window-sum m ∙ s ∙ sym (window-sum m')) (i * c.b2 + k) (omega arith)
      ∙ window-place m' k l

  -- the window twice: no nonempty choice has the sum 0
  pub window-free : Conditions c → c.t ≡ 0 → free_from [] (window_entries c i) ≡ true
  unfolding window_entries
  window-free K any = sym (free-listed (c.b1 * c.b2) (λ k. true) (entry_at c i)) ∙ independent-free (c.b1 * c.b2) (λ k. true) (entry_at c i) independent
    where
      independent : Independent (c.b1 * c.b2) (λ k. true) (entry_at c i)
      independent m w z k l =
          let own : window_sum c i m ≡ 0 = unfold window_sum in z in
          let none : window_sum c i (λ j. false) ≡ 0 = unfold window_sum in sum-zero (c.b1 * c.b2) (λ j. pick false (entry_at c i j))
          (λ j lj. pick-false (entry_at c i j)) in
          window-apart K m (λ j. false) (few-any c.t _ any) (few-any c.t _ any) (own ∙ sym none) k l

  -- the solution for the entries
  module _ (K : Conditions c) (any : c.t ≡ 0) (v : ℕ) (small : v < 2 ^ 64) where
    entries : List ℕ
    entries = window_entries c i

    made : (x : ℕ) → window_sum c i (bit x) ≡ combination entries x
    unfolding window_sum window_entries entries
    made x = sym (combination-listed (c.b1 * c.b2) (entry_at c i) x)

    spans-chosen : (m : ℕ → Bool) → window_sum c i m ≡ v → spans entries v ≡ true
    unfolding window_sum window_entries entries
    spans-chosen m q =
        sym (ap (λ (l : List ℕ). spans l v) (append-nil (window_entries c i)))
        ∙ sym (spans-turned (window_entries c i) [] v)
        ∙ sym (spanned-listed (c.b1 * c.b2) (λ k. true) (entry_at c i) v)
        ∙ chosen-spanned (c.b1 * c.b2) (λ k. true) (entry_at c i) v m (λ k t. refl) q

    answer-found : spans entries v ≡ true → (y : ℕ) × (solution entries v ≡ Some y) × (y < 2 ^ length entries) × (combination entries y ≡ v)
    unfolding entries
    answer-found t = solution-found (window_entries c i) window-few window-below (window-free K any) v small t

    -- any number of cells is few
    makes_any : (x : ℕ) → makes_sum c i v x ≡ eqb (window_sum c i (bit x)) v
    unfolding makes_sum
    makes_any x = ap (λ (b : Bool). b && eqb (window_sum c i (bit x)) v) (few-any c.t (count_below (c.b1 * c.b2) (bit x)) any)

    -- the first pattern by number, by the solver's vectors
    first-same : least (patterns c) (λ x. eqb (window_sum c i (bit x)) v) ≡ least (2 ^ length entries) (λ y. eqb (combination entries y) v)
    unfolding patterns entries
    first-same =
        rw window-length
        (least-equal (2 ^ (c.b1 * c.b2)) (λ x. eqb (window_sum c i (bit x)) v) (λ y. eqb (combination (window_entries c i) y) v)
        (λ k l. ap (λ (z : ℕ). eqb z v) (made k)))

    -- it is there exactly if the entries span the sum
    first_below : ltb (least (patterns c) (λ x. eqb (window_sum c i (bit x)) v)) (patterns c) ≡ spans entries v
    unfolding patterns entries
    first_below =
        same_truth (ltb x n) (spans (window_entries c i) v)
        (λ h. spans-chosen (bit x) (eqb-true (window_sum c i (bit x)) v (least-found n (λ x. eqb (window_sum c i (bit x)) v) (ltb-true x n h))))
        (λ t.
        let w = answer-found t in
        let l : w.0 < n = rw window-length at w.2 in
        let m : x ≤ w.0 = least-most n (λ x. eqb (window_sum c i (bit x)) v) w.0 (eq-eqb (window_sum c i (bit w.0)) v (made w.0 ∙ w.3)) in
        lt-ltb x n (omega arith))
      where
        n : ℕ
        n = 2 ^ (c.b1 * c.b2)

        x : ℕ
        x = least n (λ x. eqb (window_sum c i (bit x)) v)

    pub fit_is : solution (window_entries c i) v ≡ first_fit c i v
    unfolding first_fit solution entries
    fit_is =
        rw (least-equal (patterns c) (makes_sum c i v) (λ x. eqb (window_sum c i (bit x)) v) (λ k l. makes_any k), first_below, first-same)
        refl

  -- a fit of few entries is the first
  module _ (K : Conditions c) (pos : 1 ≤ c.t) (v : ℕ) where
    pub few-fit : (r : Option ℕ) → FewFit c.t (entry_at c i) (c.b1 * c.b2) v r → r ≡ first_fit c i v
    unfolding first_fit makes_sum window_sum patterns
    few-fit (Some x) f =
        let n = c.b1 * c.b2 in
        let u : few c.t (count_below n (bit x)) ≡ true = most-few c.t (count_below n (bit x)) f.few in
        let e : least (2 ^ n) (makes_sum c i v) ≡ x =
        least-is (2 ^ n) (makes_sum c i v) x f.below (and_both _ _ u (eq-eqb (window_sum c i (bit x)) v f.sum))
        (λ y ly. not-true (makes_sum c i v y) (λ t.
        let b = both (few c.t (count_below n (bit y))) (eqb (window_sum c i (bit y)) v) t in
        let q : y ≡ x =
        bits-equal n y x (lt_trans ly f.below) f.below
        (window-apart K (bit y) (bit x) b.0 u (eqb-true (window_sum c i (bit y)) v b.1 ∙ sym f.sum)) in
        absurd (omega arith))) in
        rw (e, lt-ltb x (2 ^ n) f.below)
    few-fit None f =
        let n = c.b1 * c.b2 in
        let e : least (2 ^ n) (makes_sum c i v) ≡ 2 ^ n =
        least-none (2 ^ n) (makes_sum c i v) (λ y ly. not-true (makes_sum c i v y) (λ t.
        let b = both (few c.t (count_below n (bit y))) (eqb (window_sum c i (bit y)) v) t in
        f (bit y) (few-most c.t (count_below n (bit y)) pos b.0) (eqb-true (window_sum c i (bit y)) v b.1))) in
        rw (e, le-ltb (2 ^ n) (2 ^ n) (omega arith))

-- ---- what the fit says of the window

module _ (c : Code) (i v : ℕ) where
  abbrev makes : ℕ → Bool
  makes = makes_sum c i v

  pub fit-sum : (x : ℕ) → first_fit c i v ≡ Some x → (few c.t (count_below (c.b1 * c.b2) (bit x)) ≡ true) × (window_sum c i (bit x) ≡ v)
  unfolding first_fit makes_sum
  fit-sum x e = go (ltb (least (patterns c) makes) (patterns c)) refl e
    where
      go : (t : Bool) → ltb (least (patterns c) makes) (patterns c) ≡ t → cond t (Some (least (patterns c) makes)) None ≡ Some x
          → (few c.t (count_below (c.b1 * c.b2) (bit x)) ≡ true) × (window_sum c i (bit x) ≡ v)
      go true b q =
          let y : least (patterns c) makes ≡ x = cc in
          let m = both (few c.t (count_below (c.b1 * c.b2) (bit x))) (eqb (window_sum c i (bit x)) v)
          (rw y at (least-found (patterns c) makes (ltb-true (least (patterns c) makes) (patterns c) b))) in
          (m.0, eqb-true (window_sum c i (bit x)) v m.1)
      go false b q = let z : ◌≡◌ {A = ℕ} 0 1 = cc in absurd (omega arith)

  pub fit_none : first_fit c i v ≡ None → (m : ℕ → Bool) → few c.t (count_below (c.b1 * c.b2) m) ≡ true → window_sum c i m ≡ v → ⊥
  unfolding first_fit makes_sum patterns
  fit_none e m u q =
      let n = c.b1 * c.b2 in
      let x = number_of n m in
      let w : window_sum c i (bit x) ≡ window_sum c i m =
      (unfold window_sum in
      sum-equal n (λ k. pick (bit x k) (entry_at c i k)) (λ k. pick (m k) (entry_at c i k))
      (λ k l. ap (λ (b : Bool). pick b (entry_at c i k)) (bit-number n m k l))) in
      let k : few c.t (count_below n (bit x)) ≡ true = ap (few c.t) (count-equal n (bit x) m (bit-number n m)) ∙ u in
      let l : least (2 ^ n) makes ≤ x = least-most (2 ^ n) makes x (and_both _ _ k (eq-eqb (window_sum c i (bit x)) v (w ∙ q))) in
      let u : x < 2 ^ n = number-below n m in
      let b : ltb (least (2 ^ n) makes) (2 ^ n) ≡ true = lt-ltb (least (2 ^ n) makes) (2 ^ n) (omega arith) in
      let r = rw b at e in
      let z : ◌≡◌ {A = ℕ} 0 1 = cc in
      omega arith
