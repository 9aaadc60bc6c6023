-- Patterns laid on strips: what a search by windows and then by strips rests on.
--
--   laid, laid-at   the cells of a pattern on the strip at a column
--   laid-inside, laid-burst   a pattern in a window, laid on a strip of the sheet, is a burst
--   laid-pattern, laid-back   the pattern of a laid pattern; a burst is its pattern, laid
--   laid-row                  the V sum of a laid pattern does not depend on the strip
--   none_found      where no window has a pattern with the V sum, there is no burst
--   strip-found     a strip on which a pattern has the H sum gives a burst with both sums
--   pattern-only, found-strip   under separation one pattern with the V sum decides: only its strips need be tried
--
-- Assumes nothing.
use mathlib.Core.Path.{◌≡◌, sym, ap, ap₂, ◌∙◌}
use mathlib.Core.Bool.{Bool, true, false, ◌&&◌}
use Prim.Native.Nat.{ℕ, ◌+◌, ◌*◌, ◌/◌, ◌%◌, ◌≤◌, ◌<◌}
use native.Mathlib.Nat.{mod-lt, div-add-mod', div-lt_iff_lt-mul}
use native.Mathlib.Omega.{arith}
use lib.Arith.{digits_lt, digits_div, digits_mod}
use Rattle.gf2.specs.Xor.{pick}
use Rattle.gf2.specs.Sum.{chosen_sum}
use Rattle.gf2.proofs.Sum.{sum-equal}
use Rattle.finite.specs.Search.{within, place, few, count_below}
use Rattle.boxcode.specs.Code.{Code, Formed}
use Rattle.boxcode.specs.Syndrome.{Cells, row_syndrome, column_syndrome, SameCells}
use Rattle.boxcode.specs.Burst.{Inside, Burst, cell_count, has_burst, burst_for}
use Rattle.finite.proofs.Truth.{same_truth, not-true, and_left, and_right, and_both, within-from, within-to, in_within}
use Rattle.finite.proofs.Digits.{place-from, place-to, place-mod, place_is, place-unique}
use Rattle.finite.proofs.Count.{few-less}
use Rattle.boxcode.proofs.Image.{count-injects}
use Rattle.boxcode.proofs.Cells.{cells-flat}
use Rattle.boxcode.proofs.Syndrome.{column-cells}
use Rattle.boxcode.proofs.Pattern.{InWindow, pattern-window, pattern-few, one_number, burst-row, pattern_of, pattern-at, row-pattern}
use Rattle.boxcode.proofs.Separated.{Separated}
use Rattle.boxcode.proofs.Trial.{BurstWith, found}

unfoldable pub laid : Code → (ℕ → Bool) → ℕ → Cells
laid c p a i j = within a c.b2 j && p (i * c.b2 + j % c.b2)

module _ (c : Code) (F : Formed c) where
  -- a cell of the strip, by its row and remainder
  pub laid-at : (p : ℕ → Bool) (a i r : ℕ) → r < c.b2 → laid c p a i (place c.b2 a r) ≡ p (i * c.b2 + r)
  unfolding laid
  laid-at p a i r l =
      ap₂ (λ (b : Bool) (x : ℕ). b && p (i * c.b2 + x))
      (in_within a c.b2 (place c.b2 a r) (place-from c.b2 a F.b2_pos r) (place-to c.b2 a F.b2_pos r))
      (place-mod c.b2 a F.b2_pos r l)

  pub laid-pattern : (p : ℕ → Bool) (a k : ℕ) → pattern_of c a (laid c p a) k ≡ p k
  unfolding pattern_of
  laid-pattern p a k = laid-at p a (k / c.b2) (k % c.b2) (mod-lt k F.b2_pos) ∙ ap p (div-add-mod' k c.b2)

  -- a burst is its pattern, laid
  pub laid-back : (e : Cells) (B : Burst c e) (p : ℕ → Bool) → ((k : ℕ) → k < c.n1 * c.b2 → pattern_of c B.left e k ≡ p k)
      → SameCells c (laid c p B.left) e
  unfolding laid
  laid-back e B p same i j li lj =
      same_truth (within B.left c.b2 j && p (i * c.b2 + j % c.b2)) (e i j)
      (λ t.
      let w = and_left (within B.left c.b2 j) (p (i * c.b2 + j % c.b2)) t in
      sym (cell (within-from B.left c.b2 j w) (within-to B.left c.b2 j w))
      ∙ and_right (within B.left c.b2 j) (p (i * c.b2 + j % c.b2)) t)
      (λ t.
      let from = B.inside.column_from i j t in
      let to = B.inside.column_to i j t in
      and_both (within B.left c.b2 j) (p (i * c.b2 + j % c.b2)) (in_within B.left c.b2 j from to) (cell from to ∙ t))
    where
      cell : B.left ≤ j → j < B.left + c.b2 → p (i * c.b2 + j % c.b2) ≡ e i j
      cell from to =
          sym (same (i * c.b2 + j % c.b2) (digits_lt li (mod-lt j F.b2_pos)))
          ∙ pattern-at c F B.left e i (j % c.b2) (mod-lt j F.b2_pos)
          ∙ ap (e i) (place_is c.b2 B.left F.b2_pos j from to)

  -- where no window has a pattern with the V sum, there is no burst
  pub none_found : (v h : ℕ)
      → ((top : ℕ) (p : ℕ → Bool) → top + c.b1 ≤ c.n1 → InWindow c top p → few c.t (count_below (c.n1 * c.b2) p) ≡ true
      → chosen_sum (c.n1 * c.b2) p c.row_entry ≡ v → ⊥)
      → has_burst c v h ≡ false
  none_found v h none =
      not-true (has_burst c v h)
      (λ t.
      let f = found c F v h t in
      let B = f.burst in
      none B.top (pattern_of c B.left (burst_for c v h)) B.rows_on (pattern-window c F (burst_for c v h) B)
      (pattern-few c F (burst_for c v h) B) (sym (burst-row c F (burst_for c v h) B) ∙ f.row))

  pub laid-inside : (top a : ℕ) (p : ℕ → Bool) → InWindow c top p → Inside top a c.b1 c.b2 (laid c p a)
  unfolding laid
  laid-inside top a p w = record {
    row_from = λ i j t. within-from top c.b1 i (row i j t);
    row_to = λ i j t. within-to top c.b1 i (row i j t);
    column_from = λ i j t. within-from a c.b2 j (and_left (within a c.b2 j) (p (i * c.b2 + j % c.b2)) t);
    column_to = λ i j t. within-to a c.b2 j (and_left (within a c.b2 j) (p (i * c.b2 + j % c.b2)) t);
  }
    where
      row : (i j : ℕ) → laid c p a i j ≡ true → within top c.b1 i ≡ true
      row i j t =
          sym (ap (within top c.b1) (digits_div i (mod-lt j F.b2_pos)))
          ∙ w (i * c.b2 + j % c.b2) (and_right (within a c.b2 j) (p (i * c.b2 + j % c.b2)) t)

  -- it has no more cells than the pattern has places
  laid-count : (a : ℕ) (p : ℕ → Bool) → cell_count c.n1 c.n2 (laid c p a) ≤ count_below (c.n1 * c.b2) p
  unfolding laid
  laid-count a p =
      let flat = cells-flat c.n1 c.n2 (laid c p a) in
      let l : count_below (c.n1 * c.n2) (λ t. laid c p a (t / c.n2) (t % c.n2)) ≤ count_below (c.n1 * c.b2) p =
      count-injects (c.n1 * c.n2) (c.n1 * c.b2) (λ t. laid c p a (t / c.n2) (t % c.n2)) p (λ t. t / c.n2 * c.b2 + t % c.n2 % c.b2)
      (λ t l e. (
        digits_lt ((div-lt_iff_lt-mul columns-pos).1 l) (mod-lt (t % c.n2) F.b2_pos),
        and_right (within a c.b2 (t % c.n2)) (p (t / c.n2 * c.b2 + t % c.n2 % c.b2)) e,
      ))
      (λ t u lt lu et eu q. one_number c.n2 t u
      (sym (digits_div (t / c.n2) (mod-lt (t % c.n2) F.b2_pos)) ∙ ap (λ (k : ℕ). k / c.b2) q ∙ digits_div (u / c.n2) (mod-lt (u % c.n2) F.b2_pos))
      (place-unique c.b2 a F.b2_pos (t % c.n2) (u % c.n2) (from t et) (to t et) (from u eu) (to u eu)
      (sym (digits_mod (t / c.n2) (mod-lt (t % c.n2) F.b2_pos)) ∙ ap (λ (k : ℕ). k % c.b2) q ∙ digits_mod (u / c.n2)
      (mod-lt (u % c.n2) F.b2_pos)))) in
      omega arith
    where
      columns-pos : 0 < c.n2
      columns-pos = omega (arith, F.b2_pos, F.n2_least)

      inside : (t : ℕ) → (within a c.b2 (t % c.n2) && p (t / c.n2 * c.b2 + t % c.n2 % c.b2)) ≡ true → within a c.b2 (t % c.n2) ≡ true
      inside t e = and_left (within a c.b2 (t % c.n2)) (p (t / c.n2 * c.b2 + t % c.n2 % c.b2)) e

      from : (t : ℕ) → (within a c.b2 (t % c.n2) && p (t / c.n2 * c.b2 + t % c.n2 % c.b2)) ≡ true → a ≤ t % c.n2
      from t e = within-from a c.b2 (t % c.n2) (inside t e)

      to : (t : ℕ) → (within a c.b2 (t % c.n2) && p (t / c.n2 * c.b2 + t % c.n2 % c.b2)) ≡ true → t % c.n2 < a + c.b2
      to t e = within-to a c.b2 (t % c.n2) (inside t e)

  -- a pattern in a window of the sheet
  module _ (top : ℕ) (p : ℕ → Bool) (w : InWindow c top p) (s : few c.t (count_below (c.n1 * c.b2) p) ≡ true) (rows : top + c.b1 ≤ c.n1) where
    pub laid-burst : (a : ℕ) → a + c.b2 ≤ c.n2 → Burst c (laid c p a)
    laid-burst a columns = record {
      top = top;
      left = a;
      rows_on = rows;
      columns_on = columns;
      inside = laid-inside top a p w;
      sparse = few-less c.t (cell_count c.n1 c.n2 (laid c p a)) (count_below (c.n1 * c.b2) p) (laid-count a p) s;
    }

    pub laid-row : (a : ℕ) → a + c.b2 ≤ c.n2 → row_syndrome c (laid c p a) ≡ chosen_sum (c.n1 * c.b2) p c.row_entry
    laid-row a columns =
        row-pattern c F top a rows columns (laid c p a) (laid-inside top a p w)
        ∙ sum-equal (c.n1 * c.b2) (λ k. pick (pattern_of c a (laid c p a) k) (c.row_entry k)) (λ k. pick (p k) (c.row_entry k))
        (λ k l. ap (λ (b : Bool). pick b (c.row_entry k)) (laid-pattern p a k))

    -- a strip on which the pattern has the H sum gives the burst
    pub strip-found : (a h : ℕ) → a + c.b2 ≤ c.n2 → column_syndrome c (laid c p a) ≡ h
        → BurstWith c (chosen_sum (c.n1 * c.b2) p c.row_entry) h (laid c p a)
    strip-found a h columns e = record { burst = laid-burst a columns; row = laid-row a columns; column = e }

    -- under separation no other pattern has its V sum
    pub pattern-only : Separated c → (e : Cells) (B : Burst c e) → row_syndrome c e ≡ chosen_sum (c.n1 * c.b2) p c.row_entry
        → (k : ℕ) → k < c.n1 * c.b2 → pattern_of c B.left e k ≡ p k
    unfolding laid-burst
    pattern-only S e B q k l =
        let on : 0 + c.b2 ≤ c.n2 = omega (arith, F.n2_least) in
        S.rows e (laid c p 0) B (laid-burst 0 on) (q ∙ sym (laid-row 0 on)) k l ∙ laid-pattern p 0 k

    -- so a burst with that V sum is this pattern on a strip
    pub found-strip : Separated c → (h : ℕ) → has_burst c (chosen_sum (c.n1 * c.b2) p c.row_entry) h ≡ true
        → (a : ℕ) × (a + c.b2 ≤ c.n2) × (column_syndrome c (laid c p a) ≡ h)
    found-strip S h t =
        let v = chosen_sum (c.n1 * c.b2) p c.row_entry in
        let e = burst_for c v h in
        let f = found c F v h t in
        let B = f.burst in (
          B.left,
          B.columns_on,
          column-cells c (laid c p B.left) e (laid-back e B p (pattern-only S e B f.row)) ∙ f.column,
        )
