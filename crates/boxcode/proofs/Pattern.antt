-- Patterns: a set of cells in a window of rows and a strip of columns, by remainders of its columns and rows.
--
--   pattern_of       its cells by row and by the remainder of the column, as positions of the row table
--   SamePattern     two sets have the same pattern
--   member_cell      its cells by the remainders of the column and of the row, as members of two strips
--   strip-weight, box-weight   its sum, over any weight, by the remainders of the columns; of the rows too
--   pattern-at, same_at, cell-home, cell-member   its cells, in its pattern and among its members
--   row-pattern     its V sum, over its pattern
--   column-members  its H sum, over its members
--   pattern-count, member-count   neither has more places than the set has cells
--   InWindow, pattern-window, pattern-few, burst-row   the pattern of a burst is in its window, has few places as the burst has few cells, and has its V sum
--
-- Assumes nothing.
use mathlib.Core.Path.{◌≡◌, sym, ap, ap₂, ◌∙◌}
use mathlib.Core.Bool.{Bool, true, false}
use Prim.Native.Nat.{ℕ, ◌+◌, ◌*◌, ◌/◌, ◌%◌, ◌≤◌, ◌<◌}
use native.Mathlib.Nat.{mod-lt, div-lt_iff_lt-mul, div-add-mod'}
use native.Mathlib.Omega.{arith}
use lib.Arith.{digits_lt, digits_div, digits_mod}
use Rattle.gf2.specs.Xor.{pick}
use Rattle.gf2.specs.Sum.{xor_sum, chosen_sum}
use Rattle.gf2.proofs.Sum.{sum-equal, sum-exchange, sum-blocks}
use Rattle.finite.specs.Search.{within, place, few, count_below}
use Rattle.boxcode.specs.Code.{Code, Formed, row_weight, column_weight}
use Rattle.boxcode.specs.Condition.{strip_entry}
use Rattle.boxcode.specs.Syndrome.{Cells, weight_sum, row_syndrome, column_syndrome}
use Rattle.boxcode.specs.Burst.{Inside, Burst, cell_count}
use Rattle.finite.proofs.Truth.{not-true, in_within}
use Rattle.finite.proofs.Count.{few-less}
use Rattle.finite.proofs.Digits.{place-to, place-mod, place_is}
use Rattle.boxcode.proofs.Image.{strip-sum, unpicked, count-injects}
use Rattle.boxcode.proofs.Cells.{cells-flat}

-- position k of the row table stands for row k / b2 and remainder k % b2
unfoldable pub pattern_of : Code → ℕ → Cells → ℕ → Bool
pattern_of c left e k = e (k / c.b2) (place c.b2 left (k % c.b2))

-- member x of two strips stands for the remainder x / b1 of the column and x % b1 of the row
unfoldable pub member_cell : Code → ℕ → ℕ → Cells → ℕ → Bool
member_cell c top left e x = e (place c.b1 top (x % c.b1)) (place c.b2 left (x / c.b1))

abbrev pub SamePattern : Code → ℕ → Cells → ℕ → Cells → Type 0
SamePattern c left e left' e' = (k : ℕ) → k < c.n1 * c.b2 → pattern_of c left e k ≡ pattern_of c left' e' k

-- every position of a pattern is in a row of the window
abbrev pub InWindow : Code → ℕ → (ℕ → Bool) → Type 0
InWindow c top p = (k : ℕ) → p k ≡ true → within top c.b1 (k / c.b2) ≡ true

-- ---- sums by remainders, over any weight

-- what a cell adds
abbrev pub weighed : (ℕ → ℕ → ℕ) → Cells → ℕ → ℕ → ℕ
weighed w e i j = pick (e i j) (w i j)

module _ (n m top left height width : ℕ) (hp : 0 < height) (wp : 0 < width) (rows : top + height ≤ n) (columns : left + width ≤ m)
    (w : ℕ → ℕ → ℕ) (e : Cells) (on : Inside top left height width e) where
  pub strip-weight : weight_sum n m w e ≡ xor_sum n (λ i. xor_sum width (λ r. weighed w e i (place width left r)))
  unfolding weight_sum
  strip-weight =
      sum-equal n (λ i. xor_sum m (weighed w e i)) (λ i. xor_sum width (λ r. weighed w e i (place width left r)))
      (λ i l. strip-sum m width left wp columns (weighed w e i) (λ j h. unpicked (e i j) (w i j) (off i j h)))
    where
      off : (i j : ℕ) → (left ≤ j → j < left + width → ⊥) → e i j ≡ false
      off i j h = not-true (e i j) (λ t. h (on.column_from i j t) (on.column_to i j t))

  pub box-weight : weight_sum n m w e ≡ xor_sum width (λ r. xor_sum height (λ q. weighed w e (place height top q) (place width left r)))
  box-weight =
      strip-weight
      ∙ sum-exchange n width (λ i r. weighed w e i (column r))
      ∙ sum-equal width (λ r. xor_sum n (λ i. weighed w e i (column r))) (λ r. xor_sum height (λ q. weighed w e (place height top q) (column r)))
      (λ r l. strip-sum n height top hp rows (λ i. weighed w e i (column r)) (λ i h. unpicked (e i (column r)) (w i (column r)) (off i (column r) h)))
    where
      column : ℕ → ℕ
      column r = place width left r

      off : (i j : ℕ) → (top ≤ i → i < top + height → ⊥) → e i j ≡ false
      off i j h = not-true (e i j) (λ t. h (on.row_from i j t) (on.row_to i j t))

-- a number is its quotient and its remainder
pub one_number : (b k l : ℕ) → k / b ≡ l / b → k % b ≡ l % b → k ≡ l
one_number b k l q r = sym (div-add-mod' k b) ∙ ap₂ (λ (x y : ℕ). x * b + y) q r ∙ div-add-mod' l b

-- ---- patterns under a code

module _ (c : Code) (F : Formed c) where
  pub pattern-at : (left : ℕ) (e : Cells) (i r : ℕ) → r < c.b2 → pattern_of c left e (i * c.b2 + r) ≡ e i (place c.b2 left r)
  unfolding pattern_of
  pattern-at left e i r l = ap₂ (λ (x y : ℕ). e x (place c.b2 left y)) (digits_div i l) (digits_mod i l)

  -- two sets with the same pattern, at one row and remainder
  pub same_at : (left left' : ℕ) (e e' : Cells) → SamePattern c left e left' e' → (i r : ℕ) → i < c.n1 → r < c.b2
      → e i (place c.b2 left r) ≡ e' i (place c.b2 left' r)
  same_at left left' e e' same i r li lr =
      sym (pattern-at left e i r lr) ∙ same (i * c.b2 + r) (digits_lt li lr) ∙ pattern-at left' e' i r lr

  module _ (top left : ℕ) (rows : top + c.b1 ≤ c.n1) (columns : left + c.b2 ≤ c.n2) (e : Cells) (on : Inside top left c.b1 c.b2 e) where
    pub row-pattern : row_syndrome c e ≡ chosen_sum (c.n1 * c.b2) (pattern_of c left e) c.row_entry
    unfolding row_syndrome row_weight
    row-pattern =
        strip-weight c.n1 c.n2 top left c.b1 c.b2 F.b1_pos F.b2_pos rows columns (row_weight c) e on
        ∙ sum-equal c.n1 (λ i. xor_sum c.b2 (λ r. weighed (row_weight c) e i (place c.b2 left r))) (λ i. xor_sum c.b2 (λ r. at (i * c.b2 + r)))
        (λ i l. sum-equal c.b2 (λ r. weighed (row_weight c) e i (place c.b2 left r)) (λ r. at (i * c.b2 + r)) (cell i))
        ∙ sym (sum-blocks c.n1 c.b2 at)
      where
        at : ℕ → ℕ
        at k = pick (pattern_of c left e k) (c.row_entry k)

        cell : (i r : ℕ) → r < c.b2 → weighed (row_weight c) e i (place c.b2 left r) ≡ at (i * c.b2 + r)
        cell i r l =
            ap₂ (λ (b : Bool) (x : ℕ). pick b (c.row_entry (i * c.b2 + x)))
            (sym (pattern-at left e i r l)) (place-mod c.b2 left F.b2_pos r l)

    pub column-members : column_syndrome c e ≡ chosen_sum (c.b2 * c.b1) (member_cell c top left e) (strip_entry c left)
    unfolding column_syndrome column_weight strip_entry member_cell
    column-members =
        box-weight c.n1 c.n2 top left c.b1 c.b2 F.b1_pos F.b2_pos rows columns (column_weight c) e on
        ∙ sum-equal c.b2 (λ r. xor_sum c.b1 (λ q. weighed (column_weight c) e (row q) (column r))) (λ r. xor_sum c.b1 (λ q. at (r * c.b1 + q)))
        (λ r l. sum-equal c.b1 (λ q. weighed (column_weight c) e (row q) (column r)) (λ q. at (r * c.b1 + q)) (cell r))
        ∙ sym (sum-blocks c.b2 c.b1 at)
      where
        row : ℕ → ℕ
        row q = place c.b1 top q

        column : ℕ → ℕ
        column r = place c.b2 left r

        member : ℕ → ℕ → ℕ
        member r q = pick (e (row q) (column r)) (c.column_entry (column r * c.b1 + q))

        at : ℕ → ℕ
        at x = member (x / c.b1) (x % c.b1)

        cell : (r q : ℕ) → q < c.b1 → weighed (column_weight c) e (row q) (column r) ≡ at (r * c.b1 + q)
        cell r q l =
            ap (λ (x : ℕ). pick (e (row q) (column r)) (c.column_entry (column r * c.b1 + x))) (place-mod c.b1 top F.b1_pos q l)
            ∙ sym (ap₂ member (digits_div r l) (digits_mod r l))

    -- a cell is the one of its pattern, and of its members
    pub cell-home : (i j : ℕ) → e i j ≡ true → place c.b2 left (j % c.b2) ≡ j
    cell-home i j t = place_is c.b2 left F.b2_pos j (on.column_from i j t) (on.column_to i j t)

    pub cell-member : (i j : ℕ) → e i j ≡ true → member_cell c top left e (j % c.b2 * c.b1 + i % c.b1) ≡ true
    unfolding member_cell
    cell-member i j t =
        ap₂ (λ (y z : ℕ). e (place c.b1 top y) (place c.b2 left z)) (digits_mod (j % c.b2) (mod-lt i F.b1_pos))
        (digits_div (j % c.b2) (mod-lt i F.b1_pos))
        ∙ ap₂ e (place_is c.b1 top F.b1_pos i (on.row_from i j t) (on.row_to i j t)) (cell-home i j t) ∙ t

  -- ---- how many

  -- a cell by its number, of two numbers with the same row and column
  one_cell : (i i' j j' : ℕ) → j < c.n2 → j' < c.n2 → i * c.n2 + j ≡ i' * c.n2 + j' → (i ≡ i') × (j ≡ j')
  one_cell i i' j j' l l' e = (
    sym (digits_div i l) ∙ ap (λ (t : ℕ). t / c.n2) e ∙ digits_div i' l',
    sym (digits_mod i l) ∙ ap (λ (t : ℕ). t % c.n2) e ∙ digits_mod i' l',
  )

  module _ (left : ℕ) (columns : left + c.b2 ≤ c.n2) (e : Cells) where
    column-on : (r : ℕ) → place c.b2 left r < c.n2
    column-on r = omega (arith, place-to c.b2 left F.b2_pos r)

    column-one : (r r' : ℕ) → r < c.b2 → r' < c.b2 → place c.b2 left r ≡ place c.b2 left r' → r ≡ r'
    column-one r r' l l' e = sym (place-mod c.b2 left F.b2_pos r l) ∙ ap (λ (x : ℕ). x % c.b2) e ∙ place-mod c.b2 left F.b2_pos r' l'

    pub pattern-count : count_below (c.n1 * c.b2) (pattern_of c left e) ≤ cell_count c.n1 c.n2 e
    unfolding pattern_of
    pattern-count =
        let flat = cells-flat c.n1 c.n2 e in
        let l : count_below (c.n1 * c.b2) (pattern_of c left e) ≤ count_below (c.n1 * c.n2) (λ t. e (t / c.n2) (t % c.n2)) =
        count-injects (c.n1 * c.b2) (c.n1 * c.n2) (pattern_of c left e) (λ t. e (t / c.n2) (t % c.n2))
        (λ k. k / c.b2 * c.n2 + place c.b2 left (k % c.b2))
        (λ k l t. (
          digits_lt ((div-lt_iff_lt-mul F.b2_pos).1 l) (column-on (k % c.b2)),
          ap₂ e (digits_div (k / c.b2) (column-on (k % c.b2))) (digits_mod (k / c.b2) (column-on (k % c.b2))) ∙ t,
        ))
        (λ k l lk ll tk tl q.
        let p = one_cell (k / c.b2) (l / c.b2) (place c.b2 left (k % c.b2)) (place c.b2 left (l % c.b2)) (column-on (k % c.b2))
        (column-on (l % c.b2)) q in
        one_number c.b2 k l p.0 (column-one (k % c.b2) (l % c.b2) (mod-lt k F.b2_pos) (mod-lt l F.b2_pos) p.1)) in
        omega arith

    module _ (top : ℕ) (rows : top + c.b1 ≤ c.n1) where
      row_on : (r : ℕ) → place c.b1 top r < c.n1
      row_on r = omega (arith, place-to c.b1 top F.b1_pos r)

      row_one : (r r' : ℕ) → r < c.b1 → r' < c.b1 → place c.b1 top r ≡ place c.b1 top r' → r ≡ r'
      row_one r r' l l' e = sym (place-mod c.b1 top F.b1_pos r l) ∙ ap (λ (x : ℕ). x % c.b1) e ∙ place-mod c.b1 top F.b1_pos r' l'

      pub member-count : count_below (c.b2 * c.b1) (member_cell c top left e) ≤ cell_count c.n1 c.n2 e
      unfolding member_cell
      member-count =
          let flat = cells-flat c.n1 c.n2 e in
          let l : count_below (c.b2 * c.b1) (member_cell c top left e) ≤ count_below (c.n1 * c.n2) (λ t. e (t / c.n2) (t % c.n2)) =
          count-injects (c.b2 * c.b1) (c.n1 * c.n2) (member_cell c top left e) (λ t. e (t / c.n2) (t % c.n2))
          (λ x. place c.b1 top (x % c.b1) * c.n2 + place c.b2 left (x / c.b1))
          (λ x l t. (
            digits_lt (row_on (x % c.b1)) (column-on (x / c.b1)),
            ap₂ e (digits_div (place c.b1 top (x % c.b1)) (column-on (x / c.b1))) (digits_mod (place c.b1 top (x % c.b1)) (column-on (x / c.b1))) ∙ t,
          ))
          (λ x y lx ly tx ty q.
          let p = one_cell (place c.b1 top (x % c.b1)) (place c.b1 top (y % c.b1)) (place c.b2 left (x / c.b1)) (place c.b2 left (y / c.b1))
          (column-on (x / c.b1)) (column-on (y / c.b1)) q in
          one_number c.b1 x y
          (column-one (x / c.b1) (y / c.b1) ((div-lt_iff_lt-mul F.b1_pos).1 lx) ((div-lt_iff_lt-mul F.b1_pos).1 ly) p.1)
          (row_one (x % c.b1) (y % c.b1) (mod-lt x F.b1_pos) (mod-lt y F.b1_pos) p.0)) in
          omega arith

  -- the pattern of a burst is in its window, and has its V sum
  pub pattern-window : (e : Cells) (B : Burst c e) → InWindow c B.top (pattern_of c B.left e)
  unfolding pattern_of
  pattern-window e B k t =
      let i = k / c.b2 in
      let j = place c.b2 B.left (k % c.b2) in
      in_within B.top c.b1 i (B.inside.row_from i j t) (B.inside.row_to i j t)

  pub pattern-few : (e : Cells) (B : Burst c e) → few c.t (count_below (c.n1 * c.b2) (pattern_of c B.left e)) ≡ true
  pattern-few e B =
      few-less c.t (count_below (c.n1 * c.b2) (pattern_of c B.left e)) (cell_count c.n1 c.n2 e)
      (pattern-count B.left B.columns_on e) B.sparse

  pub burst-row : (e : Cells) (B : Burst c e) → row_syndrome c e ≡ chosen_sum (c.n1 * c.b2) (pattern_of c B.left e) c.row_entry
  burst-row e B = row-pattern B.top B.left B.rows_on B.columns_on e B.inside
