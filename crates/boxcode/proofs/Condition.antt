-- The conditions of document 01 separate bursts:
--
--   member_apart, apart-member, member-together   which remainders are members of two strips
--   rows_apart, columns-apart   the conditions for any two windows and any two strips, whatever t: either order, and the same twice
--   separated                 a code that meets the conditions is separated
--
-- Assumes nothing.
use mathlib.Core.Path.{◌≡◌, sym, ap, ap₂, ◌∙◌}
use mathlib.Core.Bool.{Bool, true, false, ◌&&◌, not, xor}
use Prim.Native.Nat.{ℕ, ◌+◌, ◌*◌, ◌/◌, ◌%◌, ◌≤◌, ◌<◌}
use native.Mathlib.Nat.{mod-lt, div-lt_iff_lt-mul}
use native.Mathlib.Decide.{ℕ_discrete, dec_lt}
use native.Mathlib.Omega.{arith}
use lib.Dec.{eqb}
use lib.Arith.{digits_lt, digits_div}
use borrow.Author.Tests.{eqb-true, eq-eqb, ne_eqb, not-false}
use Rattle.gf2.specs.Xor.{◌⊕◌, pick}
use Rattle.gf2.specs.Sum.{chosen_sum}
use Rattle.gf2.specs.Independence.{Within}
use Rattle.gf2.proofs.Xor.{xor_comm, xor_self, pick-xor, pick-zero}
use Rattle.gf2.proofs.Sum.{sum-equal, sum-xor, chosen-differ}
use Rattle.finite.specs.Search.{place, few, count_below}
use Rattle.boxcode.specs.Code.{Code, Formed}
use Rattle.boxcode.specs.Condition.{Conditions, in_window, row_member, column_member, column_difference, strip_entry}
use Rattle.boxcode.specs.Syndrome.{Cells, row_syndrome, column_syndrome, SameCells}
use Rattle.boxcode.specs.Burst.{Inside, Burst, cell_count}
use Rattle.finite.proofs.Truth.{Truth, is_true, is_false, true-or-false, clash, not-true, same_truth, xor-equal, xor-cases, or_left}
use Rattle.finite.proofs.Truth.{or_right, and_left, and_right, and_both}
use Rattle.finite.proofs.Count.{few-most, few-less, count-more}
use Rattle.finite.proofs.Digits.{place-to, place_is}
use Rattle.boxcode.proofs.Image.{unpicked}
use Rattle.boxcode.proofs.Pattern.{pattern-window, burst-row, pattern_of, member_cell, SamePattern, same_at, column-members}
use Rattle.boxcode.proofs.Pattern.{cell-home, cell-member, pattern-few, member-count}
use Rattle.boxcode.proofs.Separated.{Separated}

-- the remainder of member x stands on one column in both strips: then it is no member, and its difference is 0
abbrev Together : Code → ℕ → ℕ → ℕ → Type 0
Together c a a' x = place c.b2 a (x / c.b1) ≡ place c.b2 a' (x / c.b1)

member_apart : (c : Code) (a a' x : ℕ) → column_member c a a' x ≡ true → Together c a a' x → ⊥
unfolding column_member
member_apart c a a' x t e = clash t (ap not (eq-eqb (place c.b2 a (x / c.b1)) (place c.b2 a' (x / c.b1)) e))

pub apart-member : (c : Code) (a a' x : ℕ) → (Together c a a' x → ⊥) → column_member c a a' x ≡ true
unfolding column_member
apart-member c a a' x h = ap not (ne_eqb (place c.b2 a (x / c.b1)) (place c.b2 a' (x / c.b1)) h)

member-together : (c : Code) (a a' x : ℕ) → column_member c a a' x ≡ false → Together c a a' x
unfolding column_member
member-together c a a' x t =
    let y = place c.b2 a (x / c.b1) in
    let y' = place c.b2 a' (x / c.b1) in
    eqb-true y y' (not-false (eqb y y') t)

together-none : (c : Code) (a a' x : ℕ) → Together c a a' x → strip_entry c a x ⊕ strip_entry c a' x ≡ 0
unfolding strip_entry
together-none c a a' x e =
    ap (λ (y : ℕ). c.column_entry (y * c.b1 + x % c.b1) ⊕ strip_entry c a' x) e ∙ xor_self (strip_entry c a' x)

-- a choice that is at most t, where t is not 0
abbrev Few : Code → ℕ → (ℕ → Bool) → Type 0
Few c n m = few c.t (count_below n m) ≡ true

module _ (c : Code) (K : Conditions c) where
  rows-forward : (i i' : ℕ) → i ≤ i' → i' + c.b1 ≤ c.n1 → (m m' : ℕ → Bool) → Within m (in_window c i) → Within m' (in_window c i')
      → Few c (c.n1 * c.b2) m → Few c (c.n1 * c.b2) m' → chosen_sum (c.n1 * c.b2) m c.row_entry ≡ chosen_sum (c.n1 * c.b2) m' c.row_entry
      → (k : ℕ) → k < c.n1 * c.b2 → m k ≡ m' k
  unfolding row_member
  rows-forward i i' l f m m' w w' u u' s k lk = go (ℕ_discrete c.t 0)
    where
      go : Dec (c.t ≡ 0) → m k ≡ m' k
      go (yes z) =
          xor-equal (m k) (m' k)
          (K.rows z i i' l f (λ k. xor (m k) (m' k))
          (λ k t. xor-cases (m k) (m' k) t (λ a. or_left (in_window c i k) (in_window c i' k) (w k a))
          (λ a. or_right (in_window c i k) (in_window c i' k) (w' k a)))
          (chosen-differ (c.n1 * c.b2) m m' c.row_entry ∙ ap (λ (x : ℕ). x ⊕ chosen_sum (c.n1 * c.b2) m' c.row_entry) s
          ∙ xor_self (chosen_sum (c.n1 * c.b2) m' c.row_entry))
          k lk)
      go (no z) =
          let pos : 1 ≤ c.t = omega arith in
          K.sparse_rows pos i i' l f m m' w w' (few-most c.t (count_below (c.n1 * c.b2) m) pos u)
          (few-most c.t (count_below (c.n1 * c.b2) m') pos u') s k lk

  -- for any two windows, in either order
  pub rows_apart : (i i' : ℕ) → i + c.b1 ≤ c.n1 → i' + c.b1 ≤ c.n1 → (m m' : ℕ → Bool) → Within m (in_window c i) → Within m' (in_window c i')
      → Few c (c.n1 * c.b2) m → Few c (c.n1 * c.b2) m' → chosen_sum (c.n1 * c.b2) m c.row_entry ≡ chosen_sum (c.n1 * c.b2) m' c.row_entry
      → (k : ℕ) → k < c.n1 * c.b2 → m k ≡ m' k
  rows_apart i i' f f' m m' w w' u u' s k l = go (dec_lt i' i)
    where
      go : Dec (i' < i) → m k ≡ m' k
      go (yes o) = sym (rows-forward i' i (omega arith) f m' m w' w u' u (sym s) k l)
      go (no o) = rows-forward i i' (omega arith) f' m m' w w' u u' s k l

  columns-forward : (a a' : ℕ) → a < a' → a' + c.b2 ≤ c.n2 → (m : ℕ → Bool) → Within m (column_member c a a') → Few c (c.b2 * c.b1) m
      → chosen_sum (c.b2 * c.b1) m (column_difference c a a') ≡ 0 → (x : ℕ) → x < c.b2 * c.b1 → m x ≡ false
  columns-forward a a' l f m w u s x lx = go (ℕ_discrete c.t 0)
    where
      go : Dec (c.t ≡ 0) → m x ≡ false
      go (yes z) = K.columns z a a' l f m w s x lx
      go (no z) = let pos : 1 ≤ c.t = omega arith in K.sparse_columns pos a a' l f m w (few-most c.t (count_below (c.b2 * c.b1) m) pos u) s x lx

  -- for any two strips; of the same strip twice nothing is a member
  pub columns-apart : (a a' : ℕ) → a + c.b2 ≤ c.n2 → a' + c.b2 ≤ c.n2 → (m : ℕ → Bool) → Within m (column_member c a a') → Few c (c.b2 * c.b1) m
      → chosen_sum (c.b2 * c.b1) m (column_difference c a a') ≡ 0 → (x : ℕ) → x < c.b2 * c.b1 → m x ≡ false
  unfolding column_difference
  columns-apart a a' f f' m w u z x lx = go (dec_lt a a') (dec_lt a' a)
    where
      go : Dec (a < a') → Dec (a' < a) → m x ≡ false
      go (yes l) d = columns-forward a a' l f' m w u z x lx
      go (no l) (yes l') =
          columns-forward a' a l' f m
          (λ x e. apart-member c a' a x (λ q. member_apart c a a' x (w x e) (sym q))) u
          (sum-equal (c.b2 * c.b1) (λ x. pick (m x) (column_difference c a' a x)) (λ x. pick (m x) (column_difference c a a' x))
          (λ x lx. ap (pick (m x)) (xor_comm (strip_entry c a' x) (strip_entry c a x)))
          ∙ z)
          x lx
      go (no l) (no l') =
          let q : a ≡ a' = omega arith in
          not-true (m x) (λ t. member_apart c a a' x (w x t) (ap (λ (b : ℕ). place c.b2 b (x / c.b1)) q))

module _ (c : Code) (F : Formed c) (K : Conditions c) where
  rows-separate : (e e' : Cells) (B : Burst c e) (B' : Burst c e') → row_syndrome c e ≡ row_syndrome c e' → SamePattern c B.left e B'.left e'
  unfolding pattern_of
  rows-separate e e' B B' q =
      rows_apart c K B.top B'.top B.rows_on B'.rows_on (pattern_of c B.left e) (pattern_of c B'.left e')
      (pattern-window c F e B) (pattern-window c F e' B') (pattern-few c F e B) (pattern-few c F e' B')
      (sym (burst-row c F e B) ∙ q ∙ burst-row c F e' B')

  -- of two sets in one window, with the same pattern and equal H sums, every cell of one is a cell of the other
  module _ (top a a' : ℕ) (e e' : Cells) (on : Inside top a c.b1 c.b2 e) (on' : Inside top a' c.b1 c.b2 e')
      (f : top + c.b1 ≤ c.n1) (g : a + c.b2 ≤ c.n2) (g' : a' + c.b2 ≤ c.n2)
      (same : SamePattern c a e a' e') (q : column_syndrome c e ≡ column_syndrome c e') (u : few c.t (cell_count c.n1 c.n2 e) ≡ true) where
    member-same : (x : ℕ) → x < c.b2 * c.b1 → member_cell c top a e x ≡ member_cell c top a' e' x
    unfolding member_cell
    member-same x l =
        let t : place c.b1 top (x % c.b1) < top + c.b1 = place-to c.b1 top F.b1_pos (x % c.b1) in
        same_at c F a a' e e' same (place c.b1 top (x % c.b1)) (x / c.b1) (omega arith) ((div-lt_iff_lt-mul F.b1_pos).1 l)

    none : chosen_sum (c.b2 * c.b1) (λ x. column_member c a a' x && member_cell c top a e x) (column_difference c a a') ≡ 0
    unfolding column_difference
    none =
        sum-equal (c.b2 * c.b1) (λ x. pick (column_member c a a' x && m x) (column_difference c a a' x))
        (λ x. pick (m x) (strip_entry c a x) ⊕ pick (m x) (strip_entry c a' x))
        (λ x l. part x (true-or-false (column_member c a a' x)) ∙ pick-xor (m x) (strip_entry c a x) (strip_entry c a' x))
        ∙ sum-xor (c.b2 * c.b1) (λ x. pick (m x) (strip_entry c a x)) (λ x. pick (m x) (strip_entry c a' x))
        ∙ ap₂ ◌⊕◌ (sym (column-members c F top a f g e on) ∙ q)
        (sum-equal (c.b2 * c.b1) (λ x. pick (m x) (strip_entry c a' x)) (λ x. pick (member_cell c top a' e' x) (strip_entry c a' x))
        (λ x l. ap (λ (b : Bool). pick b (strip_entry c a' x)) (member-same x l))
        ∙ sym (column-members c F top a' f g' e' on'))
        ∙ xor_self (column_syndrome c e')
      where
        m : ℕ → Bool
        m = member_cell c top a e

        part : (x : ℕ) → Truth (column_member c a a' x)
            → pick (column_member c a a' x && m x) (column_difference c a a' x) ≡ pick (m x) (strip_entry c a x ⊕ strip_entry c a' x)
        part x (is_true t) = ap (λ (b : Bool). pick (b && m x) (column_difference c a a' x)) t
        part x (is_false t) =
            unpicked (column_member c a a' x && m x) (column_difference c a a' x) (ap (λ (b : Bool). b && m x) t)
            ∙ sym (ap (pick (m x)) (together-none c a a' x (member-together c a a' x t)) ∙ pick-zero (m x))

    fewer : Few c (c.b2 * c.b1) (λ x. column_member c a a' x && member_cell c top a e x)
    fewer =
        let l : count_below (c.b2 * c.b1) (λ x. column_member c a a' x && member_cell c top a e x) ≤ count_below (c.b2 * c.b1) (member_cell c top a e) =
        count-more (c.b2 * c.b1) (λ x. column_member c a a' x && member_cell c top a e x) (member_cell c top a e)
        (λ x lx. and_right (column_member c a a' x) (member_cell c top a e x)) in
        few-less c.t (count_below (c.b2 * c.b1) (λ x. column_member c a a' x && member_cell c top a e x)) (cell_count c.n1 c.n2 e)
        (omega (arith, member-count c F a g e top f)) u

    cell_stays : (i j : ℕ) → e i j ≡ true → e' i j ≡ true
    cell_stays i j t =
        let u : i < top + c.b1 = on.row_to i j t in
        ap (e' i) (sym home ∙ stays) ∙ sym (same_at c F a a' e e' same i (j % c.b2) (omega arith) (mod-lt j F.b2_pos)) ∙ ap (e i) home ∙ t
      where
        x : ℕ
        x = j % c.b2 * c.b1 + i % c.b1

        qx : x / c.b1 ≡ j % c.b2
        qx = digits_div (j % c.b2) (mod-lt i F.b1_pos)

        home : place c.b2 a (j % c.b2) ≡ j
        home = cell-home c F top a f g e on i j t

        chosen : (column_member c a a' x && member_cell c top a e x) ≡ false
        chosen =
            columns-apart c K a a' g g' (λ x. column_member c a a' x && member_cell c top a e x)
            (λ x. and_left (column_member c a a' x) (member_cell c top a e x)) fewer none
            x (digits_lt (mod-lt j F.b2_pos) (mod-lt i F.b1_pos))

        no_member : column_member c a a' x ≡ false
        no_member =
            not-true (column_member c a a' x)
            (λ u. clash (and_both (column_member c a a' x) (member_cell c top a e x) u (cell-member c F top a f g e on i j t)) chosen)

        stays : place c.b2 a (j % c.b2) ≡ place c.b2 a' (j % c.b2)
        stays = sym (ap (place c.b2 a) qx) ∙ member-together c a a' x no_member ∙ ap (place c.b2 a') qx

  columns-separate : (e e' : Cells) (B : Burst c e) (B' : Burst c e') → SamePattern c B.left e B'.left e'
      → column_syndrome c e ≡ column_syndrome c e' → SameCells c e e'
  columns-separate e e' B B' same q i j li lj =
      same_truth (e i j) (e' i j)
      (cell_stays B.top B.left B'.left e e' B.inside moved B.rows_on B.columns_on B'.columns_on same q B.sparse i j)
      (cell_stays B.top B'.left B.left e' e moved B.inside B.rows_on B'.columns_on B.columns_on (λ k l. sym (same k l)) (sym q)
      B'.sparse i j)
    where
      -- a cell of e' is in a row of e
      back : (i j : ℕ) → e' i j ≡ true → e i (place c.b2 B.left (j % c.b2)) ≡ true
      back i j t =
          let l : i < B'.top + c.b1 = B'.inside.row_to i j t in
          let on : B'.top + c.b1 ≤ c.n1 = B'.rows_on in
          same_at c F B.left B'.left e e' same i (j % c.b2) (omega arith) (mod-lt j F.b2_pos)
          ∙ ap (e' i) (place_is c.b2 B'.left F.b2_pos j (B'.inside.column_from i j t) (B'.inside.column_to i j t)) ∙ t

      moved : Inside B.top B'.left c.b1 c.b2 e'
      moved = record {
        row_from = λ i j t. B.inside.row_from i (place c.b2 B.left (j % c.b2)) (back i j t);
        row_to = λ i j t. B.inside.row_to i (place c.b2 B.left (j % c.b2)) (back i j t);
        column_from = B'.inside.column_from;
        column_to = B'.inside.column_to;
      }

  pub separated : Separated c
  separated = record { rows = rows-separate; columns = columns-separate }
