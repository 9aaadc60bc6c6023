-- The members of two strips are the entries of the second strip that are not in the first, reduced by it: one to one, so that sets of few
-- members with sum 0 are sets of few entries with sum 0.
--
--   column-few     none of the ones has sum 0 exactly if none of the others has
--   column-pair    the pair test on the entries is the pair test of the code, whatever t
--
-- Assumes nothing.
use mathlib.Core.Path.{◌≡◌, refl, sym, ap, ap₂, ◌∙◌}
use mathlib.Core.Bool.{Bool, true, false, ◌&&◌, cond}
use Prim.Native.Nat.{ℕ, ◌+◌, ◌-◌, ◌*◌, ◌/◌, ◌%◌, ◌≤◌, ◌<◌, max}
use native.Mathlib.Nat.{mod-lt, div-lt_iff_lt-mul, le-div_iff_mul-le, div-add-mod', add-mul, mul-le-mul_right}
use native.Mathlib.Omega.{arith}
use lib.Arith.{digits_div, digits_mod, digits_lt}
use lib.Dec.{eqb, leb, ltb}
use borrow.Author.Tests.{leb-true, le-leb, ltb-true, lt-ltb}
use Rattle.finite.specs.Search.{within, place, count_below}
use Rattle.finite.proofs.Truth.{Truth, is_true, is_false, true-or-false, same_truth, not-true, and_left, and_right, and_both}
use Rattle.finite.proofs.Truth.{within-from, within-to, in_within}
use Rattle.finite.proofs.Digits.{place-from, place-to, place-mod, place_is}
use Rattle.gf2.specs.Xor.{pick}
use Rattle.gf2.specs.Sum.{chosen_sum}
use Rattle.gf2.specs.Independence.{Within}
use Rattle.gf2.specs.Sparse.{IndependentUpTo, free_up_to}
use Rattle.gf2.proofs.Independence.{pick-false}
use Rattle.gf2.proofs.Sparse.{free-up-to, so-free}
use Rattle.boxcode.specs.Code.{Code}
use Rattle.boxcode.specs.Condition.{column_member, column_difference, column_pair_free}
use Rattle.boxcode.proofs.Image.{Listed, sum-image, count-injects}
use Rattle.plan.specs.Bytes.{code_from}
use Rattle.plan.specs.declared.header.Header.{Header}
use Rattle.plan.specs.declared.table.Table.TheVariants.{Columns}
use Rattle.accept.specs.Windows.{reduction, sparse_free, table_pass, windows_pass}
use Rattle.accept.proofs.ColumnPairs.{member_is, difference-is, column-free}

module _ (c : Code) (p1 : 0 < c.b1) (p2 : 0 < c.b2) (a b : ℕ) (l : a < b) (on : b + c.b2 ≤ c.n2) where
  abbrev size : ℕ
  size = c.b2 * c.b1

  abbrev low : ℕ
  low = max (a * c.b1 + size) (b * c.b1)

  abbrev high : ℕ
  high = b * c.b1 + size

  abbrev room : ℕ
  room = c.n2 * c.b1

  abbrev value : ℕ → ℕ
  value = reduction c.column_entry (a * c.b1) size

  -- member x as an entry of the second strip, and back
  at : ℕ → ℕ
  at x = place c.b2 b (x / c.b1) * c.b1 + x % c.b1

  back : ℕ → ℕ
  back k = k / c.b1 % c.b2 * c.b1 + k % c.b1

  high_is : (b + c.b2) * c.b1 ≡ high
  high_is = add-mul b c.b2 c.b1

  high-on : high ≤ room
  high-on = omega (arith, high_is, mul-le-mul_right c.b1 on)

  module _ (x : ℕ) (lx : x < size) where
    remainder-below : x / c.b1 < c.b2
    remainder-below = (div-lt_iff_lt-mul p1).1 lx

    at_from : b * c.b1 ≤ at x
    unfolding at
    at_from = omega (arith, mul-le-mul_right c.b1 (place-from c.b2 b p2 (x / c.b1)))

    at-to : at x < high
    unfolding at
    at-to = omega (arith, high_is, digits_lt (place-to c.b2 b p2 (x / c.b1)) (mod-lt x p1))

    member-at : column_member c a b x ≡ leb (a * c.b1 + size) (at x)
    unfolding at
    member-at =
        ap (column_member c a b) (sym (div-add-mod' x c.b1))
        ∙ member_is c p1 p2 a b l (x / c.b1) (x % c.b1) (place c.b2 b (x / c.b1)) remainder-below (mod-lt x p1) refl

    difference-at : column_difference c a b x ≡ value (at x)
    unfolding at
    difference-at =
        ap (column_difference c a b) (sym (div-add-mod' x c.b1))
        ∙ difference-is c p1 p2 a b l (x / c.b1) (x % c.b1) (place c.b2 b (x / c.b1)) remainder-below (mod-lt x p1) refl

    back_at : back (at x) ≡ x
    unfolding at back
    back_at =
        ap₂ (λ (q r : ℕ). q % c.b2 * c.b1 + r) (digits_div (place c.b2 b (x / c.b1)) (mod-lt x p1))
        (digits_mod (place c.b2 b (x / c.b1)) (mod-lt x p1))
        ∙ ap (λ (q : ℕ). q * c.b1 + x % c.b1) (place-mod c.b2 b p2 (x / c.b1) remainder-below) ∙ div-add-mod' x c.b1

  module _ (k : ℕ) (fk : b * c.b1 ≤ k) (tk : k < high) where
    back_below : back k < size
    unfolding back
    back_below = digits_lt (mod-lt (k / c.b1) p2) (mod-lt k p1)

    at_back : at (back k) ≡ k
    unfolding at back
    at_back =
        ap₂ (λ (q r : ℕ). place c.b2 b q * c.b1 + r) (digits_div (k / c.b1 % c.b2) (mod-lt k p1)) (digits_mod (k / c.b1 % c.b2) (mod-lt k p1))
        ∙ ap (λ (q : ℕ). q * c.b1 + k % c.b1)
        (place_is c.b2 b p2 (k / c.b1) ((le-div_iff_mul-le p1).1 fk)
        ((div-lt_iff_lt-mul p1).1 (let u : k < (b + c.b2) * c.b1 = omega (arith, high_is) in u)))
        ∙ div-add-mod' k c.b1

  listed : Listed size room at
  listed = record {
    below = λ x lx. omega (arith, at-to x lx, high-on);
    different = λ x y lx ly e. sym (back_at x lx) ∙ ap back e ∙ back_at y ly;
  }

  -- the entries that count are those of the members
  in_rest : ℕ → Bool
  in_rest k = within low (high - low) k

  rest-is : (x : ℕ) → x < size → in_rest (at x) ≡ column_member c a b x
  unfolding in_rest
  rest-is x lx =
      same_truth (within low (high - low) (at x)) (column_member c a b x)
      (λ e. member-at x lx ∙ le-leb (a * c.b1 + size) (at x) (omega (arith, within-from low (high - low) (at x) e)))
      (λ e.
      let u : a * c.b1 + size ≤ at x = leb-true (a * c.b1 + size) (at x) (sym (member-at x lx) ∙ e) in
      in_within low (high - low) (at x) (omega (arith, at_from x lx)) (omega (arith, at-to x lx)))

  rest_from : (k : ℕ) → in_rest k ≡ true → b * c.b1 ≤ k
  unfolding in_rest
  rest_from k e = omega (arith, within-from low (high - low) k e)

  rest-to : (k : ℕ) → in_rest k ≡ true → k < high
  unfolding in_rest
  rest-to k e = omega (arith, within-from low (high - low) k e, within-to low (high - low) k e)

  -- a choice of members as one of entries, and back
  module _ (t : ℕ) where
    entries_none : IndependentUpTo t size (column_member c a b) (column_difference c a b) → IndependentUpTo t room in_rest value
    entries_none I m w few s k lk = go (true-or-false (m k))
      where
        p : ℕ → Bool
        p x = ltb x size && m (at x)

        p-at : (x : ℕ) → x < size → p x ≡ m (at x)
        p-at x lx = ap (λ (z : Bool). z && m (at x)) (lt-ltb x size lx)

        p-below : (x : ℕ) → p x ≡ true → x < size
        p-below x e = ltb-true x size (and_left (ltb x size) (m (at x)) e)

        inside : Within p (column_member c a b)
        inside x e = sym (rest-is x (p-below x e)) ∙ w (at x) (and_right (ltb x size) (m (at x)) e)

        fewer : count_below size p ≤ t
        fewer =
            let u : count_below size p ≤ count_below room m =
            count-injects size room p m at (λ x lx e. (listed.below x lx, sym (p-at x lx) ∙ e)) (λ x y lx ly _ _ e. listed.different x y lx ly e) in
            omega arith

        sum : chosen_sum size p (column_difference c a b) ≡ 0
        sum =
            sym (sum-image size room at listed (λ k. pick (m k) (value k)) (λ x. pick (p x) (column_difference c a b x))
            (λ x lx. ap₂ (λ (z : Bool) (v : ℕ). pick z v) (sym (p-at x lx)) (sym (difference-at x lx)))
            (λ k lk miss. ap (λ (z : Bool). pick z (value k)) (not-true (m k) (λ e.
            miss (back k) (back_below k (rest_from k (w k e)) (rest-to k (w k e))) (at_back k (rest_from k (w k e)) (rest-to k (w k e)))))
            ∙ pick-false (value k)))
            ∙ s

        go : Truth (m k) → m k ≡ false
        go (is_false e) = e
        go (is_true e) =
            let f = rest_from k (w k e) in
            let u = rest-to k (w k e) in
            ap m (sym (at_back k f u)) ∙ sym (p-at (back k) (back_below k f u)) ∙ I p inside fewer sum (back k) (back_below k f u)

    members-none : IndependentUpTo t room in_rest value → IndependentUpTo t size (column_member c a b) (column_difference c a b)
    members-none I p w few s x lx =
        sym (m-at x lx) ∙ I m inside fewer sum (at x) (listed.below x lx)
      where
        m : ℕ → Bool
        m k = in_rest k && p (back k)

        p-rest : (x : ℕ) → x < size → p x ≡ true → in_rest (at x) ≡ true
        p-rest x lx e = rest-is x lx ∙ w x e

        m-at : (x : ℕ) → x < size → m (at x) ≡ p x
        m-at x lx = same_truth (m (at x)) (p x)
            (λ e. ap p (sym (back_at x lx)) ∙ and_right (in_rest (at x)) (p (back (at x))) e)
            (λ e. and_both (in_rest (at x)) (p (back (at x))) (p-rest x lx e) (ap p (back_at x lx) ∙ e))

        inside : Within m in_rest
        inside k e = and_left (in_rest k) (p (back k)) e

        fewer : count_below room m ≤ t
        fewer =
            let u : count_below room m ≤ count_below size p =
            count-injects room size m p back
            (λ k lk e. (back_below k (rest_from k (inside k e)) (rest-to k (inside k e)), and_right (in_rest k) (p (back k)) e))
            (λ k j lk lj ek ej e. sym (at_back k (rest_from k (inside k ek)) (rest-to k (inside k ek))) ∙ ap at e
            ∙ at_back j (rest_from j (inside j ej)) (rest-to j (inside j ej))) in
            omega arith

        sum : chosen_sum room m value ≡ 0
        sum =
            sum-image size room at listed (λ k. pick (m k) (value k)) (λ x. pick (p x) (column_difference c a b x))
            (λ x lx. ap₂ (λ (z : Bool) (v : ℕ). pick z v) (m-at x lx) (sym (difference-at x lx)))
            (λ k lk miss. ap (λ (z : Bool). pick z (value k)) (not-true (m k) (λ e.
            miss (back k) (back_below k (rest_from k (inside k e)) (rest-to k (inside k e))) (at_back k (rest_from k (inside k e)) (rest-to k (inside k e)))))
            ∙ pick-false (value k))
            ∙ s

    column-few : free_up_to t size (column_member c a b) (column_difference c a b) ≡ free_up_to t room in_rest value
    column-few =
        same_truth (free_up_to t size (column_member c a b) (column_difference c a b)) (free_up_to t room in_rest value)
        (λ e. so-free t room in_rest value (entries_none (free-up-to t size (column_member c a b) (column_difference c a b) e)))
        (λ e. so-free t size (column_member c a b) (column_difference c a b) (members-none (free-up-to t room in_rest value e)))

pub column-pair : (h : Header) (v w row column : ℕ → ℕ) → 0 < h.b1 → 0 < h.b2 → (a b : ℕ) → a < b → b + h.b2 ≤ h.n2
    → column_pair_free (code_from h v w row column) a b ≡ windows_pass h Columns w a b
unfolding column_pair_free windows_pass table_pass sparse_free in_rest
column-pair h v w row column p1 p2 a b l on =
    let c = code_from h v w row column in
    ap₂ (λ (x y : Bool). cond (eqb h.t 0) x y) (column-free c p1 p2 a b l) (column-few c p1 p2 a b l on h.t)
