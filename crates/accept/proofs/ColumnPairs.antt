-- The pairs of strips of the column table are those of the code: the same members, by columns in place of remainders.
--
--   same-column      the column of the first strip that has the remainder of a column
--   member_is        a member stands on a column after the first strip
--   difference-is    and is the entry of that column, reduced by the first strip
--   column-free      the members are independent exactly if the entries of the pair are
--
-- Assumes nothing.
use mathlib.Core.Path.{◌≡◌, refl, sym, ap, ap₂, ◌∙◌}
use mathlib.Core.Bool.{not}
use mathlib.Core.List.{List, [], ◌++◌}
use Prim.Native.Nat.{ℕ, ◌+◌, ◌-◌, ◌*◌, ◌/◌, ◌%◌, ◌≤◌, ◌<◌}
use native.Mathlib.Nat.{mod-lt, mod-eq_of_lt, add-mod_right, add-mod-mod, mul-le-mul_right, add-mul, mul_assoc, zero-mul, div-add-mod', div-lt_iff_lt-mul}
use native.Mathlib.Decide.{dec_lt}
use native.Mathlib.Omega.{arith}
use borrow.Author.Tests.{eq-eqb, ne_eqb, le-leb, lt-leb}
use lib.Arith.{digits_div, digits_mod, digits_lt}
use lib.Dec.{eqb, leb}
use Rattle.finite.specs.Search.{place}
use Rattle.finite.proofs.Digits.{place-from, place-to, place-mod, place-unique}
use Rattle.gf2.specs.Xor.{◌⊕◌}
use Rattle.gf2.specs.Independence.{free}
use Rattle.gf2.specs.Vectors.{free_from, listed}
use Rattle.gf2.proofs.Xor.{xor_comm}
use Rattle.gf2.proofs.Vectors.{listed-equal, free-listed}
use Rattle.gf2.proofs.Runs.{listed-add, listed-from}
use Rattle.gf2.proofs.Order.{free-turn}
use Rattle.boxcode.specs.Code.{Code}
use Rattle.boxcode.specs.Condition.{strip_entry, column_member, column_difference}
use Rattle.plan.specs.declared.table.Table.TheVariants.{Columns}
use Rattle.accept.specs.Windows.{reduction, rest_run, pair_list, pair_free, windows_free}

-- the column with remainder r in a strip, by the strip's own remainder
place_after : (b a r : ℕ) → r < b → a % b ≤ r → place b a r ≡ a + (r - a % b)
unfolding place
place_after b a r l u =
    let t = mod-lt a {m = b} (omega arith) in
    let e : r + (b - a % b) ≡ (r - a % b) + b = omega arith in
    rw (e, add-mod_right (r - a % b) b, mod-eq_of_lt {n = r - a % b} {m = b} (omega arith))

place-before : (b a r : ℕ) → r < a % b → a % b < b → place b a r ≡ a + (r + (b - a % b))
unfolding place
place-before b a r l t = rw (mod-eq_of_lt {n = r + (b - a % b)} {m = b} (omega arith))

-- digits of three places: the higher two modulo their period
period : (q k w h : ℕ) → 0 < w → k < h → (q * h + k) % (w * h) ≡ q % w * h + k
period q k w h p l =
    let e : q / w * (w * h) + (q % w * h + k) ≡ q * h + k =
    omega (arith, ap (λ (n : ℕ). n * h) (div-add-mod' q w), add-mul (q / w * w) (q % w) h, mul_assoc (q / w) w h) in
    ap (λ (n : ℕ). n % (w * h)) (sym e) ∙ digits_mod (q / w) {m = w * h} (digits_lt (mod-lt q p) l)

module _ (c : Code) (p1 : 0 < c.b1) (p2 : 0 < c.b2) (a b : ℕ) (l : a < b) where
  -- column x of the second strip has remainder r
  module _ (r k x : ℕ) (lr : r < c.b2) (lk : k < c.b1) (e : x ≡ place c.b2 b r) where
    from : b ≤ x
    from = omega (arith, place-from c.b2 b p2 r)

    remainder : x % c.b2 ≡ r
    remainder = rw e (place-mod c.b2 b p2 r lr)

    pub same-column : place c.b2 a r ≡ a + (x - a) % c.b2
    same-column =
        let m = mod-lt (x - a) p2 in
        let z : a + (x - a) ≡ x = omega (arith, from) in
        place-unique c.b2 a p2 (place c.b2 a r) (a + (x - a) % c.b2) (place-from c.b2 a p2 r) (place-to c.b2 a p2 r) (omega arith)
        (omega arith)
        (place-mod c.b2 a p2 r lr ∙ sym (add-mod-mod a (x - a) c.b2 ∙ ap (λ (n : ℕ). n % c.b2) z ∙ remainder))

    pub member_is : column_member c a b (r * c.b1 + k) ≡ leb (a * c.b1 + c.b2 * c.b1) (x * c.b1 + k)
    unfolding column_member
    member_is = rw (digits_div r {m = c.b1} lk, ← e) (go (dec_lt x (a + c.b2)))
      where
        go : Dec (x < a + c.b2) → not (eqb (place c.b2 a r) x) ≡ leb (a * c.b1 + c.b2 * c.b1) (x * c.b1 + k)
        go (yes u) =
            let same = place-unique c.b2 a p2 (place c.b2 a r) x (place-from c.b2 a p2 r) (place-to c.b2 a p2 r) (omega (arith, from)) u
            (place-mod c.b2 a p2 r lr ∙ sym remainder) in
            ap not (eq-eqb (place c.b2 a r) x same)
            ∙ sym (lt-leb (a * c.b1 + c.b2 * c.b1) (x * c.b1 + k) (omega (arith, digits_lt u lk, add-mul a c.b2 c.b1)))
        go (no u) =
            let m : a + c.b2 ≤ x = omega arith in
            ap not (ne_eqb (place c.b2 a r) x (λ z. omega (arith, place-to c.b2 a p2 r)))
            ∙ sym (le-leb (a * c.b1 + c.b2 * c.b1) (x * c.b1 + k) (omega (arith, mul-le-mul_right c.b1 m, add-mul a c.b2 c.b1)))

    strip-at : (p : ℕ) → strip_entry c p (r * c.b1 + k) ≡ c.column_entry (place c.b2 p r * c.b1 + k)
    unfolding strip_entry
    strip-at p =
        ap₂ (λ (y z : ℕ). c.column_entry (place c.b2 p y * c.b1 + z)) (digits_div r {m = c.b1} lk) (digits_mod r {m = c.b1} lk)

    -- the place in the first strip
    first-at : a * c.b1 + (x * c.b1 + k - a * c.b1) % (c.b2 * c.b1) ≡ place c.b2 a r * c.b1 + k
    first-at =
        let z : x - a + a ≡ x = omega (arith, from) in
        let d : x * c.b1 + k - a * c.b1 ≡ (x - a) * c.b1 + k = omega (arith, ap (λ (n : ℕ). n * c.b1) z, add-mul (x - a) a c.b1) in
        ap (λ (n : ℕ). a * c.b1 + n) (ap (λ (n : ℕ). n % (c.b2 * c.b1)) d ∙ period (x - a) k c.b2 c.b1 p2 lk)
        ∙ omega (arith, ap (λ (n : ℕ). n * c.b1) same-column, add-mul a ((x - a) % c.b2) c.b1)

    pub difference-is : column_difference c a b (r * c.b1 + k) ≡ reduction c.column_entry (a * c.b1) (c.b2 * c.b1) (x * c.b1 + k)
    unfolding column_difference reduction
    difference-is =
        xor_comm (strip_entry c a (r * c.b1 + k)) (strip_entry c b (r * c.b1 + k))
        ∙ ap₂ ◌⊕◌ (strip-at b ∙ ap (λ (n : ℕ). c.column_entry (n * c.b1 + k)) (sym e)) (strip-at a ∙ ap c.column_entry (sym first-at))

  -- what n columns from q on add: the entries after the first strip, reduced by it
  columns-from : ℕ → ℕ → List ℕ
  columns-from q n =
      listed (n * c.b1) (λ y. leb (a * c.b1 + c.b2 * c.b1) (q * c.b1 + y))
      (λ y. reduction c.column_entry (a * c.b1) (c.b2 * c.b1) (q * c.b1 + y))

  -- the members of the n remainders from r on, which stand on the columns from q on
  chunk : (r q n : ℕ) → r + n ≤ c.b2 → ((d : ℕ) → d < n → q + d ≡ place c.b2 b (r + d))
      → listed (n * c.b1) (λ y. column_member c a b (r * c.b1 + y)) (λ y. column_difference c a b (r * c.b1 + y)) ≡ columns-from q n
  unfolding columns-from
  chunk r q n u h = listed-equal (n * c.b1) _ _ _ _ members (λ y ly _. values y ly)
    where
      split : (x y : ℕ) → (x + y / c.b1) * c.b1 + y % c.b1 ≡ x * c.b1 + y
      split x y = omega (arith, add-mul x (y / c.b1) c.b1, div-add-mod' y c.b1)

      members : (y : ℕ) → y < n * c.b1 → column_member c a b (r * c.b1 + y) ≡ leb (a * c.b1 + c.b2 * c.b1) (q * c.b1 + y)
      members y ly =
          let d = (div-lt_iff_lt-mul p1).1 ly in
          let g = member_is (r + y / c.b1) (y % c.b1) (q + y / c.b1) (omega arith) (mod-lt y p1) (h (y / c.b1) d) in
          rw (split r y, split q y) at g

      values : (y : ℕ) → y < n * c.b1
          → column_difference c a b (r * c.b1 + y) ≡ reduction c.column_entry (a * c.b1) (c.b2 * c.b1) (q * c.b1 + y)
      values y ly =
          let d = (div-lt_iff_lt-mul p1).1 ly in
          let g = difference-is (r + y / c.b1) (y % c.b1) (q + y / c.b1) (omega arith) (mod-lt y p1) (h (y / c.b1) d) in
          rw (split r y, split q y) at g

  columns-join : (q n m : ℕ) → columns-from q n ++ columns-from (q + n) m ≡ columns-from q (n + m)
  unfolding columns-from
  columns-join q n m =
      let h = c.b1 in
      let low = a * h + c.b2 * h in
      let value = reduction c.column_entry (a * h) (c.b2 * h) in
      let at : (y : ℕ) → (q + n) * h + y ≡ q * h + (n * h + y) = λ y. omega (arith, add-mul q n h) in
      ap (λ (s : List ℕ). listed (n * h) (λ y. leb low (q * h + y)) (λ y. value (q * h + y)) ++ s)
      (listed-equal (m * h) (λ y. leb low ((q + n) * h + y)) (λ y. leb low (q * h + (n * h + y))) (λ y. value ((q + n) * h + y))
      (λ y. value (q * h + (n * h + y))) (λ y _. ap (leb low) (at y)) (λ y _ _. ap value (at y)))
      ∙ sym (listed-add (n * h) (m * h) (λ y. leb low (q * h + y)) (λ y. value (q * h + y)))
      ∙ ap (λ (k : ℕ). listed k (λ y. leb low (q * h + y)) (λ y. value (q * h + y))) (sym (add-mul n m h))

  -- all columns of the second strip
  columns-all :
      columns-from b c.b2 ≡ rest_run (reduction c.column_entry (a * c.b1) (c.b2 * c.b1)) (c.b2 * c.b1) (a * c.b1) (b * c.b1)
  unfolding columns-from rest_run
  columns-all =
      let m : a ≤ b = omega arith in
      listed-from (reduction c.column_entry (a * c.b1) (c.b2 * c.b1)) (a * c.b1 + c.b2 * c.b1) (b * c.b1) (c.b2 * c.b1)
      (omega (arith, mul-le-mul_right c.b1 m))

  -- by remainders come first those columns that stand last
  by-remainder : (t n : ℕ) → t ≡ b % c.b2 → t + n ≡ c.b2
      → listed (c.b2 * c.b1) (column_member c a b) (column_difference c a b) ≡ columns-from (b + n) t ++ columns-from b n
  by-remainder t n et en =
      let h = c.b1 in
      let m = mod-lt b p2 in
      let member = column_member c a b in
      let value = column_difference c a b in
      let zero-at : (y : ℕ) → y ≡ 0 * h + y = λ y. omega (arith, zero-mul h) in
      ap (λ (k : ℕ). listed k member value) (ap (λ (k : ℕ). k * h) (sym en) ∙ add-mul t n h)
      ∙ listed-add (t * h) (n * h) member value
      ∙ ap₂ ◌++◌
      (listed-equal (t * h) member (λ y. member (0 * h + y)) value (λ y. value (0 * h + y)) (λ y _. ap member (zero-at y)) (λ y _ _. ap value (zero-at y))
      ∙ chunk 0 (b + n) t (omega arith) (λ d ld. before d ld))
      (chunk t b n (omega arith) (λ d ld. after d ld))
    where
      before : (d : ℕ) → d < t → b + n + d ≡ place c.b2 b (0 + d)
      before d ld = sym (place-before c.b2 b (0 + d) (omega arith) (mod-lt b p2) ∙ omega (arith, et, en))

      after : (d : ℕ) → d < n → b + d ≡ place c.b2 b (t + d)
      after d ld = sym (place_after c.b2 b (t + d) (omega arith) (omega arith) ∙ omega (arith, et, en))

  pub column-free : free (c.b2 * c.b1) (column_member c a b) (column_difference c a b)
      ≡ windows_free Columns c.column_entry c.b1 (c.b2 * c.b1) a b
  unfolding pair_free pair_list
  column-free =
      let t = b % c.b2 in
      let n = c.b2 - t in
      let m = mod-lt b p2 in
      let e : t + n ≡ c.b2 = omega arith in
      free-listed (c.b2 * c.b1) (column_member c a b) (column_difference c a b)
      ∙ ap (free_from []) (by-remainder t n refl e)
      ∙ free-turn (columns-from (b + n) t) [] (columns-from b n)
      ∙ ap (free_from []) (columns-join b n t ∙ ap (columns-from b) (let z : n + t ≡ c.b2 = omega arith in z) ∙ columns-all)
