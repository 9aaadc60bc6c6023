-- How few digits the entries of a code can have (document 02, request l), from the rules of form and the conditions:
--
--   row-floor      rv is at least 2 × b1 × b2, where the sheet has two windows side by side
--   column-floor   rh is at least b1 × b2, where it has two strips side by side
--   checks-on      as many cells of the sheet are check cells as rv and rh say
--
-- The positions of two windows side by side are all different, and so are the columns of two strips side by side: each entry of the
-- one and each difference of the other is a member. They are independent, so they have as many digits at least (gf2, Dimension).
--
-- Assumes nothing.
use mathlib.Core.Path.{◌≡◌}
use mathlib.Core.Bool.{true, ◌||◌}
use Prim.Native.Nat.{ℕ, ◌+◌, ◌*◌, ◌/◌, ◌%◌, ◌^◌, ◌≤◌, ◌<◌}
use native.Mathlib.Nat.{mod-lt, mul-le-mul_right, div-lt_iff_lt-mul}
use native.Mathlib.Decide.{dec_lt}
use native.Mathlib.Omega.{arith}
use lib.Arith.{digits_lt}
use Rattle.finite.specs.Search.{within, place, count_below}
use Rattle.finite.proofs.Truth.{or_left, or_right, in_within}
use Rattle.finite.proofs.Digits.{place-from, place-to}
use Rattle.gf2.proofs.Xor.{xor_below}
use Rattle.gf2.proofs.Dimension.{independent-most, independent-first}
use Rattle.boxcode.specs.Code.{Code, Formed}
use Rattle.boxcode.specs.Check.{check_number, check_at}
use Rattle.boxcode.specs.Condition.{Conditions, row_member, column_member, column_difference, strip_entry}
use Rattle.boxcode.proofs.Image.{count-image}
use Rattle.boxcode.proofs.Condition.{apart-member}
use Rattle.boxcode.proofs.Check.{check-listed}

-- 02 m: "The figures of the check-cell list cover t = 0 alone"
module _ (c : Code) (F : Formed c) (K : Conditions c) (any : c.t ≡ 0) where
  -- the windows at rows 0 and b1 hold the first 2 × b1 × b2 positions
  first_member : (k : ℕ) → k < 2 * c.b1 * c.b2 → row_member c 0 c.b1 k ≡ true
  unfolding row_member
  first_member k l = go (dec_lt (k / c.b2) c.b1) ((div-lt_iff_lt-mul F.b2_pos).1 l)
    where
      go : Dec (k / c.b2 < c.b1) → k / c.b2 < 2 * c.b1 → (within 0 c.b1 (k / c.b2) || within c.b1 c.b1 (k / c.b2)) ≡ true
      go (yes u) t =
          or_left (within 0 c.b1 (k / c.b2)) (within c.b1 c.b1 (k / c.b2)) (in_within 0 c.b1 (k / c.b2) (omega arith) (omega arith))
      go (no u) t =
          or_right (within 0 c.b1 (k / c.b2)) (within c.b1 c.b1 (k / c.b2))
          (in_within c.b1 c.b1 (k / c.b2) (omega arith) (omega arith))

  pub row-floor : 2 * c.b1 ≤ c.n1 → 2 * c.b1 * c.b2 ≤ c.rv
  row-floor l =
      let n = 2 * c.b1 * c.b2 in
      let m : n ≤ c.n1 * c.b2 = mul-le-mul_right c.b2 l in
      independent-most c.rv n (row_member c 0 c.b1) c.row_entry (omega (arith, F.rv_most)) first_member
      (λ k lk. F.row_entries k (omega arith))
      (independent-first (c.n1 * c.b2) n (row_member c 0 c.b1) c.row_entry m (K.rows any 0 c.b1 (omega arith) (omega arith)))

  -- in the strips at columns 0 and b2 no remainder stands on one column
  all-member : (x : ℕ) → column_member c 0 c.b2 x ≡ true
  all-member x =
      apart-member c 0 c.b2 x
      (λ e. absurd (omega (arith, place-to c.b2 0 F.b2_pos (x / c.b1), place-from c.b2 c.b2 F.b2_pos (x / c.b1))))

  strip-below : (a x : ℕ) → a + c.b2 ≤ c.n2 → strip_entry c a x < 2 ^ c.rh
  unfolding strip_entry
  strip-below a x f =
      let p : place c.b2 a (x / c.b1) < c.n2 = omega (arith, place-to c.b2 a F.b2_pos (x / c.b1)) in
      F.column_entries (place c.b2 a (x / c.b1) * c.b1 + x % c.b1) (digits_lt p (mod-lt x F.b1_pos))

  pub column-floor : 2 * c.b2 ≤ c.n2 → c.b1 * c.b2 ≤ c.rh
  unfolding column_difference
  column-floor l =
      let m : c.b2 * c.b1 ≤ c.rh =
      independent-most c.rh (c.b2 * c.b1) (column_member c 0 c.b2) (column_difference c 0 c.b2) (omega (arith, F.rh_most))
      (λ x lx. all-member x)
      (λ x lx. xor_below c.rh (strip_entry c 0 x) (strip_entry c c.b2 x) (strip-below 0 x (omega arith)) (strip-below c.b2 x (omega arith)))
      (K.columns any 0 c.b2 (omega (arith, F.b2_pos)) (omega arith)) in
      omega arith

pub checks-on : (c : Code) → Formed c → count_below (c.n1 * c.n2) (check_at c) ≡ c.rv + c.rh
unfolding check_at
checks-on c F = count-image (c.rv + c.rh) (c.n1 * c.n2) (check_number c) (check-listed c F)
