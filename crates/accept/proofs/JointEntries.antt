-- The joint entries of the check cells.
--
--   joint-word      rv + rh digits are at most 64
--   joint-of        a joint entry from its two entries: the value, and that it has rv + rh digits
--   shift-exact     what the code's `1 << rv` says
--   joined-fits     a V and an H number of 32 bits side by side fit a word
--   joints-none, joints-next   the joint entries of none, and of one check cell more, in an array
--   joints-taken    the first check cell that depends on earlier ones is where the basis stops
--
-- Assumes nothing.
use mathlib.Core.Path.{◌≡◌, refl, sym, ◌∙◌}
use mathlib.Core.List.{List, []}
use Prim.Native.Nat.{ℕ, ◌+◌, ◌*◌, ◌%◌, ◌^◌, ◌≤◌, ◌<◌}
use native.Mathlib.Nat.{one-mul, mul-le-mul_right}
use native.Mathlib.Numerals.{add-one}
use native.Mathlib.Omega.{arith}
use lib.ListN.{length, take, set}
use lib.Pow.{pow_mono, shl_exact}
use lib.Seq.{take-suc-set}
use Rattle.finite.specs.Search.{least}
use Rattle.gf2.specs.Independence.{spanned}
use Rattle.gf2.specs.Vectors.{taken_from, listed}
use Rattle.gf2.proofs.Basis.{Below}
use Rattle.gf2.proofs.Vectors.{taken-least, listed_in, listed-none, listed-length}
use Rattle.gf2.proofs.Span.{listed_at}
use Rattle.boxcode.specs.Code.{Code, Formed, row_weight, column_weight, joint_weight, check_joint}
use Rattle.boxcode.specs.Condition.{everyone}
use Rattle.boxcode.proofs.Syndrome.{joint-below, check-below}
use Rattle.accept.specs.Joints.{joints_of, Joint}

pub joint-word : (rv rh : ℕ) → rv ≤ 32 → rh ≤ 32 → 2 ^ (rv + rh) ≤ 2 ^ 64
joint-word rv rh l u = pow_mono {i = rv + rh} {j = 64} (omega arith)

pub shift-exact : (rv : ℕ) → rv ≤ 32 → 1 * 2 ^ rv % 2 ^ 64 ≡ 2 ^ rv
shift-exact rv l = shl_exact 1 rv 64 (omega arith) (omega arith) ∙ one-mul (2 ^ rv)

pub joined-fits : (rv v h : ℕ) → rv ≤ 32 → v < 4294967296 → h < 4294967296 → v + 2 ^ rv * h ≤ 18446744073709551615
joined-fits rv v h l lv lh = omega (arith, mul-le-mul_right h (pow_mono {i = rv} {j = 32} l))

module _ (c : Code) (F : Formed c) where
  pub joint-of : (i j v w : ℕ) → i < c.n1 → j < c.n2 → v ≡ row_weight c i j → w ≡ column_weight c i j → Joint c i j (v + 2 ^ c.rv * w)
  joint-of i j v w li lj ev ew =
      let e : v + 2 ^ c.rv * w ≡ joint_weight c i j = rw (ev, ew) (unfold joint_weight in refl) in
      record { value = e; below = rw e (joint-below c F i j li lj) }

  -- the words of a basis
  pub joints-below : Below 64 (joints_of c)
  unfolding joints_of
  joints-below k l =
      let n : k < c.rv + c.rh = omega (arith, listed-length (c.rv + c.rh) (check_joint c)) in
      rw (listed_at (c.rv + c.rh) (check_joint c) k n)
      (omega (arith, check-below c F k n, joint-word c.rv c.rh F.rv_most F.rh_most))

  pub joints-taken : taken_from [] (joints_of c) ≡ least (c.rv + c.rh) (λ k. spanned k everyone (check_joint c) (check_joint c k))
  unfolding joints_of
  joints-taken = taken-least (c.rv + c.rh) (check_joint c)

-- the joint entries of the first check cells, in an array
pub joints-none : (c : Code) → listed 0 everyone (check_joint c) ≡ []
joints-none c = listed-none everyone (check_joint c)

pub joints-next : (c : Code) (words : List ℕ) (k x : ℕ) → k < length words → take k words ≡ listed k everyone (check_joint c) → x ≡ check_joint c k
    → take (k + 1) (set words k x) ≡ listed (k + 1) everyone (check_joint c)
joints-next c words k x l e j =
    rw (add-one k, take-suc-set words k x l, e, j) (sym (listed_in k everyone (check_joint c) refl))
