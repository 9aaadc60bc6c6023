-- What the check cells must hold.
--
--   joint-value              the joint sum of a sheet, from its two sums
--   few-joints, free-joints  the joint entries of the check cells are at most 64, and independent
--   combination-makes        under an accepted plan what the solution for the joint entries of the check cells holds, or 0 where it is none, makes
--                            the target
--   never-outside            under an accepted plan there is one
--
-- Assumes nothing.
use mathlib.Core.Path.{◌≡◌, sym, ap, ap₂, ◌∙◌}
use mathlib.Core.Bool.{true}
use mathlib.Core.List.{List, [], append-nil}
use Prim.Native.Nat.{ℕ, ◌+◌, ◌*◌, ◌^◌, ◌≤◌, ◌<◌}
use native.Mathlib.Omega.{arith}
use lib.ListN.{length}
use Rattle.finite.specs.Search.{bit}
use Rattle.gf2.specs.Sum.{chosen_sum}
use Rattle.gf2.specs.Vectors.{spans, free_from}
use Rattle.gf2.specs.Solver.{combination, solution}
use Rattle.std.specs.Prelude.{Option, Some, None, unwrap_or}
use Rattle.gf2.proofs.Spans.{spans-turned}
use Rattle.gf2.proofs.Vectors.{free-listed, spanned-listed, listed-length}
use Rattle.gf2.proofs.Independence.{independent-free}
use Rattle.gf2.proofs.Span.{full-span}
use Rattle.gf2.proofs.Combination.{combination-listed}
use Rattle.gf2.proofs.Solving.{solution-found}
use Rattle.boxcode.specs.Code.{Code, Formed, joint_weight, check_joint}
use Rattle.boxcode.specs.Condition.{Conditions, everyone}
use Rattle.boxcode.specs.Syndrome.{Cells, row_syndrome, column_syndrome}
use Rattle.boxcode.proofs.Syndrome.{joined, joint_sum-is, joint-below, check-below, weight-below}
use Rattle.accept.specs.Joints.{joints_of}
use Rattle.accept.proofs.JointEntries.{joints-below, joint-word}
use Rattle.writer.specs.Steps.{JointSum}

pub joint-value : (c : Code) → Formed c → (s : Cells) (v h : ℕ) → v ≡ row_syndrome c s → h ≡ column_syndrome c s → JointSum c s (v + 2 ^ c.rv * h)
unfolding joined
joint-value c F s v h ev eh =
    let e : v + 2 ^ c.rv * h ≡ _ = ap₂ (joined c.rv) ev eh ∙ sym (joint_sum-is c F s) in
    record { value = e; below = rw e (weight-below c.n1 c.n2 (joint_weight c) (c.rv + c.rh) s (joint-below c F)) }

module _ (c : Code) (F : Formed c) (K : Conditions c) where
  few : c.rv + c.rh ≤ 64
  few = omega (arith, F.rv_most, F.rh_most)

  pub free-joints : free_from [] (joints_of c) ≡ true
  unfolding joints_of
  free-joints = sym (free-listed (c.rv + c.rh) everyone (check_joint c)) ∙ independent-free (c.rv + c.rh) everyone (check_joint c) K.checks

  long : length (joints_of c) ≡ c.rv + c.rh
  unfolding joints_of
  long = listed-length (c.rv + c.rh) (check_joint c)

  pub few-joints : length (joints_of c) ≤ 64
  few-joints = omega (arith, long, few)

  module _ (target : ℕ) (t : target < 2 ^ (c.rv + c.rh)) where
    word : target < 2 ^ 64
    word = omega (arith, joint-word c.rv c.rh F.rv_most F.rh_most)

    spans-joints : spans (joints_of c) target ≡ true
    unfolding joints_of
    spans-joints =
        sym (spanned-listed (c.rv + c.rh) everyone (check_joint c) target ∙ spans-turned (joints_of c) [] target
        ∙ ap (λ (l : List ℕ). spans l target) (append-nil (joints_of c)))
        ∙ full-span (c.rv + c.rh) (check_joint c) few (check-below c F) (independent-free (c.rv + c.rh) everyone (check_joint c) K.checks) target t

    digits_sum : (y : ℕ) → combination (joints_of c) y ≡ chosen_sum (c.rv + c.rh) (bit y) (check_joint c)
    unfolding joints_of
    digits_sum y = combination-listed (c.rv + c.rh) (check_joint c) y

    found : (y : ℕ) × (solution (joints_of c) target ≡ Some y) × (chosen_sum (c.rv + c.rh) (bit y) (check_joint c) ≡ target)
    found =
        let w = solution-found (joints_of c) few-joints (joints-below c F) free-joints target word spans-joints in
        (w.0, w.1, sym (digits_sum w.0) ∙ w.3)

    pub combination-makes : (r : Option ℕ) → r ≡ solution (joints_of c) target → chosen_sum (c.rv + c.rh) (bit (unwrap_or r 0)) (check_joint c) ≡ target
    combination-makes r e = let w = found in rw (e ∙ w.1) w.2

    pub never-outside : solution (joints_of c) target ≡ None → ⊥
    never-outside e =
        let w = found in
        let p = w.1 in
        let z : ◌≡◌ {A = ℕ} 0 1 = cc in
        omega arith
