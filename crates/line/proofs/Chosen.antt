-- Which way the burst is searched for, by what is known of the plan:
--
--   chosen-trial     by trial, where the plan is accepted and small
--   chosen-refused   by windows, where the plan is refused
--   chosen-large     by windows, where the plan has more cells
--   chosen-tall, chosen-wide   by windows, where it has more rows or columns: an accepted plan then has more cells
--
-- Assumes nothing.
use mathlib.Core.Path.{◌≡◌, refl}
use mathlib.Core.Bool.{Bool, true, false, cond, ◌&&◌}
use mathlib.Core.List.{List}
use Prim.Native.Nat.{ℕ, ◌*◌, ◌≤◌, ◌<◌}
use native.Mathlib.Nat.{mul-le-mul}
use native.Mathlib.Omega.{arith}
use borrow.Author.Tests.{eqb-true, eqb-false, eq-eqb, ne_eqb, le-leb, lt-leb}
use lib.Dec.{eqb}
use Rattle.plan.specs.Bytes.{code_of}
use Rattle.accept.specs.Verdict.{plan_verdict}
use Rattle.accept.proofs.Acceptance.{accepted-plan}
use Rattle.reader.specs.declared.search.Search.TheVariants.{ByWindow, ByTrial}
use Rattle.line.specs.Choice.{small_cells, search_for}

le-mul-right : (a b : ℕ) → 1 ≤ b → a ≤ a * b
le-mul-right a b l = let p : a ≤ a = omega arith in let m : a * 1 ≤ a * b = mul-le-mul p l in omega arith

le-mul-left : (a b : ℕ) → 1 ≤ a → b ≤ a * b
le-mul-left a b l = let p : b ≤ b = omega arith in let m : 1 * b ≤ a * b = mul-le-mul l p in omega arith

module _ (plan : List ℕ) where
  pub chosen-trial : (plan_verdict plan).number ≡ 0 → (code_of plan).n1 * (code_of plan).n2 ≤ small_cells → ByTrial ≡ search_for plan
  unfolding search_for
  chosen-trial e l = rw (eq-eqb (plan_verdict plan).number 0 e, le-leb ((code_of plan).n1 * (code_of plan).n2) small_cells l)

  pub chosen-refused : ((plan_verdict plan).number ≡ 0 → ⊥) → ByWindow ≡ search_for plan
  unfolding search_for
  chosen-refused h = rw (ne_eqb (plan_verdict plan).number 0 h)

  pub chosen-large : small_cells < (code_of plan).n1 * (code_of plan).n2 → ByWindow ≡ search_for plan
  unfolding search_for
  chosen-large l = rw (lt-leb ((code_of plan).n1 * (code_of plan).n2) small_cells l) (go (eqb (plan_verdict plan).number 0))
    where
      go : (t : Bool) → ByWindow ≡ cond (t && false) ByTrial ByWindow
      go true = refl
      go false = refl

  -- what holds of an accepted plan holds where it matters
  unless-refused : ((plan_verdict plan).number ≡ 0 → small_cells < (code_of plan).n1 * (code_of plan).n2) → ByWindow ≡ search_for plan
  unless-refused large = go (eqb (plan_verdict plan).number 0) refl
    where
      go : (t : Bool) → eqb (plan_verdict plan).number 0 ≡ t → ByWindow ≡ search_for plan
      go true e = chosen-large (large (eqb-true (plan_verdict plan).number 0 e))
      go false e = chosen-refused (eqb-false (plan_verdict plan).number 0 e)

  pub chosen-tall : small_cells < (code_of plan).n1 → ByWindow ≡ search_for plan
  chosen-tall l =
      unless-refused
      (λ z.
      let F = (accepted-plan plan z).formed in
      let m = le-mul-right (code_of plan).n1 (code_of plan).n2 (let p = F.b2_pos in let q = F.n2_least in omega arith) in
      omega arith)

  pub chosen-wide : small_cells < (code_of plan).n2 → ByWindow ≡ search_for plan
  chosen-wide l =
      unless-refused
      (λ z.
      let F = (accepted-plan plan z).formed in
      let m = le-mul-left (code_of plan).n1 (code_of plan).n2 (let p = F.b1_pos in let q = F.n1_least in omega arith) in
      omega arith)
