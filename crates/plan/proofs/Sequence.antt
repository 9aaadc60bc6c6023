-- Laws of verdicts.
--
--   else-second   where the first check accepts, the second answers
--   else-first    where it refuses, it answers
--   else-still    so checks that begin with a refusal are that refusal
--   else-if       a check whose test is false lets the next answer
--   else-zero     a sequence accepts exactly where both parts do
--   if-zero       a check accepts exactly where its test is false
--   else-assoc    checks in a row may be grouped
--   same-zero, same-other   an answer by another name accepts, or refuses, too
--   passed       a check that told nothing accepts
--   told-err     what `?` hands on is told as the refusal that it met
--   refused      and that has a number
--   turned-back  and the checks that it answers do not pass
--   hands-on     the last check of a row refuses, and `?` hands that on
--   stops, goes-on   of checks in a row: the first refuses, and `?` hands that on; or it passes, and the rest answers
--
-- Assumes nothing.
use mathlib.Core.Path.{◌≡◌, refl, sym, ap, ◌∙◌}
use mathlib.Core.Bool.{Bool, true, false, cond}
use Prim.Native.Nat.{ℕ, suc}
use native.Mathlib.Omega.{arith}
use borrow.Author.Tests.{eq-eqb, ne_eqb, eqb-true, eqb-false}
use lib.Dec.{eqb}
use Rattle.std.specs.Prelude.{Result, Ok, Err, IsErrAnd}
use Rattle.plan.specs.declared.table.Table.TheVariants.{Rows, Columns}
use Rattle.plan.specs.declared.verdict.Verdict.{Verdict}
use Rattle.plan.specs.declared.verdict.Refusal.{Refusal}
use Rattle.plan.specs.declared.verdict.Refusal.TheVariants.{ShortPlan, BurstSize, SheetSize, EntryWidths, Offsets, LargeEntry, CheckList}
use Rattle.plan.specs.declared.verdict.Refusal.TheVariants.{RowWindows, ColumnStrips, CheckCells, SheetLength, DataLength, UnusedBits, NoBurst}
use Rattle.plan.specs.declared.verdict.Refusal.TheVariants.{Polynomial, FewCheckCells, Position, Foreign, ScansDiffer, StackForm}
use Rattle.plan.specs.declared.verdict.Refusal.TheVariants.{NumbersLength, NotAnAnswer, BurstCells, SumsLength}
use Rattle.plan.specs.Verdict.{accepted, refusal, verdict_if, ◌or_else◌, refusal_of, told}

pub else-second : (v w : Verdict) → v.number ≡ 0 → v or_else w ≡ w
unfolding ◌or_else◌
else-second v w e = rw (eq-eqb v.number 0 e)

pub else-first : (v w : Verdict) → (v.number ≡ 0 → ⊥) → v or_else w ≡ v
unfolding ◌or_else◌
else-first v w h = rw (ne_eqb v.number 0 h)

pub else-still : {u w : Verdict} (v : Verdict) → (w.number ≡ 0 → ⊥) → u ≡ w → u or_else v ≡ w
else-still {u} v h e = else-first u v (λ z. h (ap (λ (x : Verdict). x.number) (sym e) ∙ z)) ∙ e

pub else-if : (t : Bool) (v w : Verdict) → t ≡ false → (verdict_if t v or_else w) ≡ w
else-if t v w e = else-second (verdict_if t v) w (rw e)

pub else-zero : (v w : Verdict) → (v or_else w).number ≡ 0 → (v.number ≡ 0) × (w.number ≡ 0)
unfolding ◌or_else◌
else-zero v w = go (eqb v.number 0) refl
  where
    go : (t : Bool) → eqb v.number 0 ≡ t → (cond t w v).number ≡ 0 → (v.number ≡ 0) × (w.number ≡ 0)
    go true e z = (eqb-true v.number 0 e, z)
    go false e z = absurd (eqb-false v.number 0 e z)

pub if-zero : (t : Bool) (n p q : ℕ) → (verdict_if t (refusal (suc n) p q)).number ≡ 0 → t ≡ false
if-zero true n p q e = absurd (omega arith)
if-zero false n p q e = refl

pub same-zero : {v w : Verdict} → v ≡ w → v.number ≡ 0 → w.number ≡ 0
same-zero e z = ap (λ (x : Verdict). x.number) (sym e) ∙ z

pub same-other : {v w : Verdict} → v ≡ w → (v.number ≡ 0 → ⊥) → w.number ≡ 0 → ⊥
same-other e n z = n (ap (λ (x : Verdict). x.number) e ∙ z)

-- checks in a row may be grouped
pub else-assoc : (u v w : Verdict) → ((u or_else v) or_else w) ≡ (u or_else (v or_else w))
unfolding ◌or_else◌
else-assoc u v w = go (eqb u.number 0) refl
  where
    go : (t : Bool) → eqb u.number 0 ≡ t → cond (eqb (cond t v u).number 0) w (cond t v u) ≡ cond t (cond (eqb v.number 0) w v) u
    go true e = refl
    go false e = rw e

pub passed : {v : Verdict} → accepted ≡ v → v.number ≡ 0
passed e = ap (λ (x : Verdict). x.number) (sym e)

pub told-err : {A : Type 0} (r : Result A Refusal) (e : Refusal) → IsErrAnd r (λ y. y ≡ e) → told r ≡ refusal_of e
told-err (Ok _) e h = elim h [ ]
told-err (Err y) e h = ap refusal_of h

-- every refusal has a number
numbered : (r : Refusal) → (refusal_of r).number ≡ 0 → ⊥
numbered ShortPlan e = omega arith
numbered BurstSize e = omega arith
numbered SheetSize e = omega arith
numbered EntryWidths e = omega arith
numbered Offsets e = omega arith
numbered (LargeEntry Rows k) e = omega arith
numbered (LargeEntry Columns k) e = omega arith
numbered (CheckList k) e = omega arith
numbered (RowWindows i j) e = omega arith
numbered (ColumnStrips a b) e = omega arith
numbered (CheckCells k) e = omega arith
numbered SheetLength e = omega arith
numbered DataLength e = omega arith
numbered (UnusedBits k) e = omega arith
numbered NoBurst e = omega arith
numbered Polynomial e = omega arith
numbered FewCheckCells e = omega arith
numbered Position e = omega arith
numbered Foreign e = omega arith
numbered ScansDiffer e = omega arith
numbered StackForm e = omega arith
numbered NumbersLength e = omega arith
numbered NotAnAnswer e = omega arith
numbered BurstCells e = omega arith
numbered SumsLength e = omega arith

pub refused : {A : Type 0} (r : Result A Refusal) (e : Refusal) → IsErrAnd r (λ y. y ≡ e) → (told r).number ≡ 0 → ⊥
refused r e h = same-other (sym (told-err r e h)) (numbered e)

-- checks that told it don't pass
pub turned-back : (e : Refusal) {v : Verdict} → refusal_of e ≡ v → v.number ≡ 0 → ⊥
turned-back e f = same-other f (numbered e)

pub hands-on : {A : Type 0} (r : Result A Refusal) (e : Refusal) {v : Verdict} → IsErrAnd r (λ y. y ≡ e) → refusal_of e ≡ v → told r ≡ v
hands-on r e h f = told-err r e h ∙ f

pub stops : {A : Type 0} (r : Result A Refusal) (e : Refusal) {v : Verdict} (w : Verdict) →
    IsErrAnd r (λ y. y ≡ e) → refusal_of e ≡ v → told r ≡ v or_else w
stops r e w h f = told-err r e h ∙ f ∙ sym (else-first _ w (same-other f (numbered e)))

pub goes-on : {v w x : Verdict} → accepted ≡ v → x ≡ w → x ≡ v or_else w
goes-on {v} {w} e f = f ∙ sym (else-second v w (passed e))
