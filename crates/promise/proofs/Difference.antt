-- Where two scans first differ, proved: one declaration for each theorem of specs/Difference.antt, of that type.
--
--   first-differs, none-differs, equal-scans, nothing-says-equal, difference-refused, part-inside
--
-- Assumes nothing.
use mathlib.Core.Path.{◌≡◌, refl, ap, ◌∙◌}
use mathlib.Core.Bool.{Bool, true, false, xor}
use mathlib.Core.List.{List}
use Prim.Native.Nat.{ℕ, ◌+◌, ◌-◌, ◌*◌, ◌≤◌, ◌<◌}
use native.Mathlib.Omega.{arith}
use lib.ListN.{length, get_or}
use Rattle.finite.proofs.Search.{least-found, least_first, least-most, least-none, any_found, any_none, none_any}
use Rattle.finite.proofs.Truth.{clash, xor-equal, xor_self, Truth, is_true, is_false, true-or-false}
use Rattle.layout.specs.Cells.{row_bytes}
use Rattle.layout.proofs.Form.{same_bytes}
use Rattle.plan.specs.declared.verdict.Verdict.{Verdict}
use Rattle.plan.specs.Bytes.{code_of}
use Rattle.accept.proofs.Acceptance.{accepted-plan}
use Rattle.buffers.proofs.Passing.{BothInForm, boths-pass}
use Rattle.difference.specs.declared.Part.{Part}
use Rattle.difference.specs.Difference.{row_differs, differing_row, row_part, no_part, difference, part_of}
use Rattle.difference.proofs.Outcomes as outcomes
use Rattle.difference.proofs.Parts.{row-size, part_length, part-byte, part_none}
use Rattle.promise.specs.Promise.{cells_of}
use Rattle.promise.specs.Difference as promise

-- ---- rows and cells

same-xor : {a b : Bool} → a ≡ b → xor a b ≡ false
same-xor {a} {b} e = ap (λ (x : Bool). xor x b) e ∙ xor_self b

-- a row of n cells, one at least, has a byte at least
row-some : (n j : ℕ) → j < n → 0 < row_bytes n
unfolding row_bytes
row-some n j l = omega arith

module _ (plan first second : List ℕ) where
  -- a row in which no cell differs, and one in which some cell does
  row_same : (i : ℕ) → row_differs (code_of plan) first second i ≡ false → (j : ℕ) → j < (code_of plan).n2 → promise.SameCell plan first second i j
  unfolding row_differs
  row_same i e j lj = xor-equal _ _ (any_none (code_of plan).n2 _ e j lj)

  same_row : (i : ℕ) → ((j : ℕ) → j < (code_of plan).n2 → promise.SameCell plan first second i j) → row_differs (code_of plan) first second i ≡ false
  unfolding row_differs
  same_row i h = none_any (code_of plan).n2 _ (λ j lj. same-xor (h j lj))

  row_other : (i : ℕ) → row_differs (code_of plan) first second i ≡ true
      → (j : ℕ) × (j < (code_of plan).n2) × (promise.SameCell plan first second i j → ⊥)
  unfolding row_differs
  row_other i e =
      let r = any_found (code_of plan).n2 _ e in
      (r.0, r.1, λ s. clash r.2 (same-xor s))

  other_row : (i j : ℕ) → j < (code_of plan).n2 → (promise.SameCell plan first second i j → ⊥) → row_differs (code_of plan) first second i ≡ true
  other_row i j lj h = go (true-or-false (row_differs (code_of plan) first second i))
    where
      go : Truth (row_differs (code_of plan) first second i) → row_differs (code_of plan) first second i ≡ true
      go (is_true e) = e
      go (is_false e) = absurd (h (row_same i e j lj))

-- ---- nothing is handed back

nothing : (plan first second : List ℕ) → difference plan first second ≡ no_part → promise.HandsNothing plan first second
nothing plan first second e = record { part = e; bytes = ap (λ (p : Part). part_of p second) e ∙ part_none second }

pub none-differs : promise.NoneDiffers
unfolding differing_row
none-differs plan first second h =
    let c = code_of plan in
    let e : differing_row c first second ≡ c.n1 =
    least-none c.n1 (row_differs c first second) (λ i li. same_row plan first second i (λ j lj. h i j li lj)) in
    nothing plan first second (outcomes.difference-none plan first second (omega arith))

pub equal-scans : promise.EqualScans
equal-scans plan scan = none-differs plan scan scan (λ i j li lj. refl)

pub difference-refused : promise.DifferenceRefused
difference-refused plan first second h = nothing plan first second (outcomes.difference-refused plan first second h)

pub part-inside : promise.PartInside
part-inside plan first second = let I = outcomes.part-inside plan first second in (I.ordered, I.within)

-- ---- a row is handed back

hands-row : (plan first second : List ℕ) (r : ℕ) → difference plan first second ≡ row_part (code_of plan).n2 r → promise.HandsRow plan first second r
unfolding row_part
hands-row plan first second r e =
    let p = difference plan first second in
    let I = outcomes.part-inside plan first second in
    let n : p.end - p.start ≡ row_bytes (code_of plan).n2 = ap (λ (q : Part). q.end - q.start) e ∙ row-size (code_of plan).n2 r in
    let a : p.start ≡ r * row_bytes (code_of plan).n2 = ap (λ (q : Part). q.start) e in
    record {
      start = a;
      end = ap (λ (q : Part). q.end) e;
      size = part_length p second I ∙ n;
      bytes = λ k l. part-byte p second k (omega arith) ∙ ap (λ (x : ℕ). get_or second (x + k) 0) a;
    }

pub first-differs : promise.FirstDiffers
unfolding differing_row
first-differs plan first second i j P S T li lj h =
    let c = code_of plan in
    let r = differing_row c first second in
    let m : r ≤ i = least-most c.n1 (row_differs c first second) i (other_row plan first second i j lj h) in
    let l : r < c.n1 = omega arith in
    let B : BothInForm plan first second = record { accepted = accepted-plan plan P; first_form = S; second_form = T } in
    let e = outcomes.difference-row plan first second (ap (λ (v : Verdict). v.number) (boths-pass plan first second B)) l in (
      r,
      record {
        on_sheet = l;
        before = λ a b la lb. row_same plan first second a (least_first c.n1 (row_differs c first second) a la) b lb;
        here = row_other plan first second r (least-found c.n1 (row_differs c first second) l);
        hands = hands-row plan first second r e;
      },
    )

pub nothing-says-equal : promise.NothingSaysEqual
nothing-says-equal plan first second P S T e =
    same_bytes (code_of plan).n1 (code_of plan).n2 first second S T
    (λ i j li lj. go i j li lj (true-or-false (xor (cells_of plan first i j) (cells_of plan second i j))))
  where
    go : (i j : ℕ) → i < (code_of plan).n1 → j < (code_of plan).n2 → Truth (xor (cells_of plan first i j) (cells_of plan second i j))
        → promise.SameCell plan first second i j
    go i j li lj (is_false t) = xor-equal _ _ t
    go i j li lj (is_true t) =
        let F = first-differs plan first second i j P S T li lj (λ s. clash t (same-xor s)) in
        let n : length (promise.handed_back plan first second) ≡ row_bytes (code_of plan).n2 = F.1.hands.size in
        let z : length (promise.handed_back plan first second) ≡ 0 = ap length e in
        let p : 0 < row_bytes (code_of plan).n2 = row-some (code_of plan).n2 j lj in
        absurd (omega arith)
