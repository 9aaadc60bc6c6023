-- The outcomes of asking where two scans first differ:
--
--   difference-refused    where a check fails, the empty part
--   difference-none       where no row differs, the empty part
--   difference-row        else the row
--   same_none, byte-part  the same by the first byte that differs: no byte does; one does, and its row is the part
--   byte_small            the numbers that the code works with then are small
--   Inside, part-inside   whatever it is, the part starts at or before its end, and ends in the second scan
--   part_small            and at or before byte 45056
--
-- Assumes nothing.
use mathlib.Core.Path.{◌≡◌, refl, ap, ◌∙◌}
use mathlib.Core.Bool.{Bool, true, false, cond, ◌&&◌}
use mathlib.Core.List.{List}
use Prim.Native.Nat.{ℕ, ◌+◌, ◌*◌, ◌/◌, ◌≤◌, ◌<◌}
use native.Mathlib.Nat.{le_trans, mul-le-mul_right}
use native.Mathlib.Omega.{arith}
use borrow.Author.Tests.{eq-eqb, ne_eqb, eqb-true, lt-ltb, le-ltb, ltb-true}
use lib.Dec.{eqb, ltb}
use lib.ListN.{length}
use Rattle.finite.proofs.Truth.{and-false, both}
use Rattle.layout.specs.Cells.{row_bytes, sheet_bytes}
use Rattle.layout.specs.Differ.{first_different}
use Rattle.layout.proofs.Form.{cell_row}
use Rattle.layout.proofs.Agreement.{different-le}
use Rattle.plan.specs.declared.verdict.Verdict.{Verdict}
use Rattle.plan.specs.Bytes.{code_of}
use Rattle.buffers.specs.Buffers.{scans_checks}
use Rattle.buffers.proofs.Passing.{BothInForm, both_zero, boths-pass, bytes_most}
use Rattle.difference.specs.declared.Part.{Part}
use Rattle.difference.specs.Difference.{differing_row, row_part, no_part, difference}
use Rattle.difference.proofs.Rows.{row-found, row-none}

pub record Inside (p : Part) (size : ℕ) : Type 0 where
  pub ordered : p.start ≤ p.end
  pub within : p.end ≤ size

module _ (plan first second : List ℕ) where
  abbrev row : ℕ
  row = differing_row (code_of plan) first second

  pub difference-refused : ((scans_checks plan first second).number ≡ 0 → ⊥) → difference plan first second ≡ no_part
  unfolding difference
  difference-refused h = rw (ne_eqb (scans_checks plan first second).number 0 h)

  pub difference-none : (code_of plan).n1 ≤ row → difference plan first second ≡ no_part
  unfolding difference
  difference-none l =
      ap (λ (b : Bool). cond b (row_part (code_of plan).n2 row) no_part)
      (ap (λ (b : Bool). eqb (scans_checks plan first second).number 0 && b) (le-ltb row (code_of plan).n1 l)
      ∙ and-false (eqb (scans_checks plan first second).number 0))

  pub difference-row : (scans_checks plan first second).number ≡ 0 → row < (code_of plan).n1
      → difference plan first second ≡ row_part (code_of plan).n2 row
  unfolding difference
  difference-row e l = rw (eq-eqb (scans_checks plan first second).number 0 e, lt-ltb row (code_of plan).n1 l)

  -- by the bytes: what the code looks at
  pub same_none : BothInForm plan first second → first_different first second ≡ length second → difference plan first second ≡ no_part
  same_none B e =
      let n : row ≡ (code_of plan).n1 = row-none (code_of plan) first second B.first_form B.second_form (e ∙ B.second_form.size) in
      difference-none (omega arith)

  pub byte-part : BothInForm plan first second → (first_different first second ≡ length second → ⊥)
      → difference plan first second ≡ row_part (code_of plan).n2 (first_different first second / row_bytes (code_of plan).n2)
  byte-part B h =
      let c = code_of plan in
      let l : first_different first second < sheet_bytes c.n1 c.n2 =
      let e = B.first_form.size in let f = B.second_form.size in let m = different-le first second in omega arith in
      let r : row ≡ first_different first second / row_bytes c.n2 = row-found c first second B.first_form B.second_form l in
      let u = cell_row c.n1 c.n2 (first_different first second) l in
      difference-row (ap (λ (v : Verdict). v.number) (boths-pass plan first second B)) (omega arith) ∙ ap (row_part c.n2) r

  -- and the numbers of it are small
  pub byte_small : BothInForm plan first second
      → (0 < row_bytes (code_of plan).n2) × ((code_of plan).n2 ≤ 1000000) × (first_different first second < 4294967296)
  unfolding sheet_bytes row_bytes
  byte_small B =
      let F = B.accepted.formed in
      let m = bytes_most plan (row_bytes (code_of plan).n2) F refl in
      let u = different-le first second in
      let e : length first ≡ (code_of plan).n1 * row_bytes (code_of plan).n2 = B.first_form.size in
      (omega (arith, F.b2_pos, F.n2_least), omega (arith, F.n2_most), omega arith)

  -- row i of a sheet
  row_inside : (n1 n2 i : ℕ) → i < n1 → Inside (row_part n2 i) (sheet_bytes n1 n2)
  unfolding row_part sheet_bytes
  row_inside n1 n2 i l =
      let m : (i + 1) * row_bytes n2 ≤ n1 * row_bytes n2 = mul-le-mul_right (row_bytes n2) (let z : i + 1 ≤ n1 = omega arith in z) in
      let n : i * row_bytes n2 ≤ (i + 1) * row_bytes n2 = mul-le-mul_right (row_bytes n2) (let z : i ≤ i + 1 = omega arith in z) in
      record { ordered = n; within = m }

  -- an upper bound of a sheet's bytes is one of the part's end
  module _ (m : ℕ) (most : BothInForm plan first second → sheet_bytes (code_of plan).n1 (code_of plan).n2 ≤ m) where
    inside-most : Inside (difference plan first second) m
    unfolding difference
    inside-most = go (eqb (scans_checks plan first second).number 0 && ltb row (code_of plan).n1) refl
      where
        go : (b : Bool) → (eqb (scans_checks plan first second).number 0 && ltb row (code_of plan).n1) ≡ b
            → Inside (cond b (row_part (code_of plan).n2 row) no_part) m
        go true e =
            let p = both _ _ e in
            let B = both_zero plan first second (eqb-true (scans_checks plan first second).number 0 p.0) in
            let I = row_inside (code_of plan).n1 (code_of plan).n2 row (ltb-true row (code_of plan).n1 p.1) in
            record { ordered = I.ordered; within = le_trans I.within (most B) }
        go false e = record { ordered = omega arith; within = omega arith }

  pub part-inside : Inside (difference plan first second) (length second)
  part-inside = inside-most (length second) (λ B. let e = B.second_form.size in omega arith)

  pub part_small : Inside (difference plan first second) 45056
  unfolding sheet_bytes
  part_small = inside-most 45056 (λ B. bytes_most plan (row_bytes (code_of plan).n2) B.accepted.formed refl)
