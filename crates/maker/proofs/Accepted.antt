-- A made plan is accepted (02, request a: "A made plan is always accepted").
--
--   made-accepted   the plan of two tables that meet the conditions, and of enough check cells that were taken
--   make-accepted   what a call makes that turns nothing back
--
-- Assumes nothing.
use mathlib.Core.Path.{◌≡◌, refl, sym, ap, ap₂, ◌∙◌}
use mathlib.Core.List.{List}
use Prim.Native.Nat.{ℕ, suc, ◌+◌, ◌*◌, ◌/◌, ◌%◌, ◌^◌, ◌<◌}
use native.Mathlib.Nat.{mod-lt, div-lt_iff_lt-mul}
use native.Mathlib.Omega.{arith}
use borrow.Author.Tests.{ltb-false}
use lib.Dec.{ltb}
use lib.ListN.{length, get_or}
use lib.Pow.{pow_mono}
use Rattle.gf2.specs.Independence.{Independent}
use Rattle.gf2.proofs.Independence.{independent-equal}
use Rattle.gf2.proofs.Taking.{first-most, first-inside, first-rising, first-independent}
use Rattle.boxcode.specs.Code.{Code, Formed, row_weight, column_weight, joint_weight, check_joint, cell_number}
use Rattle.boxcode.specs.Condition.{everyone}
use Rattle.boxcode.proofs.Check.{number-cell}
use Rattle.plan.specs.declared.verdict.Verdict.{Verdict}
use Rattle.plan.specs.declared.header.Header.{Header}
use Rattle.plan.specs.declared.table.Table.TheVariants.{Rows, Columns}
use Rattle.plan.specs.Verdict.{◌or_else◌}
use Rattle.plan.specs.Header.{header_of, ruled, Small, Framed}
use Rattle.plan.specs.Bytes.{row_entry_at, column_entry_at, check_row_at, check_column_at, code_from, code_with, code_of}
use Rattle.plan.proofs.Sequence.{else-zero, if-zero}
use Rattle.plan.proofs.Framing.{position-fits}
use Rattle.accept.specs.Verdict.{rows_verdict, columns_verdict, Accepted}
use Rattle.accept.proofs.Acceptance.{all_hold}
use Rattle.accept.proofs.Tables.{table-condition}
use Rattle.encode.specs.Encode.{plan_bytes}
use Rattle.encode.proofs.Encoded.{placed, encoded-length, encoded-header, encoded-row, encoded-column, encoded-check-row, encoded-check-column}
use Rattle.maker.specs.declared.parameters.Parameters.{Parameters}
use Rattle.maker.specs.Taken.{bare_code, cell_joint}
use Rattle.maker.specs.Make.{header_for, row_table, column_table, taken_cells, made_code, taken_verdict, given_checks, make_checks, outcome, make}
use Rattle.maker.proofs.Given.{given-good, ruled-twice}
use Rattle.maker.proofs.Tabled.{row_below, column-below}
use Rattle.maker.proofs.Made.{made-given, made_bytes}

module _ (h : Header) (p : Small h) (r : h ≡ ruled h) (v w : ℕ → ℕ) (v_below : (k : ℕ) → v k < 2 ^ h.rv) (w-below : (k : ℕ) → w k < 2 ^ h.rh)
    (enough : length (taken_cells h v w) ≡ h.rv + h.rh) where
  -- the cells, the bytes and the code that they stand for
  abbrev ts : List ℕ
  ts = taken_cells h v w

  abbrev row_at : ℕ → ℕ
  row_at k = get_or ts k 0 / h.n2

  abbrev column_at : ℕ → ℕ
  column_at k = get_or ts k 0 % h.n2

  abbrev s : List ℕ
  s = plan_bytes h (code_from h v w row_at column_at)

  abbrev c : Code
  c = code_with s h

  n2-pos : 0 < h.n2
  n2-pos = omega (arith, p.n2_least, p.b2_pos)

  -- a check cell lies on the sheet
  cell-inside : (k : ℕ) → k < h.rv + h.rh → get_or ts k 0 < h.n1 * h.n2
  unfolding taken_cells
  cell-inside k l = first-inside _ _ _ k (omega (arith, enough))

  row_inside : (k : ℕ) → k < h.rv + h.rh → row_at k < h.n1
  row_inside k l = (div-lt_iff_lt-mul n2-pos).1 (cell-inside k l)

  column-inside : (k : ℕ) → k < h.rv + h.rh → column_at k < h.n2
  column-inside k l = mod-lt (get_or ts k 0) n2-pos

  -- what is read is what was written
  row_read : (k : ℕ) → k < h.n1 * h.b2 → row_entry_at s k ≡ v k
  row_read k l = encoded-row h v w row_at column_at k l (omega (arith, v_below k, pow_mono {i = h.rv} {j = 32} p.rv_most))

  column-read : (k : ℕ) → k < h.n2 * h.b1 → column_entry_at s h k ≡ w k
  column-read k l = encoded-column h v w row_at column_at k l (omega (arith, w-below k, pow_mono {i = h.rh} {j = 32} p.rh_most))

  check-row-read : (k : ℕ) → k < h.rv + h.rh → check_row_at s h k ≡ row_at k
  check-row-read k l = encoded-check-row h v w row_at column_at k l (omega (arith, row_inside k l, p.n1_most))

  check-column-read : (k : ℕ) → k < h.rv + h.rh → check_column_at s h k ≡ column_at k
  check-column-read k l = encoded-check-column h v w row_at column_at k l (omega (arith, column-inside k l, p.n2_most))

  header_read : header_of s ≡ h
  header_read = encoded-header h v w row_at column_at p r

  framed : Framed s h
  framed = record {
    is = sym header_read;
    small = p;
    rows_at = (placed h r).rows_at;
    columns_from = (placed h r).columns_from;
    checks_at = (placed h r).checks_at;
    total_at = (placed h r).total_at;
    long = encoded-length h v w row_at column_at;
  }

  -- the number of a check cell, as it is read
  number_read : (k : ℕ) → k < h.rv + h.rh → cell_number c (c.check_row k) (c.check_column k) ≡ get_or ts k 0
  number_read k l = ap₂ (cell_number c) (check-row-read k l) (check-column-read k l) ∙ number-cell c (get_or ts k 0)

  rising : (k : ℕ) → suc k < h.rv + h.rh → get_or ts k 0 < get_or ts (suc k) 0
  unfolding taken_cells
  rising k l = first-rising _ _ _ k (omega (arith, enough))

  formed : Formed c
  formed = record {
    b1_pos = p.b1_pos;
    b1_most = p.b1_most;
    b2_pos = p.b2_pos;
    b2_most = p.b2_most;
    t_most = p.t_most;
    n1_least = p.n1_least;
    n1_most = p.n1_most;
    n2_least = p.n2_least;
    n2_most = p.n2_most;
    rv_pos = p.rv_pos;
    rv_most = p.rv_most;
    rh_pos = p.rh_pos;
    rh_most = p.rh_most;
    row_entries = λ k l. rw (row_read k l) (v_below k);
    column_entries = λ k l. rw (column-read k l) (w-below k);
    check_rows = λ k l. rw (check-row-read k l) (row_inside k l);
    check_columns = λ k l. rw (check-column-read k l) (column-inside k l);
    check_rising = λ k l. rw (number_read k (omega arith), number_read (suc k) l) (rising k l);
  }

  -- a joint entry, as it is read
  joint-read : (k : ℕ) → k < h.rv + h.rh → cell_joint (bare_code h v w) (get_or ts k 0) ≡ check_joint c k
  unfolding cell_joint check_joint joint_weight row_weight column_weight
  joint-read k l =
      let i = row_inside k l in
      let j = column-inside k l in
      sym (ap₂ (λ (x y : ℕ). row_entry_at s (x * h.b2 + y % h.b2) + 2 ^ h.rv * column_entry_at s h (y * h.b1 + x % h.b1))
      (check-row-read k l) (check-column-read k l)
      ∙ ap₂ (λ (x y : ℕ). x + 2 ^ h.rv * y) (row_read _ (position-fits (row_at k) (column_at k) h.b2 h.n1 i p.b2_pos))
      (column-read _ (position-fits (column_at k) (row_at k) h.b1 h.n2 j p.b1_pos)))

  taken : Independent (h.rv + h.rh) everyone (λ k. cell_joint (bare_code h v w) (get_or ts k 0))
  unfolding taken_cells
  taken = first-independent (cell_joint (bare_code h v w)) (h.rv + h.rh) (h.n1 * h.n2) enough

  checks : Independent (h.rv + h.rh) everyone (check_joint c)
  checks = independent-equal (h.rv + h.rh) everyone (λ k. cell_joint (bare_code h v w) (get_or ts k 0)) (check_joint c) joint-read taken

  -- the tables meet the conditions as they are read, where they do as they were made
  rows_same : rows_verdict c ≡ rows_verdict (bare_code h v w)
  rows_same =
      sym (table-condition h p Rows (row_entry_at s) (column_entry_at s h) (check_row_at s h) (check_column_at s h) v (λ k l. sym (row_read k l)))
      ∙ table-condition h p Rows v w (λ k. 0) (λ k. 0) v (λ k l. refl)

  columns-same : columns_verdict c ≡ columns_verdict (bare_code h v w)
  columns-same =
      sym (table-condition h p Columns (row_entry_at s) (column_entry_at s h) (check_row_at s h) (check_column_at s h) w (λ k l. sym (column-read k l)))
      ∙ table-condition h p Columns v w (λ k. 0) (λ k. 0) w (λ k l. refl)

  pub made-accepted : (rows_verdict (bare_code h v w)).number ≡ 0 → (columns_verdict (bare_code h v w)).number ≡ 0 → Accepted (plan_bytes h (made_code h v w))
  unfolding made_code code_of
  made-accepted rows columns =
      rw header_read (record {
        framed = framed;
        formed = formed;
        conditions =
            all_hold c formed (ap (λ (x : Verdict). x.number) rows_same ∙ rows) (ap (λ (x : Verdict). x.number) columns-same ∙ columns) checks;
      })

-- where check 16 gives 0, rv + rh cells are taken
taken-enough : (h : Header) (v w : ℕ → ℕ) → (taken_verdict h v w).number ≡ 0 → length (taken_cells h v w) ≡ h.rv + h.rh
unfolding taken_verdict taken_cells
taken-enough h v w e =
    let l = ltb-false _ (h.rv + h.rh) (if-zero (ltb (length (taken_cells h v w)) (h.rv + h.rh)) 15 0 0 e) in
    let u = first-most (cell_joint (bare_code h v w)) (h.rv + h.rh) (h.n1 * h.n2) in
    omega arith

pub make-accepted : (g : Parameters) (plan : List ℕ) → (make g plan).verdict.number ≡ 0 → Accepted (make g plan).plan
unfolding make outcome make_checks ruled
make-accepted g plan e =
    let h = header_for g in
    let v = row_table g in
    let w = column_table g in
    let d = bare_code h v w in
    let rest = (else-zero (given_checks g (length plan)) (rows_verdict d or_else columns_verdict d or_else taken_verdict h v w) e).1 in
    let rows = else-zero (rows_verdict d) (columns_verdict d or_else taken_verdict h v w) rest in
    let columns = else-zero (columns_verdict d) (taken_verdict h v w) rows.1 in
    let k = given-good g (length plan) (made-given g plan e) in
    rw (made_bytes g plan e)
    (made-accepted h k.small (ruled-twice g) v w (row_below g k.degrees) (column-below g k.degrees) (taken-enough h v w columns.1) rows.0
    columns.0)
