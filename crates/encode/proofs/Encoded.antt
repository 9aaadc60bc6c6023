-- The bytes of a plan, read back:
--
--   Placed, placed                           the places and the length of a header by the rule
--   encoded-length                           as many bytes as the rule says
--   plan-written                             what the four steps of writing leave
--   encoded-header                           the header is read back
--   encoded-row, encoded-column              entry k of each table is read back
--   encoded-check-row, encoded-check-column  pair k of the check list is read back
--   encoded-equal                            equal entries and pairs have equal bytes
--
-- Assumes nothing.
use mathlib.Core.Path.{◌≡◌, sym, ap, ap₂, ◌∙◌}
use mathlib.Core.List.{List, [], ◌++◌, append_assoc, append-nil}
use Prim.Native.Nat.{ℕ, ◌+◌, ◌*◌, ◌/◌, ◌%◌, ◌<◌}
use native.Mathlib.Omega.{arith}
use lib.ListN.{length, length-append}
use Rattle.layout.specs.Number.{u16_at, u32_at, low_bytes, overwritten}
use Rattle.layout.proofs.Overwriting.{overwritten-append, overwritten-whole}
use Rattle.plan.specs.declared.header.Header.{Header}
use Rattle.plan.specs.Header.{header_length, header_of, columns_start, checks_start, plan_length, ruled, Small}
use Rattle.plan.specs.Bytes.{row_entry_at, column_entry_at, check_row_at, check_column_at, code_from}
use Rattle.encode.specs.Encode.{header_bytes, table_bytes, list_bytes, plan_bytes}
use Rattle.encode.proofs.Pieces.{header-length, table-length, list_length, table-equal, list-equal, table-read, list-row, list-column}

-- ---- places by the rule

pub record Placed (h : Header) : Type 0 where
  pub rows_at : h.rows ≡ header_length
  pub columns_from : h.columns ≡ columns_start h
  pub checks_at : h.checks ≡ checks_start h
  pub total_at : h.total ≡ plan_length h

pub placed : (h : Header) → h ≡ ruled h → Placed h
unfolding ruled
placed h e = record {
  rows_at = ap (λ (x : Header). x.rows) e;
  columns_from = ap (λ (x : Header). x.columns) e;
  checks_at = ap (λ (x : Header). x.checks) e;
  total_at = ap (λ (x : Header). x.total) e;
}

module _ (h : Header) (v w row column : ℕ → ℕ) where
  -- ---- the length

  pub encoded-length : length (plan_bytes h (code_from h v w row column)) ≡ plan_length h
  unfolding plan_bytes
  encoded-length =
      let a = header-length h in
      let b = table-length v (h.n1 * h.b2) in
      let c = table-length w (h.n2 * h.b1) in
      let d = list_length row column (h.rv + h.rh) in
      let x = length-append (header_bytes h) (table_bytes (h.n1 * h.b2) v ++ (table_bytes (h.n2 * h.b1) w ++ list_bytes (h.rv + h.rh) row column)) in
      let y = length-append (table_bytes (h.n1 * h.b2) v) (table_bytes (h.n2 * h.b1) w ++ list_bytes (h.rv + h.rh) row column) in
      let z = length-append (table_bytes (h.n2 * h.b1) w) (list_bytes (h.rv + h.rh) row column) in
      omega arith

  -- ---- the four steps of writing

  pub plan-written : (s s1 s2 s3 s4 : List ℕ) → h ≡ ruled h → length s ≡ plan_length h → s1 ≡ overwritten s 0 (header_bytes h)
      → s2 ≡ overwritten s1 header_length (table_bytes (h.n1 * h.b2) v) → s3 ≡ overwritten s2 h.columns (table_bytes (h.n2 * h.b1) w)
      → s4 ≡ overwritten s3 h.checks (list_bytes (h.rv + h.rh) row column) → s4 ≡ plan_bytes h (code_from h v w row column)
  plan-written s s1 s2 s3 s4 r l e1 e2 e3 e4 =
      e4
      ∙ ap₂ (λ (t : List ℕ) (o : ℕ). overwritten t o z) e3 p3
      ∙ sym (overwritten-append s2 h.columns y z)
      ∙ ap₂ (λ (t : List ℕ) (o : ℕ). overwritten t o (y ++ z)) e2 p2
      ∙ sym (overwritten-append s1 header_length x (y ++ z))
      ∙ ap₂ (λ (t : List ℕ) (o : ℕ). overwritten t o (x ++ (y ++ z))) e1 p1
      ∙ sym (overwritten-append s 0 (header_bytes h) (x ++ (y ++ z)))
      ∙ whole
    where
      x : List ℕ
      x = table_bytes (h.n1 * h.b2) v

      y : List ℕ
      y = table_bytes (h.n2 * h.b1) w

      z : List ℕ
      z = list_bytes (h.rv + h.rh) row column

      p3 : h.checks ≡ h.columns + length y
      p3 = let a = placed h r in let c = table-length w (h.n2 * h.b1) in omega arith

      p2 : h.columns ≡ header_length + length x
      p2 = let a = placed h r in let c = table-length v (h.n1 * h.b2) in omega arith

      p1 : header_length ≡ 0 + length (header_bytes h)
      p1 = let a = header-length h in omega arith

      whole : overwritten s 0 (header_bytes h ++ (x ++ (y ++ z))) ≡ plan_bytes h (code_from h v w row column)
      whole = unfold plan_bytes in overwritten-whole s (header_bytes h ++ (x ++ (y ++ z))) (encoded-length ∙ sym l)

  -- ---- read back

  pub encoded-row : (k : ℕ) → k < h.n1 * h.b2 → v k < 4294967296 → row_entry_at (plan_bytes h (code_from h v w row column)) k ≡ v k
  unfolding plan_bytes
  encoded-row k l b =
      ap (λ (o : ℕ). u32_at (plan_bytes h (code_from h v w row column)) (o + 4 * k)) (sym (header-length h))
      ∙ table-read v (h.n1 * h.b2) k l b (header_bytes h) (table_bytes (h.n2 * h.b1) w ++ list_bytes (h.rv + h.rh) row column)

  -- the bytes before the column table, and before the check list
  before-columns : List ℕ
  before-columns = header_bytes h ++ table_bytes (h.n1 * h.b2) v

  before-checks : List ℕ
  before-checks = header_bytes h ++ table_bytes (h.n1 * h.b2) v ++ table_bytes (h.n2 * h.b1) w

  columns-place : columns_start h ≡ length before-columns
  unfolding before-columns
  columns-place =
      let a = header-length h in
      let b = table-length v (h.n1 * h.b2) in
      let x = length-append (header_bytes h) (table_bytes (h.n1 * h.b2) v) in
      omega arith

  checks-place : checks_start h ≡ length before-checks
  unfolding before-checks before-columns
  checks-place =
      let a = columns-place in
      let b = table-length w (h.n2 * h.b1) in
      let x = length-append (header_bytes h ++ table_bytes (h.n1 * h.b2) v) (table_bytes (h.n2 * h.b1) w) in
      omega arith

  columns-split : plan_bytes h (code_from h v w row column)
      ≡ before-columns ++ (table_bytes (h.n2 * h.b1) w ++ list_bytes (h.rv + h.rh) row column)
  unfolding plan_bytes before-columns
  columns-split =
      sym (append_assoc (header_bytes h) (table_bytes (h.n1 * h.b2) v) (table_bytes (h.n2 * h.b1) w ++ list_bytes (h.rv + h.rh) row column))

  checks-split : plan_bytes h (code_from h v w row column) ≡ before-checks ++ (list_bytes (h.rv + h.rh) row column ++ [])
  unfolding before-checks before-columns
  checks-split =
      let z = list_bytes (h.rv + h.rh) row column in
      columns-split
      ∙ sym (append_assoc (header_bytes h ++ table_bytes (h.n1 * h.b2) v) (table_bytes (h.n2 * h.b1) w) z)
      ∙ ap (λ (t : List ℕ). header_bytes h ++ table_bytes (h.n1 * h.b2) v ++ table_bytes (h.n2 * h.b1) w ++ t) (sym (append-nil z))

  pub encoded-column : (k : ℕ) → k < h.n2 * h.b1 → w k < 4294967296 → column_entry_at (plan_bytes h (code_from h v w row column)) h k ≡ w k
  encoded-column k l b =
      ap₂ (λ (s : List ℕ) (o : ℕ). u32_at s (o + 4 * k)) columns-split columns-place
      ∙ table-read w (h.n2 * h.b1) k l b before-columns (list_bytes (h.rv + h.rh) row column)

  pub encoded-check-row : (k : ℕ) → k < h.rv + h.rh → row k < 65536 → check_row_at (plan_bytes h (code_from h v w row column)) h k ≡ row k
  encoded-check-row k l b =
      ap₂ (λ (s : List ℕ) (o : ℕ). u16_at s (o + 4 * k)) checks-split checks-place
      ∙ list-row row column (h.rv + h.rh) k l b before-checks []

  pub encoded-check-column : (k : ℕ) → k < h.rv + h.rh → column k < 65536
      → check_column_at (plan_bytes h (code_from h v w row column)) h k ≡ column k
  encoded-check-column k l b =
      ap₂ (λ (s : List ℕ) (o : ℕ). u16_at s (o + 4 * k + 2)) checks-split checks-place
      ∙ list-column row column (h.rv + h.rh) k l b before-checks []

  -- two bytes of a number, put together
  two : (x : ℕ) → x < 65536 → x % 256 + 256 * (x / 256 % 256) ≡ x
  two x l = omega arith

  pub encoded-header : Small h → h ≡ ruled h → header_of (plan_bytes h (code_from h v w row column)) ≡ h
  unfolding header_of u16_at plan_bytes header_bytes low_bytes
  encoded-header s r =
      let a = placed h r in
      let p = s.row_positions in
      let q = s.column_positions in
      λ i. record {
        n1 = two h.n1 (omega (arith, s.n1_most)) i;
        n2 = two h.n2 (omega (arith, s.n2_most)) i;
        b1 = two h.b1 (omega (arith, s.b1_most)) i;
        b2 = two h.b2 (omega (arith, s.b2_most)) i;
        rv = two h.rv (omega (arith, s.rv_most)) i;
        rh = two h.rh (omega (arith, s.rh_most)) i;
        rows = two h.rows (omega arith) i;
        columns = two h.columns (omega arith) i;
        checks = two h.checks (omega arith) i;
        total = two h.total (omega (arith, s.rv_most, s.rh_most)) i;
        t = two h.t (omega (arith, s.t_most)) i;
      }

-- ---- equal entries and pairs

pub encoded-equal : (h : Header) (v w row column v' w' row' column' : ℕ → ℕ) → ((k : ℕ) → k < h.n1 * h.b2 → v k ≡ v' k)
    → ((k : ℕ) → k < h.n2 * h.b1 → w k ≡ w' k) → ((k : ℕ) → k < h.rv + h.rh → row k ≡ row' k) → ((k : ℕ) → k < h.rv + h.rh → column k ≡ column' k)
    → plan_bytes h (code_from h v w row column) ≡ plan_bytes h (code_from h v' w' row' column')
unfolding plan_bytes
encoded-equal h v w row column v' w' row' column' ev ew er ec =
    ap (λ (t : List ℕ). header_bytes h ++ t)
    (ap₂ (λ (s t : List ℕ). s ++ t) (table-equal v v' (h.n1 * h.b2) ev)
    (ap₂ (λ (s t : List ℕ). s ++ t) (table-equal w w' (h.n2 * h.b1) ew) (list-equal row column row' column' (h.rv + h.rh) er ec)))
