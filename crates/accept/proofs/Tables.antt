-- The search on a table is the search of the code.
--
--   taken-small       the words of a table are small
--   table-windows     all windows of a table lie in it
--   pair-equal, windows-equal   equal entries have the same pairs, and the same first pair that fails
--   pass-any, pass-few   the test of two windows, where t is 0 and where it is not
--   table-condition   where a table has the entries of a code, the check of its pairs is the code's
--   plan-condition    the same of a plan's table, unpacked
--
-- Assumes nothing.
use mathlib.Core.Path.{◌≡◌, sym, ap, ap₂, ◌∙◌}
use mathlib.Core.Bool.{Bool, cond}
use mathlib.Core.List.{List, [], ◌++◌}
use Prim.Native.Nat.{ℕ, suc, ◌+◌, ◌-◌, ◌*◌, ◌%◌, ◌≤◌, ◌<◌, max}
use native.Mathlib.Nat.{mod-lt, add-mul, suc-mul, mul-le-mul_right, mul_comm}
use native.Mathlib.Omega.{arith}
use lib.Dec.{eqb}
use borrow.Author.Tests.{eq-eqb, ne_eqb}
use lib.ListN.{length, take}
use lib.Seq.{length-take-le, get_or-take}
use Rattle.gf2.specs.Xor.{◌⊕◌}
use Rattle.gf2.specs.Vectors.{free_from}
use Rattle.gf2.specs.Powers.{Digits32}
use Rattle.finite.specs.Search.{within}
use Rattle.gf2.proofs.Sparse.{apart-equal, free-equal}
use Rattle.gf2.proofs.Runs.{run-equal}
use Rattle.boxcode.specs.Condition.{row_pair_free, column_pair_free}
use Rattle.plan.specs.declared.header.Header.{Header}
use Rattle.plan.specs.declared.table.Table.{Table}
use Rattle.plan.specs.declared.table.Table.TheVariants.{Rows, Columns}
use Rattle.plan.specs.Header.{Small}
use Rattle.plan.specs.Bytes.{row_entry_at, column_entry_at, check_row_at, check_column_at, code_from, code_with}
use Rattle.plan.specs.Table.{entries_of, word_at, EntriesIn}
use Rattle.accept.specs.Pairs.{first_failing, pair_verdict}
use Rattle.accept.specs.Verdict.{rows_verdict, columns_verdict}
use Rattle.accept.specs.Windows.{reduction, rest_run, pair_list, pair_free, windows_free, sparse_free, few_free, start_of, Windows, Entries32}
use Rattle.accept.specs.Windows.{step_of, window_size, windows_of, table_pass, windows_pass, table_of, table_verdict, condition_of}
use Rattle.accept.proofs.Pairing.{pairs-equal}
use Rattle.accept.proofs.Shift.{start-from, window-in}
use Rattle.accept.proofs.RowPairs.{row-pair}
use Rattle.accept.proofs.SparseColumns.{column-pair}

pub taken-small : (n : ℕ) (words : List ℕ) → n ≤ length words → Entries32 n words → Digits32 (take n words)
taken-small n words room small k l =
    let u : k < n = omega (arith, length-take-le n words room) in
    rw (get_or-take n words k 0 u) (small k u)

-- windows of b lines each of n, with step entries a line
windows-fit : (n b step : ℕ) → 1 ≤ b → b ≤ n → n ≤ 698 → 1 ≤ step → b * step ≤ 16 → n * step ≤ 2792
    → Windows (n * step) step (b * step) (n - b + 1)
windows-fit n b step b1 bn few s1 size most = record {
  size_pos = omega (arith, mul-le-mul_right step b1, suc-mul 0 step);
  size_most = size;
  some = omega arith;
  most = omega arith;
  inside =
      let e : n - b + 1 + b ≡ suc n = omega arith in
      omega (arith, add-mul (n - b + 1) b step, ap (λ (x : ℕ). x * step) e, suc-mul n step);
  few = most;
}

pub table-windows : (h : Header) → Small h → (t : Table) → Windows (entries_of h t) (step_of h t) (window_size h t) (windows_of h t)
table-windows h p Rows =
    windows-fit h.n1 h.b1 h.b2 p.b1_pos p.n1_least (omega (arith, p.n1_most)) p.b2_pos p.box_positions
    (omega (arith, p.row_positions))
table-windows h p Columns =
    windows-fit h.n2 h.b2 h.b1 p.b2_pos p.n2_least p.n2_most p.b1_pos
    (omega (arith, p.box_positions, mul_comm h.b2 h.b1)) p.column_positions

-- equal entries have the same pairs
module _ (f g : ℕ → ℕ) (n : ℕ) (same : (k : ℕ) → k < n → f k ≡ g k) where
  rest-equal : (p q : ℕ → ℕ) (size a b : ℕ) → a ≤ b → ((k : ℕ) → a + size ≤ k → k < b + size → p k ≡ q k) → rest_run p size a b ≡ rest_run q size a b
  unfolding rest_run
  rest-equal p q size a b l h =
      let m = max (a + size) b in
      run-equal p q m m (b + size - m) (λ k u. h (m + k) (omega arith) (omega arith))

  pair-equal : (t : Table) (size a b : ℕ) → 1 ≤ size → a ≤ b → b + size ≤ n → pair_free t f size a b ≡ pair_free t g size a b
  unfolding pair_free pair_list
  pair-equal Rows size a b s l u =
      ap₂ (λ (x y : List ℕ). free_from [] (x ++ y)) (run-equal f g a a size (λ k v. same (a + k) (omega arith)))
      (rest-equal f g size a b l (λ k _ v. same k (omega arith)))
  pair-equal Columns size a b s l u = ap (free_from []) (rest-equal (reduction f a size) (reduction g a size) size a b l value)
    where
      value : (k : ℕ) → a + size ≤ k → k < b + size → reduction f a size k ≡ reduction g a size k
      value k v w =
          unfold reduction in
          ap₂ ◌⊕◌ (same k (omega arith)) (same (a + (k - a) % size) (let m = mod-lt (k - a) {m = size} (omega arith) in omega arith))

  sparse-equal : (t : Table) (most size a b : ℕ) → 1 ≤ size → a + size ≤ n → sparse_free t f most n size a b ≡ sparse_free t g most n size a b
  unfolding sparse_free
  sparse-equal Rows most size a b s u = apart-equal most n (within a size) (within b size) f g same
  sparse-equal Columns most size a b s u =
      free-equal most n (within (max (a + size) b) (b + size - max (a + size) b)) (reduction f a size) (reduction g a size)
      (λ k l. unfold reduction in
      ap₂ ◌⊕◌ (same k l) (same (a + (k - a) % size) (let m = mod-lt (k - a) {m = size} (omega arith) in omega arith)))

  pub windows-equal : (t : Table) (most step size count : ℕ) → Windows n step size count
      → first_failing (table_pass t f most n step size) (start_of t) count ≡ first_failing (table_pass t g most n step size) (start_of t) count
  unfolding table_pass
  windows-equal t most step size count w =
      pairs-equal (table_pass t f most n step size) (table_pass t g most n step size) (start_of t) count
      (λ i j li l u.
      let m : i ≤ j = (let b = start-from t i in omega arith) in
      ap₂ (λ (x y : Bool). cond (eqb most 0) x y) (pair-equal t size (i * step) (j * step) w.size_pos (mul-le-mul_right step m) (window-in w j u))
      (sparse-equal t most size (i * step) (j * step) w.size_pos (window-in w i li)))

-- by what t is
pub pass-any : (t : Table) (f : ℕ → ℕ) (most n step size : ℕ) → most ≡ 0 → table_pass t f most n step size ≡ windows_free t f step size
unfolding table_pass
pass-any t f most n step size e =
    λ x i j. ap (λ (b : Bool). cond b (windows_free t f step size i j) (few_free t f most n step size i j)) (eq-eqb most 0 e) x

pub pass-few : (t : Table) (f : ℕ → ℕ) (most n step size : ℕ) → (most ≡ 0 → ⊥) → table_pass t f most n step size ≡ few_free t f most n step size
unfolding table_pass
pass-few t f most n step size e =
    λ x i j. ap (λ (b : Bool). cond b (windows_free t f step size i j) (few_free t f most n step size i j)) (ne_eqb most 0 e) x

pub table-condition : (h : Header) → Small h → (t : Table) (v w row column f : ℕ → ℕ) → ((k : ℕ) → k < entries_of h t → f k ≡ table_of t v w k)
    → table_verdict h t f ≡ condition_of (code_from h v w row column) t
unfolding table_verdict windows_pass rows_verdict columns_verdict
table-condition h p Rows v w row column f same =
    let c = code_from h v w row column in
    ap (pair_verdict 8)
    (windows-equal f v (h.n1 * h.b2) same Rows h.t _ _ _ (table-windows h p Rows)
    ∙ pairs-equal (windows_pass h Rows v) (row_pair_free c) (λ i. i) (h.n1 - h.b1 + 1)
    (λ i j _ l u. sym (row-pair h v w row column p.b2_pos i j l (omega (arith, p.n1_least)))))
table-condition h p Columns v w row column f same =
    let c = code_from h v w row column in
    ap (pair_verdict 9)
    (windows-equal f w (h.n2 * h.b1) same Columns h.t _ _ _ (table-windows h p Columns)
    ∙ pairs-equal (windows_pass h Columns w) (column_pair_free c) (λ a. a + 1) (h.n2 - h.b2 + 1)
    (λ i j _ l u. sym (column-pair h v w row column p.b1_pos p.b2_pos i j (omega arith) (omega (arith, p.n2_least)))))

pub plan-condition : (s : List ℕ) (h : Header) → Small h → (t : Table) (words : List ℕ) → EntriesIn s h t words
    → table_verdict h t (word_at words) ≡ condition_of (code_with s h) t
plan-condition s h p Rows words E =
    table-condition h p Rows (row_entry_at s) (column_entry_at s h) (check_row_at s h) (check_column_at s h) (word_at words) E.entry
plan-condition s h p Columns words E =
    table-condition h p Columns (row_entry_at s) (column_entry_at s h) (check_row_at s h) (check_column_at s h) (word_at words) E.entry
