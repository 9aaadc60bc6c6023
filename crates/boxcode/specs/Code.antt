-- A code: the numbers and tables of a plan, as functions (document 01, "Plan bytes").
--
--   Code            n1 rows (01: courses), n2 columns (01: needles), bursts (01: blots) of b1 rows by b2 columns and, where t is not 0,
--                   of at most t cells (02 m), entries of rv and rh bits, the row table V, the column table H and the list of check cells
--   row_weight      the V entry of cell (i, j)
--   column_weight   the H entry of cell (i, j)
--   joint_weight    the joint entry, V + 2 to the power rv × H
--   check_joint     the joint entry of check cell number k
--   Formed          the rules of form that checks 2 to 7 leave true of an accepted plan
use Rattle.std.specs.Prelude.{ℕ, suc, ◌+◌, ◌*◌, ◌%◌, ◌^◌, ◌≤◌, ◌<◌}

pub record Code : Type 0 where
  pub n1 : ℕ
  pub n2 : ℕ
  pub b1 : ℕ
  pub b2 : ℕ
  pub t : ℕ
  pub rv : ℕ
  pub rh : ℕ
  pub row_entry : ℕ → ℕ
  pub column_entry : ℕ → ℕ
  pub check_row : ℕ → ℕ
  pub check_column : ℕ → ℕ

unfoldable pub row_weight : Code → ℕ → ℕ → ℕ
row_weight c i j = c.row_entry (i * c.b2 + j % c.b2)

unfoldable pub column_weight : Code → ℕ → ℕ → ℕ
column_weight c i j = c.column_entry (j * c.b1 + i % c.b1)

unfoldable pub joint_weight : Code → ℕ → ℕ → ℕ
joint_weight c i j = row_weight c i j + 2 ^ c.rv * column_weight c i j

unfoldable pub check_joint : Code → ℕ → ℕ
check_joint c k = joint_weight c (c.check_row k) (c.check_column k)

-- the number of a cell in sheet order
unfoldable pub cell_number : Code → ℕ → ℕ → ℕ
cell_number c i j = i * c.n2 + j

pub record Formed (c : Code) : Type 0 where
  pub b1_pos : 1 ≤ c.b1
  pub b1_most : c.b1 ≤ 4
  pub b2_pos : 1 ≤ c.b2
  pub b2_most : c.b2 ≤ 4
  pub t_most : c.t ≤ 2
  pub n1_least : c.b1 ≤ c.n1
  pub n1_most : c.n1 ≤ 512
  pub n2_least : c.b2 ≤ c.n2
  pub n2_most : c.n2 ≤ 698
  pub rv_pos : 1 ≤ c.rv
  pub rv_most : c.rv ≤ 32
  pub rh_pos : 1 ≤ c.rh
  pub rh_most : c.rh ≤ 32
  pub row_entries : (k : ℕ) → k < c.n1 * c.b2 → c.row_entry k < 2 ^ c.rv
  pub column_entries : (k : ℕ) → k < c.n2 * c.b1 → c.column_entry k < 2 ^ c.rh
  pub check_rows : (k : ℕ) → k < c.rv + c.rh → c.check_row k < c.n1
  pub check_columns : (k : ℕ) → k < c.rv + c.rh → c.check_column k < c.n2
  pub check_rising : (k : ℕ) → suc k < c.rv + c.rh
      → cell_number c (c.check_row k) (c.check_column k) < cell_number c (c.check_row (suc k)) (c.check_column (suc k))
