-- Tables that agree make the same plan.
--
--   row_below, column-below   a power has as many digits as the degree says
--   tables-filled  words into which both tables of powers were laid hold them
--   power-tables   and are tables
--   joint-equal    equal entries give each cell the same joint entry
--   made-equal     and so the same check cells, and the same bytes
--   row-condition, column-condition   checks 8 and 9 of tables of powers
--   few-taken, held_bytes   check 16 and the bytes, from the cells that are held
--
-- Assumes nothing.
use mathlib.Core.Path.{◌≡◌, refl, sym, ap, ap₂, ◌∙◌}
use mathlib.Core.List.{List}
use Prim.Native.Nat.{ℕ, ◌+◌, ◌*◌, ◌/◌, ◌%◌, ◌^◌, ◌<◌}
use native.Mathlib.Nat.{mod-lt, div-lt_iff_lt-mul}
use native.Mathlib.Omega.{arith}
use borrow.Author.Tests.{ltb-false}
use lib.Dec.{ltb}
use lib.ListN.{length, get_or, take}
use lib.Pow.{pow_mono}
use lib.Seq.{get_or-take}
use Rattle.gf2.specs.Powers.{polynomial, PowersIn}
use Rattle.gf2.specs.Taking.{first_taken}
use Rattle.gf2.proofs.Multiplication.{polynomial-degree, power_below}
use Rattle.gf2.proofs.Taking.{taken-equal}
use Rattle.boxcode.specs.Code.{row_weight, column_weight, joint_weight}
use Rattle.plan.specs.declared.header.Header.{Header}
use Rattle.plan.specs.declared.table.Table.TheVariants.{Rows, Columns}
use Rattle.plan.specs.Table.{word_at}
use Rattle.plan.specs.Verdict.{refusal, verdict_if}
use Rattle.plan.specs.Header.{Small, ruled}
use Rattle.plan.specs.Bytes.{code_from}
use Rattle.plan.proofs.Sequence.{if-zero}
use Rattle.plan.proofs.Framing.{position-fits}
use Rattle.accept.specs.Verdict.{rows_verdict, columns_verdict}
use Rattle.accept.specs.Windows.{table_verdict}
use Rattle.accept.proofs.Tables.{table-condition}
use Rattle.encode.specs.Encode.{plan_bytes}
use Rattle.encode.proofs.Encoded.{encoded-equal}
use Rattle.maker.specs.declared.parameters.Parameters.{Parameters}
use Rattle.maker.specs.declared.taking.Taken.{Taken}
use Rattle.maker.specs.Taken.{bare_code, cell_joint, Tables, HeldTo}
use Rattle.maker.specs.Make.{header_for, row_table, column_table, taken_cells, made_code, taken_verdict, outcome}
use Rattle.maker.specs.Steps.{Degrees, PowerTables}

-- a power has as many digits as the degree says
pub row_below : (g : Parameters) → Degrees g → (k : ℕ) → row_table g k < 2 ^ g.rv
row_below g D = power_below g.rv (polynomial g.rv g.vlow) D.rv_pos (polynomial-degree g.rv g.vlow D.v_below)

pub column-below : (g : Parameters) → Degrees g → (k : ℕ) → column_table g k < 2 ^ g.rh
column-below g D = power_below g.rh (polynomial g.rh g.hlow) D.rh_pos (polynomial-degree g.rh g.hlow D.h_below)

-- two tables of powers laid out, in words that were 2,792 each
pub tables-filled : (g : Parameters) (rows₀ columns₀ rows columns : List ℕ) → length rows₀ ≡ 2792 → length columns₀ ≡ 2792
    → PowersIn (polynomial g.rv g.vlow) (g.n1 * g.b2) rows₀ rows → PowersIn (polynomial g.rh g.hlow) (g.n2 * g.b1) columns₀ columns
    → PowerTables g (header_for g) rows columns
unfolding ruled
tables-filled g rows₀ columns₀ rows columns r c P Q = record {
  rows_size = P.size ∙ r;
  columns_size = Q.size ∙ c;
  row = P.value;
  column = Q.value;
}

-- a power has at most 32 digits
pub power-tables : (g : Parameters) (h : Header) (rows columns : List ℕ) → Degrees g → PowerTables g h rows columns → Tables h rows columns
power-tables g h rows columns D P = record {
  rows_size = P.rows_size;
  columns_size = P.columns_size;
  rows_below = λ k l. rw (P.row k l) (omega (arith, row_below g D k, pow_mono {i = g.rv} {j = 32} D.rv_most));
  columns_below = λ k l. rw (P.column k l) (omega (arith, column-below g D k, pow_mono {i = g.rh} {j = 32} D.rh_most));
}

module _ (h : Header) (p : Small h) (v w v' w' : ℕ → ℕ) (same-v : (k : ℕ) → k < h.n1 * h.b2 → v k ≡ v' k)
    (same_w : (k : ℕ) → k < h.n2 * h.b1 → w k ≡ w' k) where
  joint-equal : (t : ℕ) → t < h.n1 * h.n2 → cell_joint (bare_code h v w) t ≡ cell_joint (bare_code h v' w') t
  unfolding cell_joint joint_weight row_weight column_weight
  joint-equal t l =
      let n2-pos : 0 < h.n2 = omega (arith, p.n2_least, p.b2_pos) in
      let row : t / h.n2 < h.n1 = (div-lt_iff_lt-mul n2-pos).1 l in
      let column = mod-lt t n2-pos in
      ap₂ (λ (a b : ℕ). a + 2 ^ h.rv * b) (same-v _ (position-fits (t / h.n2) (t % h.n2) h.b2 h.n1 row p.b2_pos))
      (same_w _ (position-fits (t % h.n2) (t / h.n2) h.b1 h.n2 column p.b1_pos))

  cells-equal : taken_cells h v w ≡ taken_cells h v' w'
  unfolding taken_cells first_taken
  cells-equal = ap (take (h.rv + h.rh)) (taken-equal _ _ (h.n1 * h.n2) joint-equal)

  pub made-equal : (plan : List ℕ)
      → outcome (taken_verdict h v w) (plan_bytes h (made_code h v w)) plan ≡ outcome (taken_verdict h v' w') (plan_bytes h (made_code h v' w')) plan
  unfolding taken_verdict made_code
  made-equal plan =
      let e = cells-equal in
      ap₂ (λ (n : ℕ) (s : List ℕ). outcome (verdict_if (ltb n (h.rv + h.rh)) (refusal 16 0 0)) s plan) (ap length e)
      (encoded-equal h v w _ _ v' w' _ _ same-v same_w (λ k _. ap (λ (ts : List ℕ). get_or ts k 0 / h.n2) e)
      (λ k _. ap (λ (ts : List ℕ). get_or ts k 0 % h.n2) e))

-- the conditions on tables of powers
module _ (g : Parameters) (h : Header) (p : Small h) (rows columns : List ℕ) (T : PowerTables g h rows columns) where
  pub row-condition : table_verdict h Rows (word_at rows) ≡ rows_verdict (bare_code h (row_table g) (column_table g))
  row-condition = table-condition h p Rows (row_table g) (column_table g) (λ k. 0) (λ k. 0) (word_at rows) T.row

  pub column-condition : table_verdict h Columns (word_at columns) ≡ columns_verdict (bare_code h (row_table g) (column_table g))
  column-condition = table-condition h p Columns (row_table g) (column_table g) (λ k. 0) (λ k. 0) (word_at columns) T.column

-- the check cells that are held: check 16, and the bytes of the plan where there are enough
module _ (h : Header) (rows columns : List ℕ) (t : Taken) (T : HeldTo h rows columns (h.n1 * h.n2) t) where
  pub few-taken : verdict_if (ltb t.count (h.rv + h.rh)) (refusal 16 0 0) ≡ taken_verdict h (word_at rows) (word_at columns)
  unfolding taken_verdict taken_cells
  few-taken = ap (λ (n : ℕ). verdict_if (ltb n (h.rv + h.rh)) (refusal 16 0 0)) T.number

  pub held_bytes : (taken_verdict h (word_at rows) (word_at columns)).number ≡ 0
      → plan_bytes h (code_from h (word_at rows) (word_at columns) (λ k. word_at t.cells k / h.n2) (λ k. word_at t.cells k % h.n2))
      ≡ plan_bytes h (made_code h (word_at rows) (word_at columns))
  unfolding taken_verdict taken_cells made_code
  held_bytes z =
      let ts = taken_cells h (word_at rows) (word_at columns) in
      let enough = ltb-false (length ts) (h.rv + h.rh) (if-zero _ 15 0 0 z) in
      let at : (k : ℕ) → k < h.rv + h.rh → word_at t.cells k ≡ get_or ts k 0 =
      λ k l. sym (get_or-take t.count t.cells k 0 (omega (arith, T.number, enough))) ∙ ap (λ (s : List ℕ). get_or s k 0) T.held in
      encoded-equal h (word_at rows) (word_at columns) _ _ (word_at rows) (word_at columns) _ _ (λ k _. refl) (λ k _. refl)
      (λ k l. ap (λ (n : ℕ). n / h.n2) (at k l)) (λ k l. ap (λ (n : ℕ). n % h.n2) (at k l))
