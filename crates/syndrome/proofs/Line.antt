-- A walk along the bytes of a row:
--
--   cell-in-byte                     the cells of a byte of a row are its digits
--   row_inside                       the bytes of a row stand in those of the sheet
--   Line, line_first, line-next      where the walk stands after b bytes
--   words_of                         the tables of a row are as gathering asks
--   row-tables, column-tables        the weights by the tables are those of the code
--   line_row, line-column, line-done so the sums at the row's end are the row's
--
-- Assumes nothing.
use mathlib.Core.Path.{◌≡◌, sym, ap, ap₂, ◌∙◌}
use mathlib.Core.Bool.{Bool}
use mathlib.Core.List.{List}
use Prim.Native.Nat.{ℕ, ◌+◌, ◌-◌, ◌*◌, ◌/◌, ◌%◌, ◌≤◌, ◌<◌, min}
use native.Mathlib.Nat.{mod-lt, mul-le-mul_right, suc-mul}
use native.Mathlib.Omega.{arith}
use lib.Bits.{bit_xor}
use lib.ListN.{length, get_or}
use lib.Arith.{digits_lt}
use Rattle.finite.specs.Search.{bit}
use Rattle.gf2.specs.Xor.{◌⊕◌, pick}
use Rattle.gf2.specs.Sum.{chosen_sum}
use Rattle.gf2.proofs.Xor.{xor_is}
use Rattle.gf2.proofs.Sum.{sum-none}
use Rattle.layout.specs.Cells.{row_bytes, sheet_bytes, byte_of, cell_of}
use Rattle.boxcode.specs.Code.{row_weight, column_weight}
use Rattle.boxcode.specs.Syndrome.{Cells}
use Rattle.boxcode.specs.Run.{row_sum}
use Rattle.plan.specs.Header.{Framed}
use Rattle.plan.specs.Bytes.{row_entry_at, code_with}
use Rattle.plan.specs.Table.{Unpacked}
use Rattle.plan.specs.declared.header.Header.{Header}
use Rattle.syndrome.specs.declared.sums.Sums.{Sums}
use Rattle.syndrome.specs.Gather.{byte_sum, rows_at, columns_at, RowWords, Words, TwoSums}
use Rattle.syndrome.proofs.Part.{line-byte, line-equal, line-below, row-weight, column-weight}

pub cell-in-byte : (n2 : ℕ) (s : List ℕ) (i b t : ℕ) → t < 8 → cell_of n2 s i (8 * b + t) ≡ bit (get_or s (i * row_bytes n2 + b) 0) t
unfolding cell_of byte_of
cell-in-byte n2 s i b t l =
    let q : (8 * b + t) / 8 ≡ b = omega arith in
    let r : (8 * b + t) % 8 ≡ t = omega arith in
    ap₂ (λ (x y : ℕ). bit (get_or s (i * row_bytes n2 + x) 0) y) q r

-- the bytes of row i stand in those of the sheet
pub row_inside : (n1 n2 i size : ℕ) (s : List ℕ) → size ≡ row_bytes n2 → length s ≡ sheet_bytes n1 n2 → i < n1 → i * size + size ≤ length s
unfolding sheet_bytes
row_inside n1 n2 i size s e f l =
    let rows : (i + 1) * size ≤ n1 * size = mul-le-mul_right size (omega arith) in
    let all : n1 * size ≡ length s = rw e (sym f) in
    omega (arith, suc-mul i size, rows, all)

-- after b bytes: the sums of the cells passed, of weights f and g
pub record Line (n2 : ℕ) (p : ℕ → Bool) (f g : ℕ → ℕ) (row column b : ℕ) : Type 0 where
  pub row_is : row ≡ chosen_sum (min (8 * b) n2) p f
  pub column_is : column ≡ chosen_sum (min (8 * b) n2) p g

pub line_first : (n2 : ℕ) (p : ℕ → Bool) (f g : ℕ → ℕ) → Line n2 p f g 0 0 0
line_first n2 p f g =
    let e : min (8 * 0) n2 ≡ 0 = omega arith in
    record {
      row_is = sym (ap (λ (n : ℕ). chosen_sum n p f) e ∙ sum-none (λ k. pick (p k) (f k)));
      column_is = sym (ap (λ (n : ℕ). chosen_sum n p g) e ∙ sum-none (λ k. pick (p k) (g k)));
    }

pub line-next : (n2 : ℕ) (p : ℕ → Bool) (f g : ℕ → ℕ) (row column b x : ℕ) (r : Sums) → Line n2 p f g row column b → 8 * b < n2
    → ((t : ℕ) → t < 8 → p (8 * b + t) ≡ bit x t)
    → TwoSums (byte_sum f x (8 * b) (min 8 (n2 - 8 * b))) (byte_sum g x (8 * b) (min 8 (n2 - 8 * b))) r
    → Line n2 p f g (bit_xor row r.row) (bit_xor column r.column) (b + 1)
line-next n2 p f g row column b x r L l cells two = record {
  row_is = added f row r.row L.row_is two.row;
  column_is = added g column r.column L.column_is two.column;
}
  where
    added : (w : ℕ → ℕ) (a v : ℕ) → a ≡ chosen_sum (min (8 * b) n2) p w → v ≡ byte_sum w x (8 * b) (min 8 (n2 - 8 * b))
        → bit_xor a v ≡ chosen_sum (min (8 * (b + 1)) n2) p w
    added w a v ea ev =
        let before : min (8 * b) n2 ≡ 8 * b = omega arith in
        let after : 8 * b + min 8 (n2 - 8 * b) ≡ min (8 * (b + 1)) n2 = omega arith in
        xor_is a v
        ∙ ap₂ ◌⊕◌ (ea ∙ ap (λ (k : ℕ). chosen_sum k p w) before) ev
        ∙ sym (line-byte w p x (8 * b) (min 8 (n2 - 8 * b)) (λ t lt. cells t (omega arith)))
        ∙ ap (λ (k : ℕ). chosen_sum k p w) after

-- ---- the tables of a plan

module _ (s : List ℕ) (h : Header) (F : Framed s h) (columns : List ℕ) (U : Unpacked s h columns)
    (i : ℕ) (li : i < h.n1) (rows : List ℕ) (R : RowWords (λ k. row_entry_at s (i * h.b2 + k)) h.b2 rows) where
  pub words_of : Words h.n2 h.b1 h.b2 (i % h.b1) rows columns
  words_of = record {
    n2_most = F.small.n2_most;
    b1_most = F.small.b1_most;
    b2_pos = F.small.b2_pos;
    b2_most = F.small.b2_most;
    q_below = mod-lt i F.small.b1_pos;
    rows_long = let a = F.small.b2_most in let b = R.size in omega arith;
    rows_below = R.below;
    columns_long = let a = F.small.column_positions in let b = U.size in omega arith;
    columns_below = U.below;
  }

  pub row-tables : (j : ℕ) → rows_at h.b2 rows j ≡ row_weight (code_with s h) i j
  unfolding rows_at row_weight
  row-tables j = R.entry (j % h.b2) (mod-lt j F.small.b2_pos)

  pub column-tables : (j : ℕ) → j < h.n2 → columns_at h.b1 (i % h.b1) columns j ≡ column_weight (code_with s h) i j
  unfolding columns_at column_weight
  column-tables j l = U.entry (j * h.b1 + i % h.b1) (digits_lt l (mod-lt i F.small.b1_pos))

  pub line_row : (t : Cells) → chosen_sum h.n2 (t i) (rows_at h.b2 rows) ≡ row_sum h.n2 (row_weight (code_with s h)) t i
  unfolding row_sum
  line_row t = line-equal h.n2 (t i) (rows_at h.b2 rows) (row_weight (code_with s h) i) (λ j l. row-tables j)

  pub line-column : (t : Cells) → chosen_sum h.n2 (t i) (columns_at h.b1 (i % h.b1) columns) ≡ row_sum h.n2 (column_weight (code_with s h)) t i
  unfolding row_sum
  line-column t = line-equal h.n2 (t i) (columns_at h.b1 (i % h.b1) columns) (column_weight (code_with s h) i) column-tables

  pub line-done : (t : Cells) (row column b : ℕ) → b ≡ row_bytes h.n2
      → Line h.n2 (t i) (rows_at h.b2 rows) (columns_at h.b1 (i % h.b1) columns) row column b
      → TwoSums (row_sum h.n2 (row_weight (code_with s h)) t i) (row_sum h.n2 (column_weight (code_with s h)) t i) (record { row = row; column = column })
  unfolding row_bytes
  line-done t row column b e L =
      let n : min (8 * b) h.n2 ≡ h.n2 = omega arith in
      let v : row ≡ chosen_sum h.n2 (t i) (rows_at h.b2 rows) = L.row_is ∙ ap (λ (k : ℕ). chosen_sum k (t i) (rows_at h.b2 rows)) n in
      let w : column ≡ chosen_sum h.n2 (t i) (columns_at h.b1 (i % h.b1) columns) =
      L.column_is ∙ ap (λ (k : ℕ). chosen_sum k (t i) (columns_at h.b1 (i % h.b1) columns)) n in
      record {
        row = v ∙ line_row t;
        column = w ∙ line-column t;
        row_below =
            rw v (line-below 32 h.n2 (t i) (rows_at h.b2 rows) (λ j l. row-weight h.n2 h.b1 h.b2 (i % h.b1) rows columns words_of j));
        column_below =
            rw w
            (line-below 32 h.n2 (t i) (columns_at h.b1 (i % h.b1) columns)
            (λ j l. column-weight h.n2 h.b1 h.b2 (i % h.b1) rows columns words_of j l));
      }
