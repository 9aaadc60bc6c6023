-- The sums of a sheet that is stored by columns, by blocks of eight rows:
--
--   byte-equal                 equal weights give a byte equal sums
--   part-byte                  the part of a column that stands in a block is one byte
--   byte_inside                it is a byte of the sheet
--   own-inside                 the H entries of a column stand in its table
--   part-words, part-done      the tables of a column are as gathering a byte asks, and the sums of its byte are those of its part
--   Passed, passed_none, passed-next, passed-all   the sums of the first j columns of a block; those of all are the block's
--   fed-no-block, fed-block    the sums of the blocks fed so far, the last one first
--   tables-of, plan-sums       the two tables of a plan, unpacked, are as gathering asks, and the sums by them are those of the plan
--
-- Assumes nothing.
use mathlib.Core.Path.{◌≡◌, refl, sym, ap, ◌∙◌}
use mathlib.Core.List.{List}
use Prim.Native.Nat.{ℕ, ◌+◌, ◌-◌, ◌*◌, ◌%◌, ◌≤◌, ◌<◌, min}
use native.Mathlib.Nat.{mod-lt, mul-le-mul_right, add-mul, one-mul}
use native.Mathlib.Numerals.{add-one}
use native.Mathlib.Omega.{arith}
use lib.Arith.{digits_lt}
use lib.Bits.{bit_xor}
use lib.ListN.{take, drop, get_or, length-take, length-drop}
use lib.Seq.{get_or-drop, get_or-take}
use Rattle.finite.specs.Search.{bit}
use Rattle.gf2.specs.Xor.{◌⊕◌, pick}
use Rattle.gf2.specs.Sum.{xor_sum, run_sum}
use Rattle.gf2.proofs.Xor.{xor_comm}
use Rattle.gf2.proofs.Sum.{sum-none, sum-next, sum-equal}
use Rattle.gf2.proofs.RunSum.{run-sum-empty, run-sum-rest, run-sum-equal, run-sum-exchange}
use Rattle.layout.specs.Cells.{row_bytes, sheet_bytes}
use Rattle.boxcode.specs.Code.{Code, row_weight, column_weight}
use Rattle.boxcode.specs.Syndrome.{Cells}
use Rattle.boxcode.specs.Run.{row_sum, row_syndrome_in, column_syndrome_in}
use Rattle.plan.specs.Header.{Framed}
use Rattle.plan.specs.Bytes.{code_with}
use Rattle.plan.specs.Table.{word_at, EntriesIn, Unpacked}
use Rattle.plan.specs.declared.header.Header.{Header}
use Rattle.plan.specs.declared.table.Table.TheVariants.{Rows}
use Rattle.syndrome.specs.declared.sums.Sums.{Sums}
use Rattle.syndrome.specs.Gather.{byte_sum, rows_at, columns_at, Words, TwoSums, ByteSums, RunSums}
use Rattle.syndrome.specs.Columns.{by_column, column_sum, tabled, Tables, PartSums}
use Rattle.syndrome.proofs.Two.{two_none, two-same, two-added}
use Rattle.syndrome.proofs.Line.{cell-in-byte}

pub byte-equal : (f g : ℕ → ℕ) (x j n : ℕ) → ((t : ℕ) → t < n → f (j + t) ≡ g (j + t)) → byte_sum f x j n ≡ byte_sum g x j n
unfolding byte_sum
byte-equal f g x j n h =
    sum-equal n (λ t. pick (bit x t) (f (j + t))) (λ t. pick (bit x t) (g (j + t))) (λ t l. ap (pick (bit x t)) (h t l))

-- ---- the part of a column that stands in a block

pub part-byte : (n1 n2 : ℕ) (w : ℕ → ℕ → ℕ) (s : List ℕ) (b j : ℕ)
    → column_sum n1 w (by_column n1 n2 s) (8 * b) (8 * b + 8) j
    ≡ byte_sum (λ i. w i j) (get_or s (j * row_bytes n1 + b) 0) (8 * b) (min 8 (n1 - 8 * b))
unfolding column_sum run_sum byte_sum
part-byte n1 n2 w s b j =
    let x = get_or s (j * row_bytes n1 + b) 0 in
    let n : min (8 * b + 8) n1 - 8 * b ≡ min 8 (n1 - 8 * b) = omega arith in
    ap (λ (m : ℕ). xor_sum m (λ t. pick (by_column n1 n2 s (8 * b + t) j) (w (8 * b + t) j))) n
    ∙ sum-equal (min 8 (n1 - 8 * b)) (λ t. pick (by_column n1 n2 s (8 * b + t) j) (w (8 * b + t) j)) (λ t. pick (bit x t) (w (8 * b + t) j))
    (λ t l. ap (λ p. pick p (w (8 * b + t) j)) (cell-in-byte n1 s j b t (omega arith)))

pub byte_inside : (n1 n2 b j n : ℕ) → n ≡ sheet_bytes n2 n1 → b < row_bytes n1 → j < n2 → j * row_bytes n1 + b < n
unfolding sheet_bytes
byte_inside n1 n2 b j n e lb lj = rw e (digits_lt lj lb)

module _ (h : Header) (rows columns : List ℕ) (T : Tables h rows columns) (j : ℕ) (lj : j < h.n2) where
  -- the H entries of column j
  abbrev own : List ℕ
  own = take (j * h.b1 + h.b1 - j * h.b1) (drop (j * h.b1) columns)

  pub own-inside : j * h.b1 + h.b1 ≤ h.n2 * h.b1
  own-inside =
      let l : (j + 1) * h.b1 ≤ h.n2 * h.b1 = mul-le-mul_right h.b1 (omega arith) in
      let e : (j + 1) * h.b1 ≡ j * h.b1 + 1 * h.b1 = add-mul j 1 h.b1 in
      let o : 1 * h.b1 ≡ h.b1 = one-mul h.b1 in
      omega arith

  own-entry : (k : ℕ) → k < h.b1 → get_or own k 0 ≡ word_at columns (j * h.b1 + k)
  own-entry k l =
      let m : k < j * h.b1 + h.b1 - j * h.b1 = omega arith in
      rw (get_or-take, get_or-drop)

  pub part-words : Words h.n1 h.b2 h.b1 (j % h.b2) own rows
  part-words = record {
    n2_most = omega (arith, T.small.n1_most);
    b1_most = T.small.b2_most;
    b2_pos = T.small.b1_pos;
    b2_most = T.small.b1_most;
    q_below = mod-lt j T.small.b2_pos;
    rows_long = let l = own-inside in let m = T.columns_long in simp (length-take, length-drop) (omega arith);
    rows_below = λ k l. rw (own-entry k l) (T.columns_below (j * h.b1 + k) (digits_lt lj l));
    columns_long = T.rows_long;
    columns_below = T.rows_below;
  }

  part-rows : (i : ℕ) → columns_at h.b2 (j % h.b2) rows i ≡ row_weight (tabled h rows columns) i j
  unfolding columns_at row_weight
  part-rows i = refl

  part-columns : (i : ℕ) → rows_at h.b1 own i ≡ column_weight (tabled h rows columns) i j
  unfolding rows_at column_weight
  part-columns i = own-entry (i % h.b1) (mod-lt i T.small.b1_pos)

  pub part-done : (s : List ℕ) (b : ℕ) (r : Sums)
      → ByteSums h.n1 h.b2 h.b1 (j % h.b2) own rows (get_or s (j * row_bytes h.n1 + b) 0) (8 * b) r
      → PartSums (tabled h rows columns) (by_column h.n1 h.n2 s) b j (record { row = r.column; column = r.row })
  part-done s b r B =
      let x = get_or s (j * row_bytes h.n1 + b) 0 in
      let n = min 8 (h.n1 - 8 * b) in
      let c = tabled h rows columns in
      record {
        row =
            B.column ∙ byte-equal (columns_at h.b2 (j % h.b2) rows) (λ i. row_weight c i j) x (8 * b) n (λ t l. part-rows (8 * b + t))
            ∙ sym (part-byte h.n1 h.n2 (row_weight c) s b j);
        column =
            B.row ∙ byte-equal (rows_at h.b1 own) (λ i. column_weight c i j) x (8 * b) n (λ t l. part-columns (8 * b + t))
            ∙ sym (part-byte h.n1 h.n2 (column_weight c) s b j);
        row_below = B.column_below;
        column_below = B.row_below;
      }

-- ---- a block, and the blocks fed so far

module _ (c : Code) (s : Cells) where
  abbrev rows : ℕ → ℕ
  rows = row_sum c.n2 (row_weight c) s

  abbrev columns : ℕ → ℕ
  columns = row_sum c.n2 (column_weight c) s

  abbrev pub Passed : ℕ → ℕ → Sums → Type 0
  Passed b j r =
      TwoSums (xor_sum j (column_sum c.n1 (row_weight c) s (8 * b) (8 * b + 8))) (xor_sum j (column_sum c.n1 (column_weight c) s (8 * b) (8 * b + 8))) r

  pub passed_none : (b : ℕ) → Passed b 0 (record { row = 0; column = 0 })
  passed_none b = two_none _ _ (sum-none (column_sum c.n1 (row_weight c) s (8 * b) (8 * b + 8)))
      (sum-none (column_sum c.n1 (column_weight c) s (8 * b) (8 * b + 8)))

  pub passed-next : (b j : ℕ) (a r : Sums) → Passed b j a → PartSums c s b j r
      → Passed b (j + 1) (record { row = bit_xor a.row r.row; column = bit_xor a.column r.column })
  passed-next b j a r A R = two-same _ _ _ _ _ (more (row_weight c)) (more (column_weight c)) (two-added _ _ _ _ a r A R)
    where
      more : (w : ℕ → ℕ → ℕ) → xor_sum j (column_sum c.n1 w s (8 * b) (8 * b + 8)) ⊕ column_sum c.n1 w s (8 * b) (8 * b + 8) j
          ≡ xor_sum (j + 1) (column_sum c.n1 w s (8 * b) (8 * b + 8))
      more w =
          let f = column_sum c.n1 w s (8 * b) (8 * b + 8) in
          sym (ap (λ (n : ℕ). xor_sum n f) (add-one j) ∙ sum-next j f)

  -- by rows and by columns a run has the same sum
  by-columns : (w : ℕ → ℕ → ℕ) (a b : ℕ) → run_sum c.n1 (row_sum c.n2 w s) a b ≡ xor_sum c.n2 (column_sum c.n1 w s a b)
  unfolding row_sum column_sum
  by-columns w a b = run-sum-exchange c.n1 c.n2 (λ i j. pick (s i j) (w i j)) a b

  pub passed-all : (b : ℕ) (r : Sums) → Passed b c.n2 r → RunSums c s (8 * b) (8 * b + 8) r
  unfolding row_syndrome_in column_syndrome_in
  passed-all b r P =
      two-same _ _ _ _ r (sym (by-columns (row_weight c) (8 * b) (8 * b + 8))) (sym (by-columns (column_weight c) (8 * b) (8 * b + 8))) P

  pub fed-no-block : (b : ℕ) → c.n1 ≤ 8 * b → RunSums c s (8 * b) c.n1 (record { row = 0; column = 0 })
  unfolding row_syndrome_in column_syndrome_in
  fed-no-block b l = two_none _ _ (run-sum-empty c.n1 rows (8 * b) c.n1 (omega arith)) (run-sum-empty c.n1 columns (8 * b) c.n1 (omega arith))

  pub fed-block : (b : ℕ) (held r : Sums) → 0 < b → RunSums c s (8 * b) c.n1 held → RunSums c s (8 * (b - 1)) (8 * (b - 1) + 8) r
      → RunSums c s (8 * (b - 1)) c.n1 (record { row = bit_xor held.row r.row; column = bit_xor held.column r.column })
  unfolding row_syndrome_in column_syndrome_in
  fed-block b held r l H R = two-same _ _ _ _ _ (more rows) (more columns) (two-added _ _ _ _ held r H R)
    where
      more : (f : ℕ → ℕ) → run_sum c.n1 f (8 * b) c.n1 ⊕ run_sum c.n1 f (8 * (b - 1)) (8 * (b - 1) + 8) ≡ run_sum c.n1 f (8 * (b - 1)) c.n1
      more f =
          let n = c.n1 in
          let a = 8 * (b - 1) in
          let e : 8 * b ≡ a + 8 = omega arith in
          xor_comm (run_sum n f (8 * b) n) (run_sum n f a (a + 8)) ∙ ap (λ (k : ℕ). run_sum n f a (a + 8) ⊕ run_sum n f k n) e
          ∙ sym (run-sum-rest n f a (a + 8) (omega arith))

-- ---- the tables of a plan

module _ (p : List ℕ) (h : Header) (F : Framed p h) (rows columns : List ℕ) (R : EntriesIn p h Rows rows) (U : Unpacked p h columns) where
  pub tables-of : Tables h rows columns
  tables-of = record {
    small = F.small;
    rows_long = let a = F.small.row_positions in let b = R.size in omega arith;
    rows_below = R.below;
    columns_long = let a = F.small.column_positions in let b = U.size in omega arith;
    columns_below = U.below;
  }

  same-run : (v w : ℕ → ℕ → ℕ) (s : Cells) (a b : ℕ) → ((i j : ℕ) → i < h.n1 → j < h.n2 → v i j ≡ w i j)
      → run_sum h.n1 (row_sum h.n2 v s) a b ≡ run_sum h.n1 (row_sum h.n2 w s) a b
  unfolding row_sum
  same-run v w s a b e =
      run-sum-equal h.n1 (row_sum h.n2 v s) (row_sum h.n2 w s) a b
      (λ i li. sum-equal h.n2 (λ j. pick (s i j) (v i j)) (λ j. pick (s i j) (w i j)) (λ j lj. ap (pick (s i j)) (e i j li lj)))

  row_same : (i j : ℕ) → i < h.n1 → j < h.n2 → row_weight (tabled h rows columns) i j ≡ row_weight (code_with p h) i j
  unfolding row_weight
  row_same i j li lj = R.entry (i * h.b2 + j % h.b2) (digits_lt li (mod-lt j F.small.b2_pos))

  column-same : (i j : ℕ) → i < h.n1 → j < h.n2 → column_weight (tabled h rows columns) i j ≡ column_weight (code_with p h) i j
  unfolding column_weight
  column-same i j li lj = U.entry (j * h.b1 + i % h.b1) (digits_lt lj (mod-lt i F.small.b1_pos))

  pub plan-sums : (s : Cells) (a b : ℕ) (r : Sums) → RunSums (tabled h rows columns) s a b r → RunSums (code_with p h) s a b r
  unfolding row_syndrome_in column_syndrome_in
  plan-sums s a b r S =
      two-same _ _ _ _ r (same-run (row_weight (tabled h rows columns)) (row_weight (code_with p h)) s a b row_same)
      (same-run (column_weight (tabled h rows columns)) (column_weight (code_with p h)) s a b column-same) S
