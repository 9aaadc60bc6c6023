-- A burst turned over, digit by digit, turns over the cells of its pattern number and no others.
--
--   digit-row, digit-column    the cell of a digit lies on the sheet
--   digit-byte                 and its byte is one of the rectangle's rows
--   rows-most                  the bytes of those rows and of the rows above are few
--   digits-length, box-length  the number of bytes stays
--   digits-form, digits-cell   after the first n digits: the right form is kept, and the cells of those digits are turned over
--   box-turned                 after all digits the bytes are those of the sheet with the pattern's cells turned over
--   digits-none, digits-next   where the loop begins, and one turn of it
--   byte-none, byte_next       the same of one byte
--   byte_above, byte-below     a byte of a row that the rectangle does not touch stays
--
-- Assumes nothing.
use mathlib.Core.Path.{◌≡◌, refl, sym, ap, ap₂, ◌∙◌}
use mathlib.Core.Bool.{Bool, true, false, xor, ◌&&◌}
use mathlib.Core.List.{List}
use Prim.Native.Nat.{ℕ, zero, suc, ◌+◌, ◌-◌, ◌*◌, ◌/◌, ◌%◌, ◌≤◌, ◌<◌}
use native.Mathlib.Nat.{div-lt_iff_lt-mul, mod-lt, div-add-mod', mul-le-mul, mul-le-mul_right}
use native.Mathlib.Numerals.{add-one}
use native.Mathlib.Decide.{ℕ_discrete, dec_lt}
use native.Mathlib.Omega.{arith}
use borrow.Author.Tests.{eq-eqb, ne_eqb, lt-ltb, le-ltb}
use lib.Dec.{eqb, ltb}
use lib.ListN.{length, get_or}
use lib.Arith.{digits_lt, digits_div, digits_mod}
use Rattle.finite.specs.Search.{bit}
use Rattle.finite.proofs.Truth.{Truth, is_true, is_false, true-or-false, xor-none, in_within}
use Rattle.layout.specs.Cells.{row_bytes, sheet_bytes, byte_of, byte_turned}
use Rattle.layout.specs.Stored.{cell_in, FormIn, bytes_in, turned_in}
use Rattle.layout.specs.declared.stored.Layout.{Layout}
use Rattle.layout.specs.declared.stored.Layout.TheVariants.{ByRow}
use Rattle.layout.proofs.Form.{byte_inside}
use Rattle.layout.proofs.Turned.{turned-if-byte, byte-stays}
use Rattle.layout.proofs.Layouts.{laws, in-turned-form, in-turned-cell, in-turned-length}
use Rattle.boxcode.specs.Syndrome.{Cells, flip}
use Rattle.boxcode.specs.Burst.{box_cells}
use Rattle.boxcode.proofs.Trial.{box-inside}
use Rattle.reader.specs.Turn.{Rectangle, digits_turned, box_turned}

-- ---- the cell of a digit

module _ (n1 n2 top left b1 b2 : ℕ) (pos : 1 ≤ b2) (R : Rectangle n1 n2 top left b1 b2) where
  pub digit-row : (k : ℕ) → k < b1 * b2 → top + k / b2 < n1
  digit-row k l = let q : k / b2 < b1 = (div-lt_iff_lt-mul pos).1 l in let r = R.rows_on in omega arith

  pub digit-column : (k : ℕ) → left + k % b2 < n2
  digit-column k = let q : k % b2 < b2 = mod-lt k pos in let r = R.columns_on in omega arith

  pub digit-byte : (k : ℕ) → k < b1 * b2 → byte_of n2 (top + k / b2) (left + k % b2) < (top + b1) * row_bytes n2
  unfolding sheet_bytes
  digit-byte k l =
      let q : k / b2 < b1 = (div-lt_iff_lt-mul pos).1 l in
      byte_inside n2 (left + k % b2) (digit-column k) (top + b1) (top + k / b2) (omega arith)

  pub rows-most : (a w : ℕ) → w ≡ row_bytes n2 → a ≤ top + b1 → a * w ≤ 45056
  unfolding row_bytes
  rows-most a w e l =
      let p : a ≤ 512 = omega (arith, R.rows_on, R.n1_most) in
      let q : w ≤ 88 = omega (arith, R.n2_most) in
      mul-le-mul p q

-- ---- the number of bytes, and one turn of the loop

pub digits-length : (lay : Layout) (n1 n2 : ℕ) (s : List ℕ) (top left b2 x n : ℕ) → length (digits_turned lay n1 n2 s top left b2 x n) ≡ length s
unfolding digits_turned
digits-length lay n1 n2 s top left b2 x zero = refl
digits-length lay n1 n2 s top left b2 x (suc k) =
    in-turned-length (bit x k) lay n1 n2 (digits_turned lay n1 n2 s top left b2 x k) (top + k / b2) (left + k % b2) ∙ digits-length lay n1 n2 s top left b2 x k

pub box-length : (lay : Layout) (n1 n2 : ℕ) (s : List ℕ) (top left b1 b2 x : ℕ) → length (box_turned lay n1 n2 s top left b1 b2 x) ≡ length s
unfolding box_turned
box-length lay n1 n2 s top left b1 b2 x = digits-length lay n1 n2 s top left b2 x (b1 * b2)

pub digits-none : (lay : Layout) (n1 n2 : ℕ) (s : List ℕ) (top left b2 x : ℕ) → s ≡ digits_turned lay n1 n2 s top left b2 x 0
unfolding digits_turned
digits-none lay n1 n2 s top left b2 x = refl

pub digits-next : (lay : Layout) (n1 n2 : ℕ) (s t u : List ℕ) (top left b2 x k : ℕ) → t ≡ digits_turned lay n1 n2 s top left b2 x k
    → u ≡ turned_in (bit x k) lay n1 n2 t (top + k / b2) (left + k % b2) → u ≡ digits_turned lay n1 n2 s top left b2 x (k + 1)
unfolding digits_turned
digits-next lay n1 n2 s t u top left b2 x k e h =
    h ∙ ap (λ (y : List ℕ). turned_in (bit x k) lay n1 n2 y (top + k / b2) (left + k % b2)) e ∙ ap (digits_turned lay n1 n2 s top left b2 x) (sym (add-one k))

-- ---- one byte of a sheet by row

module _ (n1 n2 : ℕ) (s : List ℕ) (top left b2 x k : ℕ) where
  pub byte-none : get_or s k 0 ≡ get_or (digits_turned ByRow n1 n2 s top left b2 x 0) k 0
  unfolding digits_turned
  byte-none = refl

  pub byte_next : k < length s → (y z m : ℕ) → y ≡ get_or (digits_turned ByRow n1 n2 s top left b2 x m) k 0
      → z ≡ byte_turned (bit x m) n2 (top + m / b2) (left + m % b2) k y → z ≡ get_or (digits_turned ByRow n1 n2 s top left b2 x (m + 1)) k 0
  unfolding digits_turned
  byte_next l y z m e h =
      h
      ∙ ap (byte_turned (bit x m) n2 (top + m / b2) (left + m % b2) k) e
      ∙ sym
      (turned-if-byte (bit x m) n2 (digits_turned ByRow n1 n2 s top left b2 x m) (top + m / b2) (left + m % b2) k
      (omega (arith, digits-length ByRow n1 n2 s top left b2 x m)))
      ∙ ap (λ (n : ℕ). get_or (digits_turned ByRow n1 n2 s top left b2 x n) k 0) (sym (add-one m))

  -- the bytes of no digit
  module _ (b1 : ℕ) (pos : 1 ≤ b2) (R : Rectangle n1 n2 top left b1 b2) (l : k < length s) where
    stays : ((m : ℕ) → m < b1 * b2 → byte_of n2 (top + m / b2) (left + m % b2) ≡ k → ⊥) → (m : ℕ) → m ≤ b1 * b2
        → get_or s k 0 ≡ get_or (digits_turned ByRow n1 n2 s top left b2 x m) k 0
    unfolding digits_turned
    stays h zero lm = refl
    stays h (suc m) lm =
        stays h m (omega arith)
        ∙ sym
        (turned-if-byte (bit x m) n2 (digits_turned ByRow n1 n2 s top left b2 x m) (top + m / b2) (left + m % b2) k
        (omega (arith, digits-length ByRow n1 n2 s top left b2 x m))
        ∙ byte-stays (bit x m) n2 (top + m / b2) (left + m % b2) k (get_or (digits_turned ByRow n1 n2 s top left b2 x m) k 0) (h m (omega arith)))

    pub byte_above : k < top * row_bytes n2 → get_or s k 0 ≡ get_or (box_turned ByRow n1 n2 s top left b1 b2 x) k 0
    unfolding box_turned byte_of
    byte_above a =
        stays
        (λ m lm e.
        let g : top * row_bytes n2 ≤ (top + m / b2) * row_bytes n2 = mul-le-mul_right (row_bytes n2) (omega arith) in
        omega arith) (b1 * b2) (omega arith)

    pub byte-below : (top + b1) * row_bytes n2 ≤ k → get_or s k 0 ≡ get_or (box_turned ByRow n1 n2 s top left b1 b2 x) k 0
    unfolding box_turned
    byte-below b =
        stays
        (λ m lm e.
        let g = digit-byte n1 n2 top left b1 b2 pos R m lm in
        omega arith) (b1 * b2) (omega arith)

-- ---- the cells after the first digits

-- the digit of a cell of the rectangle
abbrev digit_of : ℕ → ℕ → ℕ → ℕ → ℕ → ℕ
digit_of top left b2 a d = (a - top) * b2 + (d - left)

xor-late : (p q : Bool) → xor (xor p (q && false)) (q && (true && true)) ≡ xor p (q && true)
unfolding xor
xor-late true true = refl
xor-late true false = refl
xor-late false true = refl
xor-late false false = refl

xor-never : (p q r : Bool) → xor (xor p q) (r && false) ≡ xor p q
unfolding xor
xor-never true true true = refl
xor-never true true false = refl
xor-never true false true = refl
xor-never true false false = refl
xor-never false true true = refl
xor-never false true false = refl
xor-never false false true = refl
xor-never false false false = refl

module _ (top left b1 b2 x : ℕ) (pos : 1 ≤ b2) where
  -- the cells of the first n digits
  first : ℕ → Cells
  first n a d = box_cells top left b1 b2 x a d && ltb (digit_of top left b2 a d) n

  -- the cell of digit k
  module _ (k : ℕ) (l : k < b1 * b2) where
    own-digit : digit_of top left b2 (top + k / b2) (left + k % b2) ≡ k
    own-digit =
        let r : top + k / b2 - top ≡ k / b2 = omega arith in
        let t : left + k % b2 - left ≡ k % b2 = omega arith in
        rw (r, t) (div-add-mod' k b2)

    own-box : box_cells top left b1 b2 x (top + k / b2) (left + k % b2) ≡ bit x k
    unfolding box_cells
    own-box =
        let q : k / b2 < b1 = (div-lt_iff_lt-mul pos).1 l in
        let r : k % b2 < b2 = mod-lt k pos in
        ap₂ ◌&&◌ (in_within top b1 (top + k / b2) (omega arith) (omega arith))
        (ap₂ ◌&&◌ (in_within left b2 (left + k % b2) (omega arith) (omega arith)) (ap (bit x) own-digit))

    own-before : first k (top + k / b2) (left + k % b2) ≡ (bit x k && false)
    unfolding first
    own-before = ap₂ ◌&&◌ own-box (le-ltb _ k (omega (arith, own-digit)))

    own-after : first (suc k) (top + k / b2) (left + k % b2) ≡ (bit x k && true)
    unfolding first
    own-after = ap₂ ◌&&◌ own-box (lt-ltb _ (suc k) (omega (arith, own-digit)))

    -- at any other cell nothing changes
    other : (a d : ℕ) → (top + k / b2 ≡ a → left + k % b2 ≡ d → ⊥) → first k a d ≡ first (suc k) a d
    unfolding first
    other a d h = go (true-or-false (box_cells top left b1 b2 x a d))
      where
        go : Truth (box_cells top left b1 b2 x a d) → first k a d ≡ first (suc k) a d
        go (is_false f) = rw f
        go (is_true t) =
            let n = box-inside top left b1 b2 x in
            let rf : top ≤ a = n.row_from a d t in
            let cf : left ≤ d = n.column_from a d t in
            let ct : d < left + b2 = n.column_to a d t in
            let lr : d - left < b2 = omega arith in
            let qr : digit_of top left b2 a d / b2 ≡ a - top = digits_div (a - top) lr in
            let qc : digit_of top left b2 a d % b2 ≡ d - left = digits_mod (a - top) lr in
            rw t (side (digit_of top left b2 a d) (λ e.
            let er : k / b2 ≡ a - top = ap (λ (y : ℕ). y / b2) (sym e) ∙ qr in
            let ec : k % b2 ≡ d - left = ap (λ (y : ℕ). y % b2) (sym e) ∙ qc in
            h (omega arith) (omega arith)))
          where
            side : (q : ℕ) → (q ≡ k → ⊥) → ltb q k ≡ ltb q (suc k)
            side q ne = pick (dec_lt q k)
              where
                pick : Dec (q < k) → ltb q k ≡ ltb q (suc k)
                pick (yes w) = lt-ltb q k w ∙ sym (lt-ltb q (suc k) (omega arith))
                pick (no w) = le-ltb q k (omega arith) ∙ sym (le-ltb q (suc k) (omega arith))

    step : (p : Bool) (a d : ℕ) → xor (xor p (first k a d)) (bit x k && (eqb (top + k / b2) a && eqb (left + k % b2) d)) ≡ xor p (first (suc k) a d)
    step p a d = go (ℕ_discrete (top + k / b2) a) (ℕ_discrete (left + k % b2) d)
      where
        go : Dec (top + k / b2 ≡ a) → Dec (left + k % b2 ≡ d)
            → xor (xor p (first k a d)) (bit x k && (eqb (top + k / b2) a && eqb (left + k % b2) d)) ≡ xor p (first (suc k) a d)
        go (yes r) (yes t) = rw (← r, ← t, eq-eqb _ _ refl, eq-eqb _ _ refl, own-before, own-after) (xor-late p (bit x k))
        go (yes r) (no t) = rw (eq-eqb _ _ r, ne_eqb _ _ t, other a d (λ _ e. t e)) (xor-never p (first (suc k) a d) (bit x k))
        go (no r) (yes t) = rw (ne_eqb _ _ r, other a d (λ e _. r e)) (xor-never p (first (suc k) a d) (bit x k))
        go (no r) (no t) = rw (ne_eqb _ _ r, other a d (λ e _. r e)) (xor-never p (first (suc k) a d) (bit x k))

  none : (a d : ℕ) → first 0 a d ≡ false
  unfolding first
  none a d = go (box_cells top left b1 b2 x a d)
    where
      go : (b : Bool) → (b && ltb (digit_of top left b2 a d) 0) ≡ false
      go true = le-ltb (digit_of top left b2 a d) 0 (omega arith)
      go false = refl

  all : (a d : ℕ) → first (b1 * b2) a d ≡ box_cells top left b1 b2 x a d
  unfolding first
  all a d = go (true-or-false (box_cells top left b1 b2 x a d))
    where
      go : Truth (box_cells top left b1 b2 x a d) → first (b1 * b2) a d ≡ box_cells top left b1 b2 x a d
      go (is_false f) = rw f
      go (is_true t) =
          let n = box-inside top left b1 b2 x in
          let rf : top ≤ a = n.row_from a d t in
          let rt : a < top + b1 = n.row_to a d t in
          let cf : left ≤ d = n.column_from a d t in
          let ct : d < left + b2 = n.column_to a d t in
          let lr : a - top < b1 = omega arith in
          let lc : d - left < b2 = omega arith in
          rw t (lt-ltb _ (b1 * b2) (digits_lt lr lc))

  module _ (lay : Layout) (n1 n2 : ℕ) (s : List ℕ) (f : FormIn lay n1 n2 s) (R : Rectangle n1 n2 top left b1 b2) where
    pub digits-form : (n : ℕ) → n ≤ b1 * b2 → FormIn lay n1 n2 (digits_turned lay n1 n2 s top left b2 x n)
    unfolding digits_turned
    digits-form zero l = f
    digits-form (suc k) l =
        in-turned-form lay n1 n2 (digits_turned lay n1 n2 s top left b2 x k) (digits-form k (omega arith)) (top + k / b2) (left + k % b2)
        (digit-row n1 n2 top left b1 b2 pos R k l) (digit-column n1 n2 top left b1 b2 pos R k) (bit x k)

    digits-cell : (n : ℕ) → n ≤ b1 * b2 → (a d : ℕ) → a < n1 → d < n2
        → cell_in lay n1 n2 (digits_turned lay n1 n2 s top left b2 x n) a d ≡ xor (cell_in lay n1 n2 s a d) (first n a d)
    unfolding digits_turned
    digits-cell zero l a d la ld = sym (xor-none (cell_in lay n1 n2 s a d)) ∙ ap (xor (cell_in lay n1 n2 s a d)) (sym (none a d))
    digits-cell (suc k) l a d la ld =
        in-turned-cell lay n1 n2 (digits_turned lay n1 n2 s top left b2 x k) (digits-form k (omega arith)) (top + k / b2) (left + k % b2)
        (digit-row n1 n2 top left b1 b2 pos R k l) (digit-column n1 n2 top left b1 b2 pos R k) (bit x k) a d la ld
        ∙ ap (λ (y : Bool). xor y (bit x k && (eqb (top + k / b2) a && eqb (left + k % b2) d))) (digits-cell k (omega arith) a d la ld)
        ∙ step k l (cell_in lay n1 n2 s a d) a d

    pub box-turned : box_turned lay n1 n2 s top left b1 b2 x ≡ bytes_in lay n1 n2 (flip (cell_in lay n1 n2 s) (box_cells top left b1 b2 x))
    unfolding box_turned
    box-turned =
        (laws lay n1 n2).same (digits_turned lay n1 n2 s top left b2 x (b1 * b2)) (bytes_in lay n1 n2 (flip (cell_in lay n1 n2 s) (box_cells top left b1 b2 x)))
        (digits-form (b1 * b2) (omega arith)) ((laws lay n1 n2).form (flip (cell_in lay n1 n2 s) (box_cells top left b1 b2 x)))
        (λ a d la ld.
        digits-cell (b1 * b2) (omega arith) a d la ld
        ∙ ap (xor (cell_in lay n1 n2 s a d)) (all a d)
        ∙ sym ((laws lay n1 n2).cell (flip (cell_in lay n1 n2 s) (box_cells top left b1 b2 x)) a d la ld))
