-- A sheet with its rows and columns exchanged:
--
--   gathered-more, gathered-fits   the cell of the next row as one digit more on top, and that it still fits a byte
--   byte_next                      the byte of the cell in the next row
--   byte_fits                      the place of a byte fits 64 bits
--   rows-within                    some of the rows have at most the bytes of all of them
--   row-end                        row j of the target ends in the target
--   begun_more, begun_all          one byte more, and all bytes of the exchanged sheet
--
-- Assumes nothing.
use mathlib.Core.Path.{◌≡◌, sym, ap, ap₂, ◌∙◌}
use mathlib.Core.Bool.{Bool, true, false, cond}
use mathlib.Core.List.{List}
use Prim.Native.Nat.{ℕ, zero, suc, ◌+◌, ◌-◌, ◌*◌, ◌/◌, ◌%◌, ◌^◌, ◌≤◌, ◌<◌, min}
use native.Mathlib.Nat.{suc-mul, pow-succ', mul-le-mul, mul-le-mul_right}
use native.Mathlib.Numerals.{add-one}
use native.Mathlib.Decide.{ℕ_discrete}
use native.Mathlib.Omega.{arith}
use lib.Dec.{eqb}
use lib.ListN.{get_or, set, length-set}
use lib.Seq.{ext_get_or, get_or-set_same, get_or-set_other}
use lib.Arith.{digits_div, digits_mod}
use lib.Pow.{pow_mono, shl_exact}
use Rattle.finite.specs.Search.{bit, number_of}
use Rattle.finite.proofs.Digits.{number-below}
use Rattle.layout.specs.Cells.{row_bytes, sheet_bytes, byte_of, cell_of, used_bits, tabulate, byte_from, bytes_of}
use Rattle.layout.proofs.Form.{length-tabulate, get_d_tabulate}
use Rattle.transpose.specs.Exchanged.{exchanged, Begun}

-- ---- digits

number-top : (n : ℕ) (p : ℕ → Bool) → number_of n p + cond (p n) 1 0 * 2 ^ n ≡ number_of (suc n) p
unfolding number_of
number-top zero p = omega arith
number-top (suc n) p = go (p (suc n)) (number-top n (λ k. p (suc k)))
  where
    low : ℕ
    low = number_of n (λ k. p (suc k))

    go : (b : Bool) → low + cond b 1 0 * 2 ^ n ≡ number_of (suc n) (λ k. p (suc k))
        → cond (p 0) 1 0 + 2 * low + cond b 1 0 * 2 ^ suc n ≡ cond (p 0) 1 0 + 2 * number_of (suc n) (λ k. p (suc k))
    go true e = rw pow-succ' (omega arith)
    go false e = rw pow-succ' (omega arith)

digit-is : (b : ℕ) (q : Bool) → b < 2 → eqb b 1 ≡ q → b ≡ cond q 1 0
digit-is zero q l e = rw (← e)
digit-is (suc zero) q l e = rw (← e)
digit-is (suc (suc b)) q l e = absurd (omega arith)

-- ---- one row more: x has the cells of t rows, and k is the byte of the cell in the row after them

module _ (n2 : ℕ) (s : List ℕ) (i j t k x : ℕ) (e : x ≡ number_of t (λ u. cell_of n2 s (i + u) j)) (at : k ≡ byte_of n2 (i + t) j) (l : t < 8) where
  -- that cell, as the code takes it out of its byte
  digit : get_or s k 0 / 2 ^ (j % 8) % 2 ≡ cond (cell_of n2 s (i + t) j) 1 0
  unfolding cell_of bit
  digit = digit-is (get_or s k 0 / 2 ^ (j % 8) % 2) (cell_of n2 s (i + t) j) (omega arith) (rw at)

  pub gathered-more : x + get_or s k 0 / 2 ^ (j % 8) % 2 * 2 ^ t % 256 ≡ number_of (t + 1) (λ u. cell_of n2 s (i + u) j)
  gathered-more =
      ap (λ (y : ℕ). x + y) (shl_exact 1 t 8 (omega arith) (omega arith))
      ∙ ap₂ (λ (y d : ℕ). y + d * 2 ^ t) e digit
      ∙ number-top t (λ u. cell_of n2 s (i + u) j)
      ∙ ap (λ (n : ℕ). number_of n (λ u. cell_of n2 s (i + u) j)) (sym (add-one t))

  pub gathered-fits : x + get_or s k 0 / 2 ^ (j % 8) % 2 * 2 ^ t % 256 < 256
  gathered-fits =
      let below : number_of (t + 1) (λ u. cell_of n2 s (i + u) j) < 2 ^ (t + 1) = number-below (t + 1) (λ u. cell_of n2 s (i + u) j) in
      let most : 2 ^ (t + 1) ≤ 2 ^ 8 = pow_mono (let u : t + 1 ≤ 8 = omega arith in u) in
      let more = gathered-more in
      omega arith

-- ---- places

pub byte_next : (n2 i t j : ℕ) → byte_of n2 (i + t) j + row_bytes n2 ≡ byte_of n2 (i + (t + 1)) j
unfolding byte_of
byte_next n2 i t j =
    let s : i + (t + 1) ≡ suc (i + t) = omega arith in
    let e : (i + (t + 1)) * row_bytes n2 ≡ (i + t) * row_bytes n2 + row_bytes n2 = ap (λ (x : ℕ). x * row_bytes n2) s ∙ suc-mul (i + t) (row_bytes n2) in
    omega arith

pub byte_fits : (n2 i j : ℕ) → n2 ≤ 1000000 → i ≤ 1000000 → j < n2 → byte_of n2 i j < 2 ^ 64
unfolding byte_of row_bytes
byte_fits n2 i j l2 li lj =
    let r : (n2 + 7) / 8 ≤ 1000000 = omega arith in
    let m : i * ((n2 + 7) / 8) ≤ 1000000 * 1000000 = mul-le-mul li r in
    omega arith

pub rows-within : (n2 a n : ℕ) → a ≤ n → sheet_bytes a n2 ≤ sheet_bytes n n2
unfolding sheet_bytes
rows-within n2 a n l = mul-le-mul_right (row_bytes n2) l

pub row-end : (n1 n2 j : ℕ) → j < n2 → j * row_bytes n1 + row_bytes n1 ≤ sheet_bytes n2 n1
unfolding sheet_bytes
row-end n1 n2 j l = let e = suc-mul j (row_bytes n1) in let m = mul-le-mul_right (row_bytes n1) l in omega arith

-- ---- the bytes of the exchanged sheet

module _ (n1 n2 : ℕ) (s : List ℕ) where
  -- byte b of row j by the cells of column j
  byte-gathered : (j b : ℕ) → b < row_bytes n1
      → byte_from n1 (exchanged (cell_of n2 s)) (j * row_bytes n1 + b) ≡ number_of (min 8 (n1 - 8 * b)) (λ t. cell_of n2 s (8 * b + t) j)
  unfolding byte_from used_bits exchanged
  byte-gathered j b l =
      ap₂ (λ (row place : ℕ). number_of (min 8 (n1 - 8 * place)) (λ t. cell_of n2 s (8 * place + t) row)) (digits_div j l) (digits_mod j l)

  -- the byte that comes next is stored
  stored : (t : List ℕ) (k x : ℕ) → Begun n1 n2 s k t → x ≡ byte_from n1 (exchanged (cell_of n2 s)) k → k < sheet_bytes n2 n1
      → Begun n1 n2 s (k + 1) (set t k x)
  stored t k x g e l = record { size = length-set t k x ∙ g.size; bytes = λ m lm. go m lm (ℕ_discrete m k) }
    where
      go : (m : ℕ) → m < k + 1 → Dec (m ≡ k) → get_or (set t k x) m 0 ≡ byte_from n1 (exchanged (cell_of n2 s)) m
      go m lm (yes w) = rw w (get_or-set_same t k x 0 (let z = g.size in omega arith) ∙ e)
      go m lm (no w) = get_or-set_other t k m x 0 w ∙ g.bytes m (omega arith)

  pub begun_more : (t : List ℕ) (j b x : ℕ) → Begun n1 n2 s (j * row_bytes n1 + b) t
      → x ≡ number_of (min 8 (n1 - 8 * b)) (λ u. cell_of n2 s (8 * b + u) j) → j < n2 → b < row_bytes n1
      → Begun n1 n2 s (j * row_bytes n1 + (b + 1)) (set t (j * row_bytes n1 + b) x)
  begun_more t j b x g e lj lb =
      let k : j * row_bytes n1 + (b + 1) ≡ j * row_bytes n1 + b + 1 = omega arith in
      let l = row-end n1 n2 j lj in
      rw k (stored t (j * row_bytes n1 + b) x g (e ∙ sym (byte-gathered j b lb)) (omega arith))

  pub begun_all : (t : List ℕ) (j : ℕ) → Begun n1 n2 s (j * row_bytes n1) t → n2 ≤ j → t ≡ bytes_of n2 n1 (exchanged (cell_of n2 s))
  unfolding bytes_of sheet_bytes
  begun_all t j g a =
      let f = byte_from n1 (exchanged (cell_of n2 s)) in
      ext_get_or 0 t (tabulate (n2 * row_bytes n1) f) (g.size ∙ sym (length-tabulate (n2 * row_bytes n1) f))
      (λ m l.
      let lm : m < n2 * row_bytes n1 = (let z = g.size in omega arith) in
      let all : n2 * row_bytes n1 ≤ j * row_bytes n1 = mul-le-mul_right (row_bytes n1) a in
      g.bytes m (omega arith) ∙ sym (get_d_tabulate (n2 * row_bytes n1) f m lm))
