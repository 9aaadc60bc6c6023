-- Cells and bytes. Demands on bytes follow from demands on cells by these laws:
--
--   byte_inside, byte-row, byte-place, byte-digit   the byte of a cell: below the size, its row, its place there, the cell's digit
--   row-some                                        where a byte is in the sheet, a row has bytes
--   cell_row, cell-column, cell-byte                the cell of a byte's digit
--   length-tabulate, get_d_tabulate                  a list by its elements: its length and each of them
--   same_bytes                 two lists of the right form with equal cells are equal
--   bytes-form, bytes-cell     the bytes of cells p are of the right form and have the cells p
--   bytes-equal, bytes_back    equal cells have equal bytes; bytes of the right form are the bytes of their cells
--   form-unused, unused-form   the right form is the right size with no unused bit 1
--   zeros-form, zeros-cell, zeros-bytes   bytes that are all 0
--
-- Assumes nothing.
use mathlib.Core.Path.{◌≡◌, refl, sym, ap, ap₂, ◌∙◌}
use mathlib.Core.Bool.{Bool, false}
use mathlib.Core.List.{List, [], ◌∷◌, ◌++◌}
use Prim.Native.Nat.{ℕ, zero, suc, ◌+◌, ◌*◌, ◌/◌, ◌%◌, ◌^◌, ◌<◌}
use native.Mathlib.Nat.{div-lt_iff_lt-mul, div-add-mod', zero-lt-suc, one-mul}
use native.Mathlib.Decide.{ℕ_discrete}
use native.Mathlib.Omega.{arith}
use borrow.Author.Tests.{leb-false, lt-leb}
use lib.ListN.{length, get_or, replicate, length-append, length-replicate, get_or-replicate, get_or-append}
use lib.Seq.{ext_get_or, get_or_at}
use lib.Arith.{digits_lt, digits_div, digits_mod}
use lib.Pow.{pow_pos}
use Rattle.finite.specs.Search.{bit}
use Rattle.finite.proofs.Search.{least_first, least-none}
use Rattle.finite.proofs.Digits.{bit-none, number-below, bit-number, bits-equal}
use Rattle.layout.specs.Cells.{row_bytes, sheet_bytes, byte_of, cell_of, used_bits, unused_at, first_unused, RightForm, tabulate, byte_from, bytes_of}

-- ---- the byte of a cell

module _ (n2 j : ℕ) (lj : j < n2) where
  place-below : j / 8 < row_bytes n2
  unfolding row_bytes
  place-below = omega arith

  pub byte_inside : (n1 i : ℕ) → i < n1 → byte_of n2 i j < sheet_bytes n1 n2
  unfolding byte_of sheet_bytes
  byte_inside n1 i li = digits_lt li place-below

  pub byte-row : (i : ℕ) → byte_of n2 i j / row_bytes n2 ≡ i
  unfolding byte_of
  byte-row i = digits_div i place-below

  pub byte-place : (i : ℕ) → byte_of n2 i j % row_bytes n2 ≡ j / 8
  unfolding byte_of
  byte-place i = digits_mod i place-below

  pub byte-digit : (i : ℕ) → j % 8 < used_bits n2 (byte_of n2 i j)
  unfolding used_bits
  byte-digit i = let e : byte_of n2 i j % row_bytes n2 ≡ j / 8 = byte-place i in omega arith

-- ---- the cell of a byte's digit

module _ (n1 n2 k : ℕ) (lk : k < sheet_bytes n1 n2) where
  pub row-some : 0 < row_bytes n2
  unfolding sheet_bytes
  row-some = go (row_bytes n2) lk
    where
      go : (m : ℕ) → k < n1 * m → 0 < m
      go zero l = absurd (let e : n1 * 0 ≡ 0 = omega arith in omega arith)
      go (suc m) l = zero-lt-suc m

  pub cell_row : k / row_bytes n2 < n1
  unfolding sheet_bytes
  cell_row = (div-lt_iff_lt-mul row-some).1 lk

  pub cell-column : (t : ℕ) → t < used_bits n2 k → 8 * (k % row_bytes n2) + t < n2
  unfolding used_bits
  cell-column t lt = omega arith

  pub cell-byte : (s : List ℕ) (t : ℕ) → t < used_bits n2 k → cell_of n2 s (k / row_bytes n2) (8 * (k % row_bytes n2) + t) ≡ bit (get_or s k 0) t
  unfolding used_bits cell_of byte_of
  cell-byte s t lt =
      let l : t < 8 = omega arith in
      let q : (8 * (k % row_bytes n2) + t) / 8 ≡ k % row_bytes n2 = omega arith in
      let r : (8 * (k % row_bytes n2) + t) % 8 ≡ t = omega arith in
      ap₂ (λ (x y : ℕ). bit (get_or s x 0) y) (ap (λ (x : ℕ). k / row_bytes n2 * row_bytes n2 + x) q ∙ div-add-mod' k (row_bytes n2)) r

-- ---- equal cells, equal bytes

pub same_bytes : (n1 n2 : ℕ) (s t : List ℕ) → RightForm n1 n2 s → RightForm n1 n2 t
    → ((i j : ℕ) → i < n1 → j < n2 → cell_of n2 s i j ≡ cell_of n2 t i j) → s ≡ t
same_bytes n1 n2 s t fs ft h =
    ext_get_or 0 s t (fs.size ∙ sym ft.size)
    (λ k lk.
    let l : k < sheet_bytes n1 n2 = let e = fs.size in omega arith in
    bits-equal (used_bits n2 k) (get_or s k 0) (get_or t k 0) (fs.used k l) (ft.used k l)
    (λ d ld.
    sym (cell-byte n1 n2 k l s d ld)
    ∙ h (k / row_bytes n2) (8 * (k % row_bytes n2) + d) (cell_row n1 n2 k l) (cell-column n1 n2 k l d ld)
    ∙ cell-byte n1 n2 k l t d ld))

-- ---- the bytes of cells

pub length-tabulate : (n : ℕ) (f : ℕ → ℕ) → length (tabulate n f) ≡ n
unfolding tabulate
length-tabulate zero f = refl
length-tabulate (suc n) f = let e : length (tabulate n f) ≡ n = length-tabulate n f in simp length-append (omega arith)

pub get_d_tabulate : (n : ℕ) (f : ℕ → ℕ) (k : ℕ) → k < n → get_or (tabulate n f) k 0 ≡ f k
unfolding tabulate
get_d_tabulate zero f k l = absurd (omega arith)
get_d_tabulate (suc n) f k l = go (ℕ_discrete k n) (get_d_tabulate n f k)
  where
    long : length (tabulate n f) ≡ n
    long = length-tabulate n f

    go : Dec (k ≡ n) → (k < n → get_or (tabulate n f) k 0 ≡ f k) → get_or (tabulate n f ++ (f n ∷ [])) k 0 ≡ f k
    go (yes e) ih = get_or_at (tabulate n f) (f n) [] 0 k (long ∙ sym e) ∙ ap f (sym e)
    go (no e) ih = get_or-append (tabulate n f) (f n ∷ []) 0 k (let w = long in omega arith) ∙ ih (omega arith)

pub bytes-form : (n1 n2 : ℕ) (p : ℕ → ℕ → Bool) → RightForm n1 n2 (bytes_of n1 n2 p)
unfolding bytes_of byte_from
bytes-form n1 n2 p = record {
  size = length-tabulate (sheet_bytes n1 n2) (byte_from n2 p);
  used = λ k l. rw (get_d_tabulate (sheet_bytes n1 n2) (byte_from n2 p) k l) (number-below (used_bits n2 k) (λ t. p (k / row_bytes n2) (8 * (k % row_bytes n2) + t)));
}

pub bytes-cell : (n1 n2 : ℕ) (p : ℕ → ℕ → Bool) (i j : ℕ) → i < n1 → j < n2 → cell_of n2 (bytes_of n1 n2 p) i j ≡ p i j
unfolding bytes_of byte_from cell_of
bytes-cell n1 n2 p i j li lj =
    let k = byte_of n2 i j in
    let column : 8 * (j / 8) + j % 8 ≡ j = omega arith in
    ap (λ (x : ℕ). bit x (j % 8)) (get_d_tabulate (sheet_bytes n1 n2) (byte_from n2 p) k (byte_inside n2 j lj n1 i li))
    ∙ bit-number (used_bits n2 k) (λ t. p (k / row_bytes n2) (8 * (k % row_bytes n2) + t)) (j % 8) (byte-digit n2 j lj i)
    ∙ ap₂ p (byte-row n2 j lj i) (ap (λ (x : ℕ). 8 * x + j % 8) (byte-place n2 j lj i) ∙ column)

pub bytes-equal : (n1 n2 : ℕ) (p q : ℕ → ℕ → Bool) → ((i j : ℕ) → i < n1 → j < n2 → p i j ≡ q i j) → bytes_of n1 n2 p ≡ bytes_of n1 n2 q
bytes-equal n1 n2 p q h =
    same_bytes n1 n2 (bytes_of n1 n2 p) (bytes_of n1 n2 q) (bytes-form n1 n2 p) (bytes-form n1 n2 q)
    (λ i j li lj. bytes-cell n1 n2 p i j li lj ∙ h i j li lj ∙ sym (bytes-cell n1 n2 q i j li lj))

pub bytes_back : (n1 n2 : ℕ) (s : List ℕ) → RightForm n1 n2 s → bytes_of n1 n2 (cell_of n2 s) ≡ s
bytes_back n1 n2 s f =
    same_bytes n1 n2 (bytes_of n1 n2 (cell_of n2 s)) s (bytes-form n1 n2 (cell_of n2 s)) f (λ i j li lj. bytes-cell n1 n2 (cell_of n2 s) i j li lj)

-- ---- unused bits

pub unused-form : (n1 n2 : ℕ) (s : List ℕ) → length s ≡ sheet_bytes n1 n2 → first_unused n1 n2 s ≡ sheet_bytes n1 n2 → RightForm n1 n2 s
unfolding first_unused unused_at
unused-form n1 n2 s e f = record {
  size = e;
  used = λ k l. leb-false (2 ^ used_bits n2 k) (get_or s k 0) (least_first (sheet_bytes n1 n2) (unused_at n2 s) k (omega arith));
}

pub form-unused : (n1 n2 : ℕ) (s : List ℕ) → RightForm n1 n2 s → first_unused n1 n2 s ≡ sheet_bytes n1 n2
unfolding first_unused unused_at
form-unused n1 n2 s f = least-none (sheet_bytes n1 n2) (unused_at n2 s) (λ k l. lt-leb (2 ^ used_bits n2 k) (get_or s k 0) (f.used k l))

pub row-sheet : (k : ℕ) → sheet_bytes 1 k ≡ row_bytes k
unfolding sheet_bytes
row-sheet k = one-mul (row_bytes k)

-- ---- zeros

pub zeros-form : (n1 n2 : ℕ) → RightForm n1 n2 (replicate (sheet_bytes n1 n2) 0)
zeros-form n1 n2 = record {
  size = length-replicate {A = ℕ} (sheet_bytes n1 n2) 0;
  used = λ k l. rw (get_or-replicate {A = ℕ} (sheet_bytes n1 n2) k 0 0 l) (pow_pos (used_bits n2 k));
}

pub zeros-cell : (n1 n2 i j : ℕ) → i < n1 → j < n2 → cell_of n2 (replicate (sheet_bytes n1 n2) 0) i j ≡ false
unfolding cell_of
zeros-cell n1 n2 i j li lj =
    ap (λ (x : ℕ). bit x (j % 8)) (get_or-replicate (sheet_bytes n1 n2) (byte_of n2 i j) 0 0 (byte_inside n2 j lj n1 i li)) ∙ bit-none (j % 8)

pub zeros-bytes : (n1 n2 : ℕ) (p : ℕ → ℕ → Bool) → ((i j : ℕ) → i < n1 → j < n2 → p i j ≡ false) → replicate (sheet_bytes n1 n2) 0 ≡ bytes_of n1 n2 p
zeros-bytes n1 n2 p h =
    same_bytes n1 n2 (replicate (sheet_bytes n1 n2) 0) (bytes_of n1 n2 p) (zeros-form n1 n2) (bytes-form n1 n2 p)
    (λ i j li lj. zeros-cell n1 n2 i j li lj ∙ sym (h i j li lj) ∙ sym (bytes-cell n1 n2 p i j li lj))
