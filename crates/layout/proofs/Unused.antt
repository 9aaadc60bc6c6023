-- Where unused bits can stand: in the last byte of a row only. m is the number of bytes of a row.
--
--   last-inside          a row's last byte stands in the sheet
--   last-used            how many bits of a row's last byte hold cells
--   last-bad, last-good  so it has an unused bit 1 exactly from a power of two on
--   row_before           where no byte of the first i rows has an unused bit 1, none has before the last byte of row i
--   row_done             and none has in the first i + 1 rows, if that last byte has none
--
-- Assumes nothing.
use mathlib.Core.Path.{◌≡◌, sym, ap, ◌∙◌}
use mathlib.Core.Bool.{true, false}
use mathlib.Core.List.{List}
use Prim.Native.Nat.{ℕ, ◌+◌, ◌-◌, ◌*◌, ◌%◌, ◌^◌, ◌≤◌, ◌<◌, min}
use native.Mathlib.Nat.{suc-mul}
use native.Mathlib.Numerals.{add-one}
use native.Mathlib.Decide.{ℕ_discrete, dec_lt}
use native.Mathlib.Omega.{arith}
use borrow.Author.Tests.{le-leb, lt-leb}
use lib.ListN.{get_or}
use lib.Arith.{digits_lt, digits_mod}
use Rattle.layout.specs.Cells.{row_bytes, sheet_bytes, used_bits, unused_at}

module _ (n2 m : ℕ) (size : m ≡ row_bytes n2) (some : 0 < m) where
  pub last-inside : (n1 i : ℕ) → i < n1 → i * m + (m - 1) < sheet_bytes n1 n2
  unfolding sheet_bytes
  last-inside n1 i li =
      let l : m - 1 < m = omega arith in
      rw (← size) (digits_lt li l)

  pub last-used : (i : ℕ) → used_bits n2 (i * m + (m - 1)) ≡ n2 + 8 - 8 * m
  unfolding used_bits row_bytes
  last-used i =
      let l : m - 1 < m = omega arith in
      let r : (i * m + (m - 1)) % m ≡ m - 1 = digits_mod i l in
      rw (← size, r) (omega arith)

  pub last-bad : (s : List ℕ) (i : ℕ) → 2 ^ (n2 + 8 - 8 * m) ≤ get_or s (i * m + (m - 1)) 0 → unused_at n2 s (i * m + (m - 1)) ≡ true
  unfolding unused_at
  last-bad s i l = rw (last-used i) (le-leb (2 ^ (n2 + 8 - 8 * m)) (get_or s (i * m + (m - 1)) 0) l)

  pub last-good : (s : List ℕ) (i : ℕ) → get_or s (i * m + (m - 1)) 0 < 2 ^ (n2 + 8 - 8 * m) → unused_at n2 s (i * m + (m - 1)) ≡ false
  unfolding unused_at
  last-good s i l = rw (last-used i) (lt-leb (2 ^ (n2 + 8 - 8 * m)) (get_or s (i * m + (m - 1)) 0) l)

  module _ (s : List ℕ) (byte : (k : ℕ) → get_or s k 0 < 256) (i : ℕ) (before : (k : ℕ) → k < i * m → unused_at n2 s k ≡ false) where
    pub row_before : (k : ℕ) → k < i * m + (m - 1) → unused_at n2 s k ≡ false
    unfolding unused_at used_bits row_bytes
    row_before k l = go (dec_lt k (i * m))
      where
        go : Dec (k < i * m) → unused_at n2 s k ≡ false
        go (yes h) = before k h
        go (no h) =
            let lr : k - i * m < m = omega arith in
            let e : i * m + (k - i * m) ≡ k = omega arith in
            let r : k % m ≡ k - i * m = ap (λ (x : ℕ). x % m) (sym e) ∙ digits_mod i lr in
            let full : min 8 (n2 - 8 * (k % m)) ≡ 8 = omega arith in
            let b : get_or s k 0 < 256 = byte k in
            rw (← size, full) (lt-leb 256 (get_or s k 0) b)

    pub row_done : unused_at n2 s (i * m + (m - 1)) ≡ false → (k : ℕ) → k < (i + 1) * m → unused_at n2 s k ≡ false
    row_done here k l = go (ℕ_discrete k (i * m + (m - 1)))
      where
        more : (i + 1) * m ≡ i * m + m
        more = ap (λ (x : ℕ). x * m) (add-one i) ∙ suc-mul i m

        go : Dec (k ≡ i * m + (m - 1)) → unused_at n2 s k ≡ false
        go (yes e) = ap (unused_at n2 s) e ∙ here
        go (no h) = row_before k (let e = more in omega arith)
