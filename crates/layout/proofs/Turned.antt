-- One cell turned over:
--
--   turned-form           the right form is kept
--   turned-cell           the cells are the old ones, but the one that was turned
--   turned-if-form, turned-if-cell   the same where the cell is turned only if t holds
--   turned-bytes          so the bytes of cells p become those of p with the cell turned
--   turned-if-bytes       the same where the cell is turned only if b holds
--   turned-if-length      the number of bytes is kept
--   turned-if-byte        each byte is as byte_turned tells
--   bit-turned            as the code has it: 1 shifted is a power of two, and 0 shifted turns nothing over
--   byte-stays            a byte that does not hold the cell stays
--
-- Assumes nothing.
use mathlib.Core.Path.{◌≡◌, refl, sym, ap, ap₂, ◌∙◌}
use mathlib.Core.Bool.{Bool, true, false, cond, xor, ◌&&◌}
use mathlib.Core.List.{List}
use Prim.Native.Nat.{ℕ, ◌*◌, ◌/◌, ◌%◌, ◌^◌, ◌<◌}
use native.Mathlib.Nat.{one-mul, zero-mul}
use native.Mathlib.Decide.{ℕ_discrete}
use native.Mathlib.Omega.{arith}
use borrow.Author.Tests.{eq-eqb, ne_eqb}
use lib.Bits.{bit_xor, xor_zero_r}
use lib.Dec.{eqb}
use lib.ListN.{length, get_or, set, length-set}
use lib.Seq.{get_or-set_same, get_or-set_other}
use lib.Pow.{pow-lt, shl_exact}
use Rattle.std.specs.Int.{from_bool}
use Rattle.finite.specs.Search.{bit}
use Rattle.finite.proofs.Digits.{bit-power}
use Rattle.finite.proofs.Truth.{xor-none}
use Rattle.gf2.specs.Xor.{◌⊕◌}
use Rattle.gf2.proofs.Xor.{xor_below, bit-xor}
use Rattle.layout.specs.Cells.{row_bytes, sheet_bytes, byte_of, cell_of, used_bits, RightForm, bytes_of, turned, turned_if, byte_turned}
use Rattle.layout.proofs.Form.{byte_inside, byte-row, byte-place, byte-digit, bytes-form, bytes-cell, bytes-equal, same_bytes}

-- ---- the cell turned over

module _ (n1 n2 : ℕ) (s : List ℕ) (f : RightForm n1 n2 s) (i j : ℕ) (li : i < n1) (lj : j < n2) where
  inside : byte_of n2 i j < length s
  inside = let e = f.size in let b : byte_of n2 i j < sheet_bytes n1 n2 = byte_inside n2 j lj n1 i li in omega arith

  pub turned-form : RightForm n1 n2 (turned n2 s i j)
  unfolding turned
  turned-form = record {
    size = length-set s (byte_of n2 i j) (get_or s (byte_of n2 i j) 0 ⊕ 2 ^ (j % 8)) ∙ f.size;
    used = λ k l. go k l (ℕ_discrete k (byte_of n2 i j));
  }
    where
      x : ℕ
      x = get_or s (byte_of n2 i j) 0 ⊕ 2 ^ (j % 8)

      go : (k : ℕ) → k < sheet_bytes n1 n2 → Dec (k ≡ byte_of n2 i j) → get_or (set s (byte_of n2 i j) x) k 0 < 2 ^ used_bits n2 k
      go k l (yes e) =
          rw (e, get_or-set_same s (byte_of n2 i j) x 0 inside)
          (xor_below (used_bits n2 (byte_of n2 i j)) (get_or s (byte_of n2 i j) 0) (2 ^ (j % 8))
          (f.used (byte_of n2 i j) (byte_inside n2 j lj n1 i li)) (pow-lt (byte-digit n2 j lj i)))
      go k l (no e) = rw (get_or-set_other s (byte_of n2 i j) k x 0 e) (f.used k l)

  pub turned-cell : (a b : ℕ) → a < n1 → b < n2 → cell_of n2 (turned n2 s i j) a b ≡ xor (cell_of n2 s a b) (eqb i a && eqb j b)
  unfolding turned cell_of
  turned-cell a b la lb = go (ℕ_discrete (byte_of n2 a b) (byte_of n2 i j))
    where
      x : ℕ
      x = get_or s (byte_of n2 i j) 0 ⊕ 2 ^ (j % 8)

      -- in the same byte the rows are equal, and the columns exactly if the digits are
      digit : byte_of n2 a b ≡ byte_of n2 i j → eqb (j % 8) (b % 8) ≡ (eqb i a && eqb j b)
      digit e =
          let r : i ≡ a = sym (byte-row n2 j lj i) ∙ ap (λ (k : ℕ). k / row_bytes n2) (sym e) ∙ byte-row n2 b lb a in
          let q : j / 8 ≡ b / 8 = sym (byte-place n2 j lj i) ∙ ap (λ (k : ℕ). k % row_bytes n2) (sym e) ∙ byte-place n2 b lb a in
          rw (eq-eqb i a r) (same q (ℕ_discrete j b))
        where
          same : j / 8 ≡ b / 8 → Dec (j ≡ b) → eqb (j % 8) (b % 8) ≡ eqb j b
          same q (yes h) = eq-eqb (j % 8) (b % 8) (ap (λ (k : ℕ). k % 8) h) ∙ sym (eq-eqb j b h)
          same q (no h) = ne_eqb (j % 8) (b % 8) (λ w. h (omega arith)) ∙ sym (ne_eqb j b h)

      other : (byte_of n2 a b ≡ byte_of n2 i j → ⊥) → (eqb i a && eqb j b) ≡ false
      other h = away (ℕ_discrete i a)
        where
          away : Dec (i ≡ a) → (eqb i a && eqb j b) ≡ false
          away (yes r) = rw (eq-eqb i a r) (ne_eqb j b (λ w. h (ap₂ (byte_of n2) (sym r) (sym w))))
          away (no r) = rw (ne_eqb i a r)

      go : Dec (byte_of n2 a b ≡ byte_of n2 i j) → bit (get_or (set s (byte_of n2 i j) x) (byte_of n2 a b) 0) (b % 8)
          ≡ xor (bit (get_or s (byte_of n2 a b) 0) (b % 8)) (eqb i a && eqb j b)
      go (yes e) =
          ap (λ (k : ℕ). bit (get_or (set s (byte_of n2 i j) x) k 0) (b % 8)) e
          ∙ ap (λ (y : ℕ). bit y (b % 8)) (get_or-set_same s (byte_of n2 i j) x 0 inside)
          ∙ bit-xor (get_or s (byte_of n2 i j) 0) (2 ^ (j % 8)) (b % 8)
          ∙ ap₂ xor (ap (λ (k : ℕ). bit (get_or s k 0) (b % 8)) (sym e)) (bit-power (j % 8) (b % 8) ∙ digit e)
      go (no e) =
          ap (λ (y : ℕ). bit y (b % 8)) (get_or-set_other s (byte_of n2 i j) (byte_of n2 a b) x 0 e)
          ∙ sym (xor-none (bit (get_or s (byte_of n2 a b) 0) (b % 8)))
          ∙ ap (xor (bit (get_or s (byte_of n2 a b) 0) (b % 8))) (sym (other e))

  -- the same of a cell that is turned over if t holds
  pub turned-if-form : (t : Bool) → RightForm n1 n2 (turned_if t n2 s i j)
  turned-if-form true = turned-form
  turned-if-form false = f

  pub turned-if-cell : (t : Bool) (a b : ℕ) → a < n1 → b < n2 → cell_of n2 (turned_if t n2 s i j) a b ≡ xor (cell_of n2 s a b) (t && (eqb i a && eqb j b))
  turned-if-cell true a b la lb = turned-cell a b la lb
  turned-if-cell false a b la lb = sym (xor-none (cell_of n2 s a b))

pub turned-bytes : (n1 n2 : ℕ) (p q : ℕ → ℕ → Bool) (i j : ℕ) → i < n1 → j < n2
    → ((a b : ℕ) → a < n1 → b < n2 → xor (p a b) (eqb i a && eqb j b) ≡ q a b) → turned n2 (bytes_of n1 n2 p) i j ≡ bytes_of n1 n2 q
turned-bytes n1 n2 p q i j li lj h =
    let f = bytes-form n1 n2 p in
    same_bytes n1 n2 (turned n2 (bytes_of n1 n2 p) i j) (bytes_of n1 n2 q) (turned-form n1 n2 (bytes_of n1 n2 p) f i j li lj) (bytes-form n1 n2 q)
    (λ a b la lb.
    turned-cell n1 n2 (bytes_of n1 n2 p) f i j li lj a b la lb
    ∙ ap (λ (t : Bool). xor t (eqb i a && eqb j b)) (bytes-cell n1 n2 p a b la lb)
    ∙ h a b la lb
    ∙ sym (bytes-cell n1 n2 q a b la lb))

-- a cell that is turned over if b holds
pub turned-if-bytes : (n1 n2 : ℕ) (b : Bool) (p q : ℕ → ℕ → Bool) (i j : ℕ) → (b ≡ true → i < n1) → (b ≡ true → j < n2)
    → ((x y : ℕ) → x < n1 → y < n2 → xor (p x y) (b && (eqb i x && eqb j y)) ≡ q x y)
    → turned_if b n2 (bytes_of n1 n2 p) i j ≡ bytes_of n1 n2 q
turned-if-bytes n1 n2 true p q i j li lj h = turned-bytes n1 n2 p q i j (li refl) (lj refl) h
turned-if-bytes n1 n2 false p q i j li lj h = bytes-equal n1 n2 p q (λ x y lx ly. sym (xor-none (p x y)) ∙ h x y lx ly)

pub turned-if-length : (b : Bool) (n2 : ℕ) (s : List ℕ) (i j : ℕ) → length (turned_if b n2 s i j) ≡ length s
unfolding turned
turned-if-length true n2 s i j = simp length-set
turned-if-length false n2 s i j = refl

pub turned-if-byte : (b : Bool) (n2 : ℕ) (s : List ℕ) (i j k : ℕ) → k < length s → get_or (turned_if b n2 s i j) k 0 ≡ byte_turned b n2 i j k (get_or s k 0)
unfolding turned
turned-if-byte true n2 s i j k l = go (ℕ_discrete (byte_of n2 i j) k)
  where
    x : ℕ
    x = get_or s (byte_of n2 i j) 0 ⊕ 2 ^ (j % 8)

    go : Dec (byte_of n2 i j ≡ k) → get_or (set s (byte_of n2 i j) x) k 0 ≡ byte_turned true n2 i j k (get_or s k 0)
    go (yes e) = rw (← e, eq-eqb _ _ refl) (get_or-set_same s (byte_of n2 i j) x 0 (omega (arith, e)))
    go (no h) = rw (ne_eqb _ _ h) (get_or-set_other s (byte_of n2 i j) k x 0 (λ e. h (sym e)))
turned-if-byte false n2 s i j k l = refl

pub byte-stays : (b : Bool) (n2 i j k x : ℕ) → (byte_of n2 i j ≡ k → ⊥) → byte_turned b n2 i j k x ≡ x
byte-stays true n2 i j k x h = rw (ne_eqb (byte_of n2 i j) k h)
byte-stays false n2 i j k x h = refl

pub bit-turned : (x j : ℕ) (b : Bool) → bit_xor x (from_bool b * 2 ^ (j % 8) % 256) ≡ cond b (x ⊕ 2 ^ (j % 8)) x
unfolding ◌⊕◌
bit-turned x j true = rw (shl_exact {a = 1} 1 (j % 8) 8 (omega arith) (omega arith), one-mul (2 ^ (j % 8)))
bit-turned x j false = rw (zero-mul (2 ^ (j % 8)), xor_zero_r x)
