-- Numbers written into bytes:
--
--   low-length            n bytes are n
--   overwritten-length    the number of bytes is kept
--   overwritten-append    one list after the other
--   overwritten-halves    four bytes of a number are two, and two of what is left of it
--   overwritten-whole     all bytes written over are the bytes written
--   put-overwritten       a part of the bytes written over as a whole
--   low-two, low-four     std's low bytes of a number of 16 and of 32 bits
--   u16-back, u32-back    what is written is read back
--
-- Assumes nothing.
use mathlib.Core.Path.{◌≡◌, refl, sym, ap, ap₂, ◌∙◌}
use mathlib.Core.List.{List, [], ◌∷◌, ◌++◌, append-nil}
use Prim.Native.Nat.{ℕ, zero, suc, ◌+◌, ◌*◌, ◌/◌, ◌%◌, ◌≤◌, ◌<◌}
use native.Mathlib.Nat.{add-zero}
use native.Mathlib.Numerals.{add-one}
use native.Mathlib.Omega.{arith}
use lib.ListN.{length, get_or, set, take, drop, length-set}
use lib.Seq.{sets, sets-eq, drop-length, get_or-append-add}
use borrow.Rule.Slice.PartMut.{put_mid}
use Rattle.std.proofs.Common.{append_assoc}
use Rattle.std.proofs.lemmas.List.Edits.{paste_all}
use Rattle.std.proofs.lemmas.Slice.{put_mid-paste}
use Rattle.std.specs.Int.{w16, w32, to_le_bytes}
use Rattle.layout.specs.Number.{u16_at, u32_at, low_bytes, overwritten}

pub low-length : (n x : ℕ) → length (low_bytes n x) ≡ n
unfolding low_bytes
low-length zero x = refl
low-length (suc n) x = ap suc (low-length n (x / 256))

pub overwritten-length : (s : List ℕ) (o : ℕ) (xs : List ℕ) → length (overwritten s o xs) ≡ length s
unfolding overwritten
overwritten-length s o [] = refl
overwritten-length s o (x ∷ xs) = overwritten-length (set s o x) (o + 1) xs ∙ length-set s o x

pub overwritten-append : (s : List ℕ) (o : ℕ) (xs ys : List ℕ) → overwritten s o (xs ++ ys) ≡ overwritten (overwritten s o xs) (o + length xs) ys
unfolding overwritten
overwritten-append s o [] ys = ap (λ (k : ℕ). overwritten s k ys) (sym (add-zero o))
overwritten-append s o (x ∷ xs) ys =
    let e : o + 1 + length xs ≡ o + suc (length xs) = omega arith in
    overwritten-append (set s o x) (o + 1) xs ys ∙ ap (λ (k : ℕ). overwritten (overwritten (set s o x) (o + 1) xs) k ys) e

pub overwritten-halves : (s : List ℕ) (o x : ℕ) → overwritten (overwritten s o (low_bytes 2 x)) (o + 2) (low_bytes 2 (x / 65536)) ≡ overwritten s o (low_bytes 4 x)
unfolding low_bytes
overwritten-halves s o x =
    let e : x / 65536 ≡ x / 256 / 256 = omega arith in
    ap (λ (y : ℕ). overwritten (overwritten s o (low_bytes 2 x)) (o + 2) (low_bytes 2 y)) e
    ∙ sym (overwritten-append s o (low_bytes 2 x) (low_bytes 2 (x / 256 / 256)))

as-stores : (s : List ℕ) (o : ℕ) (xs : List ℕ) → overwritten s o xs ≡ sets s o xs
unfolding overwritten
as-stores s o [] = refl
as-stores s o (x ∷ xs) = as-stores (set s o x) (o + 1) xs ∙ ap (λ (k : ℕ). sets (set s o x) k xs) (add-one o)

pub overwritten-whole : (s xs : List ℕ) → length xs ≡ length s → overwritten s 0 xs ≡ xs
overwritten-whole s xs e =
    let f : 0 + length xs ≡ length s = omega arith in
    as-stores s 0 xs
    ∙ sets-eq xs s 0 (omega arith)
    ∙ ap (λ (k : ℕ). xs ++ drop k s) f
    ∙ ap (λ (r : List ℕ). xs ++ r) (drop-length s)
    ∙ append-nil xs

pub put-overwritten : (s ys xs : List ℕ) (o k : ℕ) → ys ≡ xs → k ≡ length xs → o + length xs ≤ length s → put_mid o k s ys ≡ overwritten s o xs
put-overwritten s ys xs o k e f l =
    put_mid-paste o k s ys xs k e refl f
    ∙ paste_all s o xs k f
    ∙ rw f (sym (as-stores s o xs ∙ sets-eq xs s o l ∙ append_assoc (take o s) xs (drop (o + length xs) s)))

pub low-two : (x : ℕ) → to_le_bytes w16 (x % 65536) ≡ low_bytes 2 x
unfolding low_bytes
low-two x =
    let a : x % 65536 % 256 ≡ x % 256 = omega arith in
    let b : x % 65536 / 256 % 256 ≡ x / 256 % 256 = omega arith in
    ap₂ (λ (p q : ℕ). p ∷ q ∷ []) a b

pub low-four : (x : ℕ) → to_le_bytes w32 (x % 4294967296) ≡ low_bytes 4 x
unfolding low_bytes
low-four x =
    let a : x % 4294967296 % 256 ≡ x % 256 = omega arith in
    let b : x % 4294967296 / 256 % 256 ≡ x / 256 % 256 = omega arith in
    let c : x % 4294967296 / 65536 % 256 ≡ x / 256 / 256 % 256 = omega arith in
    let d : x % 4294967296 / 16777216 % 256 ≡ x / 256 / 256 / 256 % 256 = omega arith in
    ap₂ (λ (xs ys : List ℕ). xs ++ ys) (ap₂ (λ (p q : ℕ). p ∷ (q ∷ [])) a b) (ap₂ (λ (p q : ℕ). p ∷ (q ∷ [])) c d)

-- ---- read back

two-bytes : (x : ℕ) → x < 65536 → x % 256 + 256 * (x / 256 % 256) ≡ x
two-bytes x l = omega arith

pub u16-back : (pre post : List ℕ) (x : ℕ) → x < 65536 → u16_at (pre ++ (low_bytes 2 x ++ post)) (length pre) ≡ x
unfolding u16_at low_bytes
u16-back pre post x l =
    let s = pre ++ (low_bytes 2 x ++ post) in
    let a : get_or s (length pre) 0 ≡ x % 256 =
    ap (λ (k : ℕ). get_or s k 0) (sym (add-zero (length pre))) ∙ get_or-append-add pre (low_bytes 2 x ++ post) 0 0 in
    let b : get_or s (length pre + 1) 0 ≡ x / 256 % 256 = get_or-append-add pre (low_bytes 2 x ++ post) 1 0 in
    ap₂ (λ (p q : ℕ). p + 256 * q) a b ∙ two-bytes x l

four-bytes : (x : ℕ) → x < 4294967296 → x % 256 + 256 * (x / 256 % 256) + 65536 * (x / 256 / 256 % 256 + 256 * (x / 256 / 256 / 256 % 256)) ≡ x
four-bytes x l = omega arith

pub u32-back : (pre post : List ℕ) (x : ℕ) → x < 4294967296 → u32_at (pre ++ (low_bytes 4 x ++ post)) (length pre) ≡ x
unfolding u32_at u16_at low_bytes
u32-back pre post x l =
    let t = low_bytes 4 x ++ post in
    let s = pre ++ t in
    let a : get_or s (length pre) 0 ≡ x % 256 = ap (λ (k : ℕ). get_or s k 0) (sym (add-zero (length pre))) ∙ get_or-append-add pre t 0 0 in
    let b : get_or s (length pre + 1) 0 ≡ x / 256 % 256 = get_or-append-add pre t 1 0 in
    let c : get_or s (length pre + 2) 0 ≡ x / 256 / 256 % 256 = get_or-append-add pre t 2 0 in
    let e : length pre + 2 + 1 ≡ length pre + 3 = omega arith in
    let d : get_or s (length pre + 2 + 1) 0 ≡ x / 256 / 256 / 256 % 256 = ap (λ (k : ℕ). get_or s k 0) e ∙ get_or-append-add pre t 3 0 in
    ap₂ (λ (p q : ℕ). p + 65536 * q) (ap₂ (λ (p q : ℕ). p + 256 * q) a b) (ap₂ (λ (p q : ℕ). p + 256 * q) c d) ∙ four-bytes x l
