-- Laws of text in a buffer.
--
--   put-more       text after text is one text
--   put_as         the same text, said otherwise
--   put-length     a buffer keeps its length
--   put_front      text at the start of a buffer with room for it is what stands there
--   put-printed    so it is printed there
--   put-none, put-take, put-copied   nothing is written; one byte more of a list that is copied; a whole text is copied to the start
--   decimal-one, decimal-more   a number of one digit, and one of more: the last digit after all the others
--   decimal-most   a number below 10 to the power k + 1 has at most k + 1 digits
--   each_more, each_put   one text more; the same, written after those before it
--   hex-length     two digits a byte
--
-- Assumes nothing.
use mathlib.Core.Path.{◌≡◌, refl, sym, ap, ◌∙◌}
use mathlib.Core.Bool.{Bool, true, false}
use mathlib.Core.List.{List, [], ◌∷◌, ◌++◌, append_assoc, append-nil}
use Prim.Native.Nat.{ℕ, zero, suc, ◌+◌, ◌*◌, ◌/◌, ◌%◌, ◌^◌, ◌≤◌, ◌<◌}
use native.Mathlib.Nat.{add-zero, zero-add, pow-suc}
use native.Mathlib.Numerals.{add-one}
use native.Mathlib.Omega.{arith}
use borrow.Author.Tests.{lt-ltb, le-ltb, ltb-true, ltb-false}
use lib.Dec.{ltb}
use lib.ListN.{length, take, drop, get_or, set, length-append}
use lib.Seq.{sets, length-sets, sets-eq, take-append_seam, take-suc, length-take-le}
use Rattle.text.specs.Text.{digit_of, decimal_within, decimal_bytes, each, hex_bytes, hex_text, Put, Printed}

-- ---- runs of stores

sets-append : (xs l : List ℕ) (i : ℕ) (ys : List ℕ) → sets l i (xs ++ ys) ≡ sets (sets l i xs) (i + length xs) ys
sets-append [] l i ys = rw add-zero
sets-append (x ∷ xs) l i ys =
    let e : suc i + length xs ≡ i + suc (length xs) = omega arith in
    sets-append xs (set l i x) (suc i) ys ∙ ap (λ (k : ℕ). sets (sets (set l i x) (suc i) xs) k ys) e

pub put-more : {a b c : List ℕ} {n m k : ℕ} {xs ys : List ℕ} → Put a n xs b m → Put b m ys c k → Put a n (xs ++ ys) c k
put-more {a} {b} {c} {n} {m} {k} {xs} {ys} p q = record {
  bytes = q.bytes ∙ ap (λ (l : List ℕ). sets l m ys) p.bytes ∙ ap (λ (j : ℕ). sets (sets a n xs) j ys) p.past ∙ sym (sets-append xs a n ys);
  past = omega (arith, length-append xs ys, p.past, q.past);
}

-- the same text, said otherwise
pub put_as : {a b : List ℕ} {n m : ℕ} {xs ys : List ℕ} → Put a n xs b m → xs ≡ ys → Put a n ys b m
put_as p e = rw e at p

pub put-length : {a b : List ℕ} {n m : ℕ} {xs : List ℕ} → Put a n xs b m → length b ≡ length a
put-length {a} {b} {n} {m} {xs} p = ap length p.bytes ∙ length-sets a n xs

pub put_front : {a b : List ℕ} {r : ℕ} {xs : List ℕ} → Put a 0 xs b r → length xs ≤ length a → take r b ≡ xs
put_front {a} {b} {r} {xs} p h =
    let e : r ≡ length xs = omega (arith, p.past) in
    rw (e, p.bytes, sets-eq xs a 0 (omega arith)) (take-append_seam xs _)

pub put-printed : {a b : List ℕ} {r : ℕ} {xs ys : List ℕ} → Put a 0 xs b r → r ≤ length a → xs ≡ ys → Printed ys b r
put-printed {a} {b} {r} {xs} {ys} p h e =
    let w : r ≤ length b = omega (arith, put-length p) in
    record { bytes = put_front p (omega (arith, p.past)) ∙ e; within = w; counted = sym (length-take-le r b w) }

pub put-none : (a : List ℕ) (n : ℕ) → Put a n [] a n
put-none a n = record { bytes = refl; past = omega arith }

-- one byte more of a list that is copied
pub put-take : (a b s : List ℕ) {i : ℕ} → i < length s → Put a 0 (take i s) b i → Put a 0 (take (i + 1) s) (set b i (get_or s i 0)) (i + 1)
put-take a b s {i} h p = rw (add-one, take-suc s i 0) (put-more p (record { bytes = refl; past = omega arith }))

-- a whole text, copied to the start
pub put-copied : (a xs : List ℕ) → length xs ≤ length a → Put a 0 xs (xs ++ drop (length xs) a) (length xs)
put-copied a xs h = record { bytes = sym (sets-eq xs a 0 (omega arith) ∙ ap (λ (k : ℕ). xs ++ drop k a) (zero-add (length xs))); past = omega arith }

-- ---- decimal

within-one : (k n : ℕ) → n < 10 → decimal_within k n ≡ digit_of n ∷ []
unfolding decimal_within
within-one zero n h = refl
within-one (suc k) n h = rw (lt-ltb n 10 h)

within_more : (k n : ℕ) → 10 ≤ n → decimal_within (suc k) n ≡ decimal_within k (n / 10) ++ (digit_of (n % 10) ∷ [])
unfolding decimal_within
within_more k n h = rw (le-ltb n 10 h)

within_same : (k j n : ℕ) → n ≤ k → n ≤ j → decimal_within k n ≡ decimal_within j n
within_same zero j n h l = within-one zero n (omega arith) ∙ sym (within-one j n (omega arith))
within_same (suc k) zero n h l = within-one (suc k) n (omega arith) ∙ sym (within-one zero n (omega arith))
within_same (suc k) (suc j) n h l = go (ltb n 10) refl (λ i m. within_same k j (n / 10) i m)
  where
    go : (t : Bool) → ltb n 10 ≡ t → (n / 10 ≤ k → n / 10 ≤ j → decimal_within k (n / 10) ≡ decimal_within j (n / 10))
        → decimal_within (suc k) n ≡ decimal_within (suc j) n
    go true e f = within-one (suc k) n (ltb-true n 10 e) ∙ sym (within-one (suc j) n (ltb-true n 10 e))
    go false e f =
        let m : 10 ≤ n = ltb-false n 10 e in
        within_more k n m ∙ ap (λ (d : List ℕ). d ++ (digit_of (n % 10) ∷ [])) (f (omega arith) (omega arith)) ∙ sym (within_more j n m)

pub decimal-one : (n : ℕ) → n < 10 → decimal_bytes n ≡ digit_of n ∷ []
unfolding decimal_bytes
decimal-one n h = within-one n n h

pub decimal-more : (n : ℕ) → 10 ≤ n → decimal_bytes n ≡ decimal_bytes (n / 10) ++ (digit_of (n % 10) ∷ [])
unfolding decimal_bytes
decimal-more n h =
    within_same n (suc n) n (omega arith) (omega arith)
    ∙ within_more n n h
    ∙ ap (λ (d : List ℕ). d ++ (digit_of (n % 10) ∷ [])) (within_same n (n / 10) (n / 10) (omega arith) (omega arith))

pub decimal-most : (k n : ℕ) → n < 10 ^ suc k → length (decimal_bytes n) ≤ suc k
decimal-most zero n h = rw (decimal-one n h) (omega arith)
decimal-most (suc k) n h = go (ltb n 10) refl (λ i. decimal-most k (n / 10) i)
  where
    go : (t : Bool) → ltb n 10 ≡ t → (n / 10 < 10 ^ suc k → length (decimal_bytes (n / 10)) ≤ suc k) → length (decimal_bytes n) ≤ suc (suc k)
    go true e f = rw (decimal-one n (ltb-true n 10 e)) (omega arith)
    go false e f =
        let m : n / 10 < 10 ^ suc k = omega (arith, pow-suc 10 (suc k)) in
        let i = f m in
        rw (decimal-more n (ltb-false n 10 e)) (omega (arith, length-append (decimal_bytes (n / 10)) (digit_of (n % 10) ∷ [])))

-- ---- one text after another

each_snoc : (f : ℕ → List ℕ) (s : List ℕ) (x : ℕ) → each f (s ++ (x ∷ [])) ≡ each f s ++ f x
unfolding each
each_snoc f [] x = append-nil (f x)
each_snoc f (y ∷ s) x = ap (λ (t : List ℕ). f y ++ t) (each_snoc f s x) ∙ sym (append_assoc (f y) (each f s) (f x))

pub each_more : (f : ℕ → List ℕ) (s : List ℕ) (i : ℕ) → i < length s → each f (take (i + 1) s) ≡ each f (take i s) ++ f (get_or s i 0)
each_more f s i h = rw (add-one, take-suc s i 0) (each_snoc f (take i s) (get_or s i 0))

-- one text more, after those of the first i numbers
pub each_put : (f : ℕ → List ℕ) (s : List ℕ) (i : ℕ) {a b c : List ℕ} {n m k : ℕ} → i < length s
    → Put a n (each f (take i s)) b m → Put b m (f (get_or s i 0)) c k → Put a n (each f (take (i + 1) s)) c k
each_put f s i h p q = put_as (put-more p q) (sym (each_more f s i h))

pub hex-length : (s : List ℕ) → length (hex_text s) ≡ 2 * length s
unfolding hex_text each hex_bytes
hex-length [] = refl
hex-length (b ∷ s) = let i = hex-length s in omega arith
