-- Parts of a string of bytes:
--
--   part_length                  a part that lies in the string has its length
--   joined-part                  string i of those joined, after anything, is the part that begins i sizes on
--   laid_none                    none laid: nothing is changed
--   laid-length                  parts laid in keep the string's length
--   laid-part                    the next part is still what it was
--   laid_next                    that one replaced: one more is laid
--   laid-all                     all laid, up to the string's end: its first bytes, and the strings joined
--
-- Assumes nothing.
use mathlib.Core.Path.{◌≡◌, sym, ap, ap₂, ◌∙◌}
use mathlib.Core.List.{List, ◌++◌, append_assoc, append-nil}
use Prim.Native.Nat.{ℕ, zero, suc, ◌+◌, ◌*◌, ◌≤◌, ◌<◌}
use native.Mathlib.Nat.{zero-mul, suc-mul, mul-le-mul_right, lt-suc_self}
use native.Mathlib.Decide.{dec_lt}
use native.Mathlib.Omega.{arith}
use lib.ListN.{length, take, drop, length-append, length-drop, take-append-drop, drop_of_length-le}
use lib.Seq.{length-take-le, take_all, take-append-le, drop-append-le, drop-append-add, take_at, drop_at, drop-drop}
use Rattle.layout.specs.Joined.{joined}
use Rattle.layout.proofs.Joined.{joined_length}
use Rattle.stackform.specs.Parts.{part, replaced, laid}

pub part_length : (s : List ℕ) (a k : ℕ) → a + k ≤ length s → length (part s a k) ≡ k
unfolding part
part_length s a k l = length-take-le k (drop a s) (let d = length-drop a s in omega arith)

-- ---- strings joined

string-at : (size n : ℕ) (f : ℕ → List ℕ) → ((i : ℕ) → i < n → length (f i) ≡ size) → (i : ℕ) → i < n → take size (drop (i * size) (joined n f)) ≡ f i
unfolding joined
string-at size zero f h i l = absurd (omega arith)
string-at size (suc n) f h i l = go (dec_lt i n) (string-at size n f (λ j lj. h j (omega arith)) i)
  where
    long : length (joined n f) ≡ n * size
    long = joined_length size n f (λ j lj. h j (omega arith))

    go : Dec (i < n) → (i < n → take size (drop (i * size) (joined n f)) ≡ f i) → take size (drop (i * size) (joined n f ++ f n)) ≡ f i
    go (yes m) ih =
        let p : suc i * size ≤ n * size = mul-le-mul_right size m in
        let q = suc-mul i size in
        let d = length-drop (i * size) (joined n f) in
        let e = long in
        ap (take size) (drop-append-le (i * size) (joined n f) (f n) (omega arith))
        ∙ take-append-le size (drop (i * size) (joined n f)) (f n) (omega arith)
        ∙ ih m
    go (no m) ih =
        let e : i ≡ n = omega arith in
        let z = h n (lt-suc_self n) in
        ap (λ (k : ℕ). take size (drop (k * size) (joined n f ++ f n))) e
        ∙ ap (take size) (drop_at (joined n f) (f n) (n * size) long)
        ∙ take_all size (f n) (omega arith)
        ∙ ap f (sym e)

pub joined-part : (s : List ℕ) (size n : ℕ) (f : ℕ → List ℕ) → ((i : ℕ) → i < n → length (f i) ≡ size) → (i : ℕ) → i < n
    → part (s ++ joined n f) (length s + i * size) size ≡ f i
unfolding part
joined-part s size n f h i l = ap (take size) (drop-append-add s (joined n f) (i * size)) ∙ string-at size n f h i l

-- ---- parts laid one after the other

module _ (a size : ℕ) where
  next : (n : ℕ) → a + n * size + size ≡ a + suc n * size
  next n = let m = suc-mul n size in omega arith

  pub laid_none : (f : ℕ → List ℕ) (s : List ℕ) → s ≡ laid a size 0 f s
  unfolding laid joined
  laid_none f s =
      let z = zero-mul size in
      let e : a ≡ a + 0 * size = omega arith in
      sym (take-append-drop a s) ∙ ap (λ (k : ℕ). take a s ++ drop k s) e

  module _ (n : ℕ) (f : ℕ → List ℕ) (s : List ℕ) (each : (i : ℕ) → i < n → length (f i) ≡ size) where
    -- what is laid, with what is before it
    front_length : a + n * size ≤ length s → length (take a s ++ joined n f) ≡ a + n * size
    front_length l =
        let u = length-append (take a s) (joined n f) in
        let v : length (take a s) ≡ a = length-take-le a s (omega arith) in
        let w = joined_length size n f each in
        omega arith

    front-drop : a + n * size ≤ length s → drop (a + n * size) (laid a size n f s) ≡ drop (a + n * size) s
    unfolding laid
    front-drop l =
        ap (drop (a + n * size)) (sym (append_assoc (take a s) (joined n f) (drop (a + n * size) s)))
        ∙ drop_at (take a s ++ joined n f) (drop (a + n * size) s) (a + n * size) (front_length l)

    front-take : a + n * size ≤ length s → take (a + n * size) (laid a size n f s) ≡ take a s ++ joined n f
    unfolding laid
    front-take l =
        ap (take (a + n * size)) (sym (append_assoc (take a s) (joined n f) (drop (a + n * size) s)))
        ∙ take_at (take a s ++ joined n f) (drop (a + n * size) s) (a + n * size) (front_length l)

    pub laid-length : a + n * size ≤ length s → length (laid a size n f s) ≡ length s
    unfolding laid
    laid-length l =
        let u = length-append (take a s) (joined n f ++ drop (a + n * size) s) in
        let v = length-append (joined n f) (drop (a + n * size) s) in
        let w = length-append (take a s) (joined n f) in
        let e = front_length l in
        let d = length-drop (a + n * size) s in
        omega arith

    pub laid-part : a + n * size + size ≤ length s → part (laid a size n f s) (a + n * size) size ≡ part s (a + n * size) size
    unfolding part
    laid-part l = ap (take size) (front-drop (omega arith))

    pub laid_next : a + n * size + size ≤ length s → replaced (laid a size n f s) (a + n * size) size (f n) ≡ laid a size (suc n) f s
    unfolding replaced laid joined
    laid_next l =
        let k = a + n * size in
        ap₂ (λ (p q : List ℕ). p ++ (f n ++ drop size q)) (front-take (omega arith)) (front-drop (omega arith))
        ∙ ap (λ (q : List ℕ). (take a s ++ joined n f) ++ (f n ++ q)) (drop-drop size k s ∙ ap (λ (j : ℕ). drop j s) (next n))
        ∙ append_assoc (take a s) (joined n f) (f n ++ drop (a + suc n * size) s)
        ∙ ap (λ (q : List ℕ). take a s ++ q) (sym (append_assoc (joined n f) (f n) (drop (a + suc n * size) s)))

  pub laid-all : (n : ℕ) (f : ℕ → List ℕ) (s : List ℕ) → length s ≡ a + n * size → laid a size n f s ≡ take a s ++ joined n f
  unfolding laid
  laid-all n f s e =
      ap (λ (q : List ℕ). take a s ++ (joined n f ++ q)) (drop_of_length-le s {i = a + n * size} (omega arith))
      ∙ ap (λ (q : List ℕ). take a s ++ q) (append-nil (joined n f))
