-- What the first of two windows leaves of a table.
--
--   Filled g from k n t       of the n words of t, those from a place on and before k are the values of g
--   filled_next               one word more
--   prepared-rows             the words after a window, as the window's basis leaves them, tell of each pair
--   prepared-columns          so do those after a strip, reduced by the strip
--   left, row-left            one row of pairs, by what the first window leaves
--   block_start, block-next a block of words, one more after the other
--   filled-block, cycle-home  what a block fills, and where the next begins
--   kept-most, kept-inside    no more are kept than there are, and of a window all fit
--   rest-free                 a part is free where all of it is counted
--
-- Assumes nothing.
use mathlib.Core.Path.{◌≡◌, refl, sym, ap, ap₂, ◌∙◌}
use mathlib.Core.Bool.{Bool, ◌&&◌}
use mathlib.Core.List.{List, [], ◌++◌, map}
use Prim.Native.Nat.{ℕ, ◌+◌, ◌-◌, ◌*◌, ◌%◌, ◌≤◌, ◌<◌, max}
use native.Mathlib.Nat.{mod-add-mod, mod-eq_of_lt, mod_self, zero-add, zero-mul}
use native.Mathlib.Decide.{ℕ_discrete, dec_lt}
use native.Mathlib.Omega.{arith}
use borrow.Author.Tests.{eq-eqb}
use lib.Dec.{eqb}
use lib.ListN.{length, get_or, take, set, length-set}
use lib.Seq.{get_or-set_same, get_or-set_other}
use Rattle.gf2.specs.Xor.{◌⊕◌}
use Rattle.gf2.specs.Vectors.{taken_from, free_from, run, part}
use Rattle.gf2.specs.Swept.{swept, KeptOf}
use Rattle.gf2.specs.declared.Kept.{Kept}
use Rattle.gf2.proofs.Vectors.{taken-le}
use Rattle.gf2.proofs.Keeping.{kept_append}
use Rattle.gf2.proofs.Runs.{run-part, run-map, part_length}
use Rattle.plan.specs.declared.table.Table.{Table}
use Rattle.plan.specs.declared.table.Table.TheVariants.{Rows, Columns}
use Rattle.std.proofs.Common.{Option, None}
use Rattle.accept.specs.Pairs.{in_row}
use Rattle.plan.specs.Table.{word_at}
use Rattle.accept.specs.Windows.{reduction, rest_run, pair_list, pair_free, windows_free, start_of, WindowIn, Windows, Block, Prepared, Reduced}
use Rattle.accept.proofs.Pairing.{row-equal}
use Rattle.accept.proofs.Shift.{window-in}

pub record Filled (g : ℕ → ℕ) (from k n : ℕ) (t : List ℕ) : Type 0 where
  pub size : length t ≡ n
  pub value : (x : ℕ) → from ≤ x → x < k → get_or t x 0 ≡ g x

pub filled_next : {g : ℕ → ℕ} {from k n : ℕ} {t : List ℕ} → Filled g from k n t → k < n → (v : ℕ) → v ≡ g k → Filled g from (k + 1) n (set t k v)
filled_next {g} {from} {k} {n} {t} f l v e = record { size = length-set t k v ∙ f.size; value = λ x p u. go x p u (ℕ_discrete x k) }
  where
    go : (x : ℕ) → from ≤ x → x < k + 1 → Dec (x ≡ k) → get_or (set t k v) x 0 ≡ g x
    go x p u (yes q) = rw q (get_or-set_same t k v 0 (omega (arith, f.size)) ∙ e)
    go x p u (no q) = get_or-set_other t k x v 0 q ∙ f.value x p (omega arith)

-- the rest of the window at b, in a table that has the values
rest_part : (g : ℕ → ℕ) (size a b : ℕ) {n : ℕ} (t : List ℕ) → a ≤ b → b + size ≤ n → Filled g (a + size) n n t
    → rest_run g size a b ≡ part (max (a + size) b) (b + size) t
unfolding rest_run
rest_part g size a b {n} t l u f =
    sym (run-part g (max (a + size) b) (b + size) t (omega arith) (omega (arith, f.size)) (λ k p q. f.value k (omega arith) (omega arith)))

module _ (words : List ℕ) (size a : ℕ) (inside : a + size ≤ length words) (rest : List ℕ) where
  pub prepared-rows : {base : Kept} → KeptOf (part a (a + size) words) base
      → Filled (λ k. swept (take base.taken base.words) (word_at words k)) (a + size) (length words) (length words) rest
      → Prepared Rows words size a base.taken rest
  unfolding pair_free pair_list
  prepared-rows {base} k f = record { long = f.size; free = free }
    where
      g : ℕ → ℕ
      g = swept (take base.taken base.words)

      own : run (word_at words) a size ≡ part a (a + size) words
      own =
          let e : a + size - a ≡ size = omega arith in
          sym (run-part (word_at words) a (a + size) words (omega arith) inside (λ k p q. refl) ∙ ap (run (word_at words) a) e)

      own-size : length (part a (a + size) words) ≡ size
      own-size = part_length a (a + size) words (omega arith) inside ∙ omega arith

      mapped : (b : ℕ) → map g (rest_run (word_at words) size a b) ≡ rest_run (λ k. g (word_at words k)) size a b
      mapped b = unfold rest_run in sym (run-map g (word_at words) (max (a + size) b) (b + size - max (a + size) b))

      free : (b : ℕ) → a ≤ b → b + size ≤ length words
          → pair_free Rows (word_at words) size a b ≡ (eqb base.taken size && free_from [] (part (max (a + size) b) (b + size) rest))
      free b l u =
          ap (λ (s : List ℕ). free_from [] (s ++ rest_run (word_at words) size a b)) own
          ∙ kept_append (part a (a + size) words) (rest_run (word_at words) size a b) base k
          ∙ ap₂ (λ (n : ℕ) (s : List ℕ). eqb base.taken n && free_from [] s) own-size
          (mapped b ∙ rest_part (λ k. g (word_at words k)) size a b rest l u f)

pub prepared-columns : {words rest : List ℕ} {size a r : ℕ} → (r ≡ size) × Reduced words size a rest → Prepared Columns words size a r rest
unfolding pair_free pair_list
prepared-columns {words} {rest} {size} {a} (e, q) = rw e (record {
  long = q.long;
  free = λ b l u.
      ap (free_from []) (rest_part (reduction (word_at words) a size) size a b rest l u (record { size = q.long; value = q.value }))
      ∙ ap (λ (t : Bool). t && free_from [] (part (max (a + size) b) (b + size) rest)) (sym (eq-eqb size size refl));
})

-- what the first window leaves of the window that begins at j × step is free
abbrev pub left : ℕ → List ℕ → ℕ → ℕ → ℕ → ℕ → Bool
left taken rest size step i j = eqb taken size && free_from [] (part (max (0 + size) (j * step)) (j * step + size) rest)

-- one row of pairs, by what the first window leaves
pub row-left : (t : Table) (words : List ℕ) {rest : List ℕ} {step size count taken : ℕ} → Windows (length words) step size count
    → Prepared t words size 0 taken rest → {s : ℕ} → s ≡ start_of t 0 → {r : Option (ℕ × ℕ)} → in_row (left taken rest size step) 0 s (count - s) None ≡ r
    → r ≡ in_row (windows_free t (word_at words) step size) 0 (start_of t 0) (count - start_of t 0) None
row-left t words {rest} {step} {size} {count} {taken} w p {s} e f =
    sym f
    ∙ row-equal (left taken rest size step) (windows_free t (word_at words) step size) 0 (count - s) s None (λ k l u. sym (pair k (omega arith)))
    ∙ ap (λ (x : ℕ). in_row (windows_free t (word_at words) step size) 0 x (count - x) None) e
  where
    pair : (k : ℕ) → k < count → windows_free t (word_at words) step size 0 k ≡ left taken rest size step 0 k
    pair k l = ap (λ (a : ℕ). pair_free t (word_at words) size a (k * step)) (zero-mul step) ∙ p.free (k * step) (omega arith) (window-in w k l)

-- the place in the first window of the next entry
-- one word more of a block
pub block_start : (f : ℕ → ℕ) (a k : ℕ) (t : List ℕ) → Block f a k 0 t t
block_start f a k t = record { long = refl; before = λ x l. refl; here = λ d l. absurd (omega arith) }

pub block-next : {f : ℕ → ℕ} {a k n : ℕ} {old t : List ℕ} → Block f a k n old t → k + n < length old → (v : ℕ) → v ≡ f (k + n) ⊕ f (a + n)
    → Block f a k (n + 1) old (set t (k + n) v)
block-next {f} {a} {k} {n} {old} {t} b l v e = record {
  long = length-set t (k + n) v ∙ b.long;
  before = λ x u. get_or-set_other t (k + n) x v 0 (λ q. omega arith) ∙ b.before x u;
  here = λ d u. go d u (ℕ_discrete d n);
}
  where
    go : (d : ℕ) → d < n + 1 → Dec (d ≡ n) → get_or (set t (k + n) v) (k + d) 0 ≡ f (k + d) ⊕ f (a + d)
    go d u (yes q) = rw q (get_or-set_same t (k + n) v 0 (omega (arith, b.long)) ∙ e)
    go d u (no q) = get_or-set_other t (k + n) (k + d) v 0 (λ z. q (omega arith)) ∙ b.here d (omega arith)

-- a block that begins where the strip's first remainder does; so does the next, if the block is as long as the strip
module _ (f : ℕ → ℕ) (a size k n : ℕ) (few : n ≤ size) (after : a + size ≤ k) (home : (k - a) % size ≡ 0) where
  cycle-at : (d : ℕ) → d < size → (k + d - a) % size ≡ d
  cycle-at d l =
      let z : k + d - a ≡ k - a + d = omega arith in
      ap (λ (x : ℕ). x % size) z ∙ sym (mod-add-mod (k - a) size d) ∙ ap (λ (x : ℕ). (x + d) % size) home
      ∙ ap (λ (x : ℕ). x % size) (zero-add d) ∙ mod-eq_of_lt l

  pub filled-block : {len : ℕ} {t t' : List ℕ} → Filled (reduction f a size) (a + size) k len t → Block f a k n t t'
      → Filled (reduction f a size) (a + size) (k + n) len t'
  unfolding reduction
  filled-block {len} {t} {t'} F b = record { size = b.long ∙ F.size; value = λ x l u. go x l u (dec_lt x k) }
    where
      go : (x : ℕ) → a + size ≤ x → x < k + n → Dec (x < k) → get_or t' x 0 ≡ f x ⊕ f (a + (x - a) % size)
      go x l u (yes q) = b.before x q ∙ F.value x l q
      go x l u (no q) =
          let d = x - k in
          let z : k + d ≡ x = omega arith in
          let m : (x - a) % size ≡ d = ap (λ (y : ℕ). (y - a) % size) (sym z) ∙ cycle-at d (omega arith) in
          ap (λ (y : ℕ). get_or t' y 0) (sym z) ∙ b.here d (omega arith)
          ∙ ap₂ (λ (y e : ℕ). f y ⊕ f (a + e)) z (sym m)

  pub cycle-home : n ≡ size → (k + n - a) % size ≡ 0
  cycle-home e =
      let z : k + n - a ≡ k - a + size = omega arith in
      ap (λ (x : ℕ). x % size) z ∙ sym (mod-add-mod (k - a) size size) ∙ ap (λ (x : ℕ). (x + size) % size) home
      ∙ ap (λ (x : ℕ). x % size) (zero-add size) ∙ mod_self size

-- no more are kept than there are
pub kept-most : {ms : List ℕ} {r : Kept} → KeptOf ms r → r.taken ≤ length ms
kept-most {ms} {r} k = omega (arith, k.count, taken-le ms [])

pub kept-inside : (a size : ℕ) (words : List ℕ) {r : Kept} → KeptOf (part a (a + size) words) r → WindowIn (length words) a size → r.taken ≤ length r.words
kept-inside a size words k w =
    omega (arith, kept-most k, part_length a (a + size) words (omega arith) w.inside, k.size, w.size_most)

-- a part is free where all of it is counted
pub rest-free : (a b : ℕ) (t : List ℕ) {r : ℕ} → a ≤ b → b ≤ length t → r ≡ taken_from [] (part a b t) → eqb r (b - a) ≡ free_from [] (part a b t)
unfolding free_from
rest-free a b t l u e = ap₂ eqb e (sym (part_length a b t l u))
