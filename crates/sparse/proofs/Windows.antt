-- Laws of the sums of a window, taken place after place:
--
--   Begun t f first k count sums marks   of the sets of the first k places no two have the same sum, and the first count sums are theirs
--   begun-start, begun-next              no place is taken yet; one more is
--   begun-stops, begun-ends              the answer where a sum is there already, and where all places are taken
--
-- Assumes nothing.
use mathlib.Core.Path.{◌≡◌, refl, sym, ap, ap₂, ◌∙◌}
use mathlib.Core.Bool.{Bool, true, false, ◌&&◌, ◌||◌, not}
use mathlib.Core.List.{List}
use Prim.Native.Nat.{ℕ, zero, suc, ◌+◌, ◌*◌, ◌≤◌, ◌<◌}
use native.Mathlib.Numerals.{add-one}
use native.Mathlib.Decide.{ℕ_discrete}
use native.Mathlib.Omega.{arith}
use Rattle.std.specs.Prelude.{Some}
use lib.Dec.{eqb}
use lib.ListN.{length, take}
use Rattle.finite.proofs.Truth.{and-false, eqb_comm}
use Rattle.sparse.specs.Sets.{hit_at, set_sum, clear, one_of, SumsOf}
use Rattle.sparse.specs.Collect.{OnlyZero, Added, Windowed}
use Rattle.sparse.proofs.Marks.{hit-equal}

module _ (t : ℕ) (f : ℕ → ℕ) (first : ℕ) where
  -- one place more
  clear-more : (k : ℕ) → clear t f first k ≡ true → hit_at t f first (first + k) (set_sum t f first k) ≡ false → clear t f first (k + 1) ≡ true
  unfolding clear
  clear-more k c h = ap (clear t f first) (add-one k) ∙ ap₂ (λ (a b : Bool). a && not b) c h

  -- two sums that are equal stay so
  clear-stop : (n k : ℕ) → k < n → hit_at t f first (first + k) (set_sum t f first k) ≡ true → clear t f first n ≡ false
  unfolding clear
  clear-stop zero k l h = absurd (omega arith)
  clear-stop (suc n) k l h = go (ℕ_discrete k n) (clear-stop n k)
    where
      go : Dec (k ≡ n) → (k < n → hit_at t f first (first + k) (set_sum t f first k) ≡ true → clear t f first n ≡ false)
          → (clear t f first n && not (hit_at t f first (first + n) (set_sum t f first n))) ≡ false
      go (yes e) ih =
          let g : hit_at t f first (first + n) (set_sum t f first n) ≡ true =
          ap (λ (m : ℕ). hit_at t f first (first + m) (set_sum t f first m)) (sym e) ∙ h in
          ap (λ (b : Bool). clear t f first n && not b) g ∙ and-false (clear t f first n)
      go (no e) ih = ap (λ (b : Bool). b && not (hit_at t f first (first + n) (set_sum t f first n))) (ih (omega arith) h)

  sum_more : (k x : ℕ) → (set_sum t f first k x || hit_at t f first (first + k) (λ y. eqb y x)) ≡ set_sum t f first (k + 1) x
  unfolding set_sum
  sum_more k x = ap (λ (n : ℕ). set_sum t f first n x) (sym (add-one k))

pub record Begun (t : ℕ) (f : ℕ → ℕ) (first k count : ℕ) (sums marks : List ℕ) : Type 0 where
  pub long : length sums ≡ 257
  pub free : clear t f first k ≡ true
  pub sums_of : SumsOf t f first k (take count sums) marks
  pub least : 1 ≤ count
  pub most : count ≤ 1 + 16 * k

pub begun-start : (t : ℕ) (f : ℕ → ℕ) (first : ℕ) {r : ℕ} {sums marks : List ℕ} → length sums ≡ 257 → OnlyZero r sums marks → Begun t f first 0 r sums marks
unfolding clear set_sum
begun-start t f first e z = record {
  long = e;
  free = refl;
  sums_of = record { marked = z.marked; are = λ x. z.are x ∙ eqb_comm 0 x };
  least = omega (arith, z.count);
  most = omega (arith, z.count);
}

module _ {t : ℕ} {f : ℕ → ℕ} {first k count : ℕ} {old oldmarks : List ℕ} (b : Begun t f first k count old oldmarks) where
  -- what was asked of the list was asked of the sums of the sets
  asked : hit_at t f first (first + k) (one_of (take count old)) ≡ hit_at t f first (first + k) (set_sum t f first k)
  asked = hit-equal t f first (first + k) (one_of (take count old)) (set_sum t f first k) b.sums_of.are

  pub begun-next : {r : ℕ} {sums marks : List ℕ} → Added t f first (first + k) count r old sums marks → Begun t f first (k + 1) r sums marks
  begun-next {r} s =
      let m : count ≤ 1 + 16 * k = b.most in
      let n : r ≤ count + 16 = s.most in
      record {
        long = s.grown.long;
        free = clear-more t f first k b.free (sym asked ∙ s.free);
        sums_of =
            record {
              marked = s.grown.marked;
              are = λ x.
                  s.grown.are x ∙ ap (λ (a : Bool). a || hit_at t f first (first + k) (λ y. eqb y x)) (b.sums_of.are x) ∙ sum_more t f first k x;
            };
        least = s.some;
        most = omega arith;
      }

  pub begun-stops : (size : ℕ) → k < size → hit_at t f first (first + k) (one_of (take count old)) ≡ true → clear t f first size ≡ false
  begun-stops size l h = clear-stop t f first size k l (sym asked ∙ h)

pub begun-ends : {t : ℕ} {f : ℕ → ℕ} {first size r : ℕ} {sums marks : List ℕ} → Begun t f first size r sums marks → size ≤ 16
    → Windowed t f first size (Some r) sums marks
begun-ends {t} {f} {first} {size} {r} b l = record { free = b.free; sums_of = b.sums_of; some = b.least; most = omega (arith, b.most) }
