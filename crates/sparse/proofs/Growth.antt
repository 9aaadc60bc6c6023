-- Laws of a list of sums that grows:
--
--   one_more, marked_more          one sum more, and its mark
--   grown-start, grown-next        a list as it stands, and with one sum more
--   run-start, run-next            a list that takes the sums of a run of sets
--   one-added, last_one, last-two  a list that takes the sums of the sets whose last place is k
--   zero-only                      the list with the sum 0 only
--
-- Assumes nothing.
use mathlib.Core.Path.{◌≡◌, refl, sym, ap, ap₂, subst, ◌∙◌}
use mathlib.Core.Bool.{Bool, true, false, ◌||◌}
use mathlib.Core.List.{List}
use Prim.Native.Nat.{ℕ, ◌+◌, ◌≤◌, ◌<◌}
use native.Mathlib.Numerals.{add-one}
use native.Mathlib.Decide.{ℕ_discrete}
use native.Mathlib.Omega.{arith}
use lib.Dec.{eqb}
use lib.ListN.{length, take, set, length-set}
use lib.Seq.{length-take-le, get_or-take, get_or-set_same, get_or-set_other}
use Rattle.finite.specs.Search.{any_below}
use Rattle.finite.proofs.Truth.{or-none, or_assoc}
use Rattle.finite.proofs.Search.{any-equal}
use Rattle.plan.specs.Table.{word_at}
use Rattle.sparse.specs.Sets.{hit_at, has_mark, mark_set, one_of, Marked}
use Rattle.sparse.specs.Collect.{pair_has, Grown, OnlyZero}
use Rattle.sparse.proofs.Marks.{any_last, mark-length, mark-here, mark-stays, few-hit, two-hit}

-- a list with place r set to x, up to that place
module _ (sums : List ℕ) (r x : ℕ) (l : r < length sums) where
  more-length : length (take (r + 1) (set sums r x)) ≡ r + 1
  more-length = let e : length (set sums r x) ≡ length sums = length-set sums r x in length-take-le (r + 1) (set sums r x) (omega arith)

  more-before : (d : ℕ) → d < r → word_at (take (r + 1) (set sums r x)) d ≡ word_at (take r sums) d
  more-before d m =
      get_or-take (r + 1) (set sums r x) d 0 (omega arith) ∙ get_or-set_other sums r d x 0 (λ e. omega arith) ∙ sym (get_or-take r sums d 0 m)

  more-last : word_at (take (r + 1) (set sums r x)) r ≡ x
  more-last = get_or-take (r + 1) (set sums r x) r 0 (omega arith) ∙ get_or-set_same sums r x 0 l

  pub one_more : (y : ℕ) → one_of (take (r + 1) (set sums r x)) y ≡ (one_of (take r sums) y || eqb x y)
  unfolding one_of any_below
  one_more y =
      let p : ℕ → Bool = λ (d : ℕ). eqb (word_at (take (r + 1) (set sums r x)) d) y in
      let q : ℕ → Bool = λ (d : ℕ). eqb (word_at (take r sums) d) y in
      let n : length (take r sums) ≡ r = length-take-le r sums (omega arith) in
      ap (λ (m : ℕ). any_below m p) (more-length ∙ add-one r)
      ∙ ap₂ ◌||◌ (any-equal r p q (λ d m. ap (λ (w : ℕ). eqb w y) (more-before d m)) ∙ ap (λ (m : ℕ). any_below m q) (sym n))
      (ap (λ (w : ℕ). eqb w y) more-last)

  pub marked_more : (marks : List ℕ) → Marked (take r sums) marks → Marked (take (r + 1) (set sums r x)) (mark_set marks x)
  marked_more marks m = record { size = mark-length marks x ∙ m.size; mark = λ d u. at d (omega (arith, u, more-length)) (ℕ_discrete d r) }
    where
      at : (d : ℕ) → d < r + 1 → Dec (d ≡ r) → has_mark (mark_set marks x) (word_at (take (r + 1) (set sums r x)) d) ≡ true
      at d u (yes h) = ap (has_mark (mark_set marks x)) (ap (word_at (take (r + 1) (set sums r x))) h ∙ more-last) ∙ mark-here marks m.size x
      at d u (no h) =
          let n : length (take r sums) ≡ r = length-take-le r sums (omega arith) in
          ap (has_mark (mark_set marks x)) (more-before d (omega arith))
          ∙ mark-stays marks m.size x (word_at (take r sums) d) (m.mark d (omega arith))

pub grown-start : (sums marks : List ℕ) (count : ℕ) → length sums ≡ 257 → Marked (take count sums) marks → Grown sums count (λ x. false) count sums marks
grown-start sums marks count e m = record { long = e; marked = m; are = λ x. sym (or-none (one_of (take count sums) x)) }

pub grown-next : {old : List ℕ} {count : ℕ} {more : ℕ → Bool} {r : ℕ} {sums marks : List ℕ} → Grown old count more r sums marks → r < 257 → (x : ℕ)
    → Grown old count (λ y. more y || eqb x y) (r + 1) (set sums r x) (mark_set marks x)
grown-next {old} {count} {more} {r} {sums} {marks} g l x =
    let n : length sums ≡ 257 = g.long in
    record {
      long = length-set sums r x ∙ n;
      marked = marked_more sums r x (omega arith) marks g.marked;
      are = λ y.
          one_more sums r x (omega arith) y ∙ ap (λ (b : Bool). b || eqb x y) (g.are y)
          ∙ or_assoc (one_of (take count old) y) (more y) (eqb x y);
    }

-- the same list, told by other words
grown-as : {old : List ℕ} {count : ℕ} {more : ℕ → Bool} {r : ℕ} {sums marks : List ℕ} → Grown old count more r sums marks → (r' : ℕ) → r ≡ r'
    → (more' : ℕ → Bool) → ((x : ℕ) → more x ≡ more' x) → Grown old count more' r' sums marks
grown-as {old} {count} {more} {r} {sums} {marks} g r' e more' h = record {
  long = g.long;
  marked = subst (λ (n : ℕ). Marked (take n sums) marks) e g.marked;
  are = λ x. ap (λ (n : ℕ). one_of (take n sums) x) (sym e) ∙ g.are x ∙ ap (λ (b : Bool). one_of (take count old) x || b) (h x);
}

-- the sums of a run of sets, number e having the sum g e
pub run-start : (g : ℕ → ℕ) (sums marks : List ℕ) (count : ℕ) → length sums ≡ 257 → Marked (take count sums) marks
    → Grown sums count (λ x. any_below 0 (λ e. eqb (g e) x)) (count + 0) sums marks
unfolding any_below
run-start g sums marks count e m = grown-as (grown-start sums marks count e m) (count + 0) (omega arith) (λ x. false) (λ x. refl)

pub run-next : (g : ℕ → ℕ) (d : ℕ) {old : List ℕ} {count : ℕ} {sums marks sums' marks' : List ℕ}
    → Grown old count (λ x. any_below d (λ e. eqb (g e) x)) (count + d) sums marks → count + d < 257
    → sums' ≡ set sums (count + d) (g d) → marks' ≡ mark_set marks (g d)
    → Grown old count (λ x. any_below (d + 1) (λ e. eqb (g e) x)) (count + (d + 1)) sums' marks'
run-next g d {old} {count} {sums} {marks} {sums'} {marks'} w l p q =
    rw (p, q)
    (grown-as (grown-next w l (g d)) (count + (d + 1)) (omega arith) (λ x. any_below (d + 1) (λ e. eqb (g e) x))
    (λ x. any_last d (λ e. eqb (g e) x)))

-- one sum more, told by the lists
pub one-added : (x count : ℕ) (sums marks : List ℕ) {sums' marks' : List ℕ} → length sums ≡ 257 → Marked (take count sums) marks → count < 257
    → sums' ≡ set sums count x → marks' ≡ mark_set marks x → Grown sums count (eqb x) (count + 1) sums' marks'
one-added x count sums marks e m l p q = rw (p, q) (grown-next (grown-start sums marks count e m) l x)

-- the sets whose last place is k: k alone, and where there may be two places, the pairs
module _ (t : ℕ) (f : ℕ → ℕ) (first k : ℕ) {old : List ℕ} {count r : ℕ} {sums marks : List ℕ} (g : Grown old count (eqb (f k)) r sums marks) where
  pub last_one : (t ≡ 2 → ⊥) → Grown old count (λ x. hit_at t f first k (λ y. eqb y x)) r sums marks
  last_one n = grown-as g r refl (λ x. hit_at t f first k (λ y. eqb y x)) (λ x. sym (few-hit t f first k (λ y. eqb y x) n))

  pub last-two : {r' : ℕ} {sums' marks' : List ℕ} → t ≡ 2
      → Grown sums r (pair_has f first k) r' sums' marks'
      → Grown old count (λ x. hit_at t f first k (λ y. eqb y x)) r' sums' marks'
  last-two n w = record {
    long = w.long;
    marked = w.marked;
    are = λ x.
        w.are x ∙ ap (λ (b : Bool). b || pair_has f first k x) (g.are x)
        ∙ or_assoc (one_of (take count old) x) (eqb (f k) x) (pair_has f first k x)
        ∙ ap (λ (b : Bool). one_of (take count old) x || b) (sym (two-hit t f first k (λ y. eqb y x) n));
  }

-- no sum, and then the sum 0
pub zero-only : (sums marks : List ℕ) → 1 ≤ length sums → length marks ≡ 4096 → OnlyZero 1 (set sums 0 0) (mark_set marks 0)
unfolding one_of any_below
zero-only sums marks l e =
    let none : (x : ℕ) → one_of (take 0 sums) x ≡ false = λ x. refl in
    record {
      count = refl;
      marked = marked_more sums 0 0 (omega arith) marks (record { size = e; mark = λ d u. absurd (omega arith) });
      are = λ x. one_more sums 0 0 (omega arith) x ∙ ap (λ (b : Bool). b || eqb 0 x) (none x);
    }
