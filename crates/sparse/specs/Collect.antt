-- The list of the sums of a window's sets, as it is built (document 02, request m).
--
--   pair_has f first k x     x is the sum of a set of two places, the last of which is k and the other from `first` on
--   Grown old count more r sums marks   the first r sums are the first count of an old list, and those numbers for which `more` holds
--   Stepped t f first k count r old sums marks   where no set of at most t places whose last is k has one of the old sums, these sets'
--                                                sums are added, and r is how many there are then; else r is None
--   OnlyZero r sums marks               the first r sums, which is one, are the sum 0 only, that of the empty set
--   Room words first size sums marks    what is lent: a window of at most 16 words, a list of 257 sums and 4,096 bytes of marks
--   Windowed t f first size r sums marks   where no two sets of the window have the same sum, the first sums, as many as r says, are those of
--                                          its sets; else r is None
use Rattle.std.specs.Prelude.{ℕ, ◌+◌, ◌-◌, ◌≤◌, ◌≡◌, Bool, true, false, ◌||◌, Option, MatchOption, List, eqb, length, take}
use Rattle.finite.specs.Search.{any_below}
use Rattle.gf2.specs.Xor.{◌⊕◌}
use Rattle.sparse.specs.Sets.{hit_at, one_of, clear, Marked, SumsOf}

abbrev pub pair_has : (ℕ → ℕ) → ℕ → ℕ → ℕ → Bool
pair_has f first k x = any_below (k - first) (λ d. eqb (f (first + d) ⊕ f k) x)

pub record Grown (old : List ℕ) (count : ℕ) (more : ℕ → Bool) (r : ℕ) (sums marks : List ℕ) : Type 0 where
  pub long : length sums ≡ 257
  pub marked : Marked (take r sums) marks
  pub are : (x : ℕ) → one_of (take r sums) x ≡ (one_of (take count old) x || more x)

-- where there are r sums then
pub record Added (t : ℕ) (f : ℕ → ℕ) (first k count r : ℕ) (old sums marks : List ℕ) : Type 0 where
  pub free : hit_at t f first k (one_of (take count old)) ≡ false
  pub grown : Grown old count (λ x. hit_at t f first k (λ y. eqb y x)) r sums marks
  pub some : 1 ≤ r
  pub most : r ≤ count + 16

abbrev pub Stepped : (t : ℕ) (f : ℕ → ℕ) (first k count : ℕ) → Option ℕ → (old sums marks : List ℕ) → Type 0
Stepped t f first k count r old sums marks =
    MatchOption r (hit_at t f first k (one_of (take count old)) ≡ true) (λ n. Added t f first k count n old sums marks)

pub record OnlyZero (r : ℕ) (sums marks : List ℕ) : Type 0 where
  pub count : r ≡ 1
  pub marked : Marked (take r sums) marks
  pub are : (x : ℕ) → one_of (take r sums) x ≡ eqb 0 x

pub record Room (words : List ℕ) (first size : ℕ) (sums marks : List ℕ) : Type 0 where
  pub inside : first + size ≤ length words
  pub small : size ≤ 16
  pub long : length sums ≡ 257
  pub wide : length marks ≡ 4096

-- where the first r sums are those
pub record Listed (t : ℕ) (f : ℕ → ℕ) (first size r : ℕ) (sums marks : List ℕ) : Type 0 where
  pub free : clear t f first size ≡ true
  pub sums_of : SumsOf t f first size (take r sums) marks
  pub some : 1 ≤ r
  pub most : r ≤ 257

abbrev pub Windowed : (t : ℕ) (f : ℕ → ℕ) (first size : ℕ) → Option ℕ → (sums marks : List ℕ) → Type 0
Windowed t f first size r sums marks = MatchOption r (clear t f first size ≡ false) (λ n. Listed t f first size n sums marks)
