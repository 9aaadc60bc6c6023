-- Sets of at most t words of a table, t being 1 or 2 (document 02, request m), by their last place.
--
--   hit_at t f from k T             a set of at most t places, whose last is k and whose others are from `from` on, has a sum in T
--   set_sum t f from n x            x is the sum of a set of at most t of the n places from `from` on; the empty one counts
--   clear t f from n                of these sets no two have the same sum
--   line_hit t f from last n T      a set as in hit_at, with its last place among the n from `last` on
--   one_of sums                     a number is among these
--   mark_place, has_mark, mark_set  there are 32,768 marks, eight to a byte: the byte of a number's mark, whether it has its mark, and the marks with it
--   Marked sums marks               each of the sums has its mark: a number without one is none of them
--   NextMarked f marks from k r     no place from `from` up to r makes with k a number that has a mark
--   SumsOf t f from n sums marks    these are the sums of the sets of at most t of the n places
use Rattle.std.specs.Prelude.{ℕ, zero, suc, ◌+◌, ◌-◌, ◌/◌, ◌%◌, ◌^◌, ◌≤◌, ◌<◌, ◌≡◌, Bool, true, false, ◌&&◌, ◌||◌, not, List, eqb, length, set}
use Rattle.std.specs.Int.Bits.{bit_or}
use Rattle.finite.specs.Search.{bit, any_below}
use Rattle.gf2.specs.Xor.{◌⊕◌}
use Rattle.plan.specs.Table.{word_at}

unfoldable pub hit_at : ℕ → (ℕ → ℕ) → ℕ → ℕ → (ℕ → Bool) → Bool
hit_at t f from k T = T (f k) || (eqb t 2 && any_below (k - from) (λ d. T (f (from + d) ⊕ f k)))

unfoldable pub set_sum : ℕ → (ℕ → ℕ) → ℕ → ℕ → ℕ → Bool
set_sum t f from zero x = eqb x 0
set_sum t f from (suc n) x = set_sum t f from n x || hit_at t f from (from + n) (λ y. eqb y x)

unfoldable pub clear : ℕ → (ℕ → ℕ) → ℕ → ℕ → Bool
clear t f from zero = true
clear t f from (suc n) = clear t f from n && not (hit_at t f from (from + n) (set_sum t f from n))

unfoldable pub line_hit : ℕ → (ℕ → ℕ) → ℕ → ℕ → ℕ → (ℕ → Bool) → Bool
line_hit t f from last n T = any_below n (λ d. hit_at t f from (last + d) T)

unfoldable pub one_of : List ℕ → ℕ → Bool
one_of sums x = any_below (length sums) (λ d. eqb (word_at sums d) x)

unfoldable pub mark_place : ℕ → ℕ
mark_place x = x % 32768 / 8

unfoldable pub has_mark : List ℕ → ℕ → Bool
has_mark marks x = bit (word_at marks (mark_place x)) (x % 8)

unfoldable pub mark_set : List ℕ → ℕ → List ℕ
mark_set marks x = set marks (mark_place x) (bit_or (word_at marks (mark_place x)) (2 ^ (x % 8)))

pub record Marked (sums marks : List ℕ) : Type 0 where
  pub size : length marks ≡ 4096
  pub mark : (d : ℕ) → d < length sums → has_mark marks (word_at sums d) ≡ true

pub record NextMarked (f : ℕ → ℕ) (marks : List ℕ) (from k r : ℕ) : Type 0 where
  pub least : from ≤ r
  pub most : r ≤ k
  pub none : (j : ℕ) → from ≤ j → j < r → has_mark marks (f j ⊕ f k) ≡ false

pub record SumsOf (t : ℕ) (f : ℕ → ℕ) (from n : ℕ) (sums marks : List ℕ) : Type 0 where
  pub marked : Marked sums marks
  pub are : (x : ℕ) → one_of sums x ≡ set_sum t f from n x
