-- Patterns of a window of b1 consecutive rows, and what the window fit answers.
--
--   window_entries c i     the V entries of the window at row i, b1 × b2 of them
--   Gathered c i words     an array that begins with them
--   window_sum c i m       the V sum of a choice m among them. Pattern number x is the choice `bit x`: digit r × b2 + t stands
--                          for row i + r and remainder t
--   makes_sum c i v x      pattern number x has the V sum v, and few cells where t is not 0
--   first_fit c i v        the first pattern by number that has, or None
--   PairFit f n v r        of n entries: r is a pattern of two of them with the sum v, or there is none
--   FewFit t f n v r       of n entries: r is a pattern of at most t of them with the sum v, or there is none
use Rattle.std.specs.Prelude.{ℕ, ◌+◌, ◌*◌, ◌^◌, ◌≤◌, ◌<◌, ◌≡◌, Bool, true, cond, Option, Some, None, ◌&&◌, List, eqb, ltb, length, take}
use Rattle.gf2.specs.Xor.{◌⊕◌}
use Rattle.gf2.specs.Sum.{chosen_sum}
use Rattle.gf2.specs.Vectors.{listed}
use Rattle.finite.specs.Search.{bit, count_below, few, least}
use Rattle.boxcode.specs.Code.{Code}
use Rattle.boxcode.specs.Burst.{patterns}

-- entry k of the window at row i
abbrev pub entry_at : Code → ℕ → ℕ → ℕ
entry_at c i k = c.row_entry (i * c.b2 + k)

unfoldable pub window_entries : Code → ℕ → List ℕ
window_entries c i = listed (c.b1 * c.b2) (λ k. true) (entry_at c i)

pub record Gathered (c : Code) (i : ℕ) (words : List ℕ) : Type 0 where
  pub size : length words ≡ 16
  pub entries : take (c.b1 * c.b2) words ≡ window_entries c i

unfoldable pub window_sum : Code → ℕ → (ℕ → Bool) → ℕ
window_sum c i m = chosen_sum (c.b1 * c.b2) m (entry_at c i)

unfoldable pub makes_sum : Code → ℕ → ℕ → ℕ → Bool
makes_sum c i v x = few c.t (count_below (c.b1 * c.b2) (bit x)) && eqb (window_sum c i (bit x)) v

unfoldable pub first_fit : Code → ℕ → ℕ → Option ℕ
first_fit c i v =
    let x = least (patterns c) (makes_sum c i v) in
    cond (ltb x (patterns c)) (Some x) None

pub record FewPattern (t : ℕ) (f : ℕ → ℕ) (n v x : ℕ) : Type 0 where
  pub below : x < 2 ^ n
  pub few : count_below n (bit x) ≤ t
  pub sum : chosen_sum n (bit x) f ≡ v

-- of two of n entries
abbrev pub PairFit : (ℕ → ℕ) → ℕ → ℕ → Option ℕ → Type 0
PairFit f n v (Some x) = FewPattern 2 f n v x
PairFit f n v None = (l k : ℕ) → l < k → k < n → f l ⊕ f k ≡ v → ⊥

abbrev pub FewFit : ℕ → (ℕ → ℕ) → ℕ → ℕ → Option ℕ → Type 0
FewFit t f n v (Some x) = FewPattern t f n v x
FewFit t f n v None = (m : ℕ → Bool) → count_below n m ≤ t → chosen_sum n m f ≡ v → ⊥
