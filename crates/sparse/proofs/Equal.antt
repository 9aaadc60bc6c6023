-- Equal words have the same sets:
--
--   hit-equal, line-equal   where the words agree from `from` on up to the last place
--
-- Assumes nothing.
use mathlib.Core.Path.{◌≡◌, ap, ap₂}
use mathlib.Core.Bool.{Bool, ◌&&◌, ◌||◌}
use Prim.Native.Nat.{ℕ, ◌+◌, ◌-◌, ◌≤◌, ◌<◌}
use native.Mathlib.Omega.{arith}
use lib.Dec.{eqb}
use Rattle.finite.proofs.Search.{any-equal}
use Rattle.gf2.specs.Xor.{◌⊕◌}
use Rattle.sparse.specs.Sets.{hit_at, line_hit}

pub hit-equal : (t from k : ℕ) (f g : ℕ → ℕ) (T : ℕ → Bool) → from ≤ k → ((j : ℕ) → from ≤ j → j ≤ k → f j ≡ g j)
    → hit_at t f from k T ≡ hit_at t g from k T
unfolding hit_at
hit-equal t from k f g T l h =
    ap₂ ◌||◌ (ap T (h k l (omega arith)))
    (ap (λ (b : Bool). eqb t 2 && b)
    (any-equal (k - from) (λ d. T (f (from + d) ⊕ f k)) (λ d. T (g (from + d) ⊕ g k))
    (λ d u. ap T (ap₂ ◌⊕◌ (h (from + d) (omega arith) (omega arith)) (h k l (omega arith))))))

pub line-equal : (t from last n : ℕ) (f g : ℕ → ℕ) (T : ℕ → Bool) → from ≤ last → ((j : ℕ) → from ≤ j → j < last + n → f j ≡ g j)
    → line_hit t f from last n T ≡ line_hit t g from last n T
unfolding line_hit
line-equal t from last n f g T l h =
    any-equal n (λ d. hit_at t f from (last + d) T) (λ d. hit_at t g from (last + d) T)
    (λ d u. hit-equal t from (last + d) f g T (omega arith) (λ j p q. h j p (omega arith)))
