-- The search over the windows, window by window:
--
--   search-misses   a window without a pattern: the next windows decide
--   search-finds    a window with a pattern: the strips decide
--   search-ends     after the last window there is none
--
-- Assumes nothing.
use mathlib.Core.Path.{◌≡◌, sym, ap, ◌∙◌}
use mathlib.Core.List.{List}
use Prim.Native.Nat.{ℕ, suc, ◌+◌, ◌-◌, ◌<◌}
use native.Mathlib.Numerals.{add-one}
use native.Mathlib.Omega.{arith}
use Rattle.plan.specs.declared.header.Header.{Header}
use Rattle.plan.specs.Bytes.{code_with}
use Rattle.std.specs.Prelude.{Option, Some, None}
use Rattle.mend.specs.declared.found.Burst.{Burst}
use Rattle.mend.specs.Window.{first_fit}
use Rattle.mend.specs.Strip.{on_strips}
use Rattle.mend.specs.Search.{after_fit, search_from}

module _ (plan : List ℕ) (h : Header) (entry : ℕ → ℕ) (v s n : ℕ) where
  abbrev after : ℕ → Option ℕ → Option Burst
  after i f = after_fit f (λ x. on_strips h entry i x s) (search_from plan h entry v s (i + 1) (n - (i + 1)))

  search-step : (i : ℕ) → i < n → search_from plan h entry v s i (n - i) ≡ after i (first_fit (code_with plan h) i v)
  unfolding search_from
  search-step i l =
      let e : n - i ≡ suc (n - (i + 1)) = omega arith in
      rw (e, add-one i)

  pub search-misses : (r : Option Burst) (i : ℕ) → r ≡ search_from plan h entry v s i (n - i) → i < n → first_fit (code_with plan h) i v ≡ None
      → r ≡ search_from plan h entry v s (i + 1) (n - (i + 1))
  search-misses r i e l q = e ∙ search-step i l ∙ ap (after i) q

  pub search-finds : (r : Option Burst) (i x : ℕ) → r ≡ search_from plan h entry v s i (n - i) → i < n → first_fit (code_with plan h) i v ≡ Some x
      → on_strips h entry i x s ≡ r
  search-finds r i x e l q = sym (e ∙ search-step i l ∙ ap (after i) q)

  pub search-ends : (r : Option Burst) (i : ℕ) → r ≡ search_from plan h entry v s i (n - i) → i ≡ n → None ≡ r
  unfolding search_from
  search-ends r i e q = let z : n - i ≡ 0 = omega arith in sym (e ∙ rw z)
