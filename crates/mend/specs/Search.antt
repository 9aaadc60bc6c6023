-- The search over the windows: what each case of the window fit leads to.
--
--   after_fit           a pattern goes on to the strips, which decide; where a window has none, the rest of the search does
--   search_from .. i m  the answer of the m windows from row i on, by a table of H entries; None after the last, which is
--                       number 14 (found_verdict)
use Rattle.std.specs.Prelude.{ℕ, zero, suc, Option, Some, None, List}
use Rattle.plan.specs.declared.header.Header.{Header}
use Rattle.plan.specs.Bytes.{code_with}
use Rattle.mend.specs.declared.found.Burst.{Burst}
use Rattle.mend.specs.Window.{first_fit}
use Rattle.mend.specs.Strip.{on_strips}

abbrev pub after_fit : Option ℕ → (ℕ → Option Burst) → Option Burst → Option Burst
after_fit (Some x) strips rest = strips x
after_fit None strips rest = rest

unfoldable pub search_from : List ℕ → Header → (ℕ → ℕ) → ℕ → ℕ → ℕ → ℕ → Option Burst
search_from plan h entry v s i zero = None
search_from plan h entry v s i (suc m) =
    after_fit (first_fit (code_with plan h) i v) (λ x. on_strips h entry i x s) (search_from plan h entry v s (suc i) m)
