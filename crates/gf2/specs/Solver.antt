-- Which of the vectors sum to a target.
--
--   combination vs y      the exclusive-or of those vs whose digit is set in y
--   solution vs target    the number of the combination that makes the target, or None where there is none
--   combined b c v y      y and the combinations c of the words b that reducing v takes off
--   solved b c target     the solution by words b and their combinations c
--   solver_of vs          the words of a basis of vs with the combination of vs that makes each; it stops at the first
--                         vector that those before it span, and after 64
--
-- The law that joins them, `solver-solves`, is in proofs/Solving.antt.
use Rattle.std.specs.Prelude.{ℕ, zero, suc, ◌^◌, cond, Option, Some, None, List, [], ◌∷◌, eqb, ltb, leb, length, get_or, set, replicate}
use Rattle.gf2.specs.Xor.{◌⊕◌}
use Rattle.gf2.specs.Sum.{chosen_sum}
use Rattle.finite.specs.Search.{bit, least}
use Rattle.gf2.specs.Vectors.{spans}
use Rattle.gf2.specs.Basis.{top, lowered, reduced, inserted}
use Rattle.gf2.specs.declared.Solver.{Solver}

unfoldable pub combination : List ℕ → ℕ → ℕ
combination vs y = chosen_sum (length vs) (bit y) (λ i. get_or vs i 0)

unfoldable pub solution : List ℕ → ℕ → Option ℕ
solution vs target = cond (spans vs target) (Some (least (2 ^ length vs) (λ y. eqb (combination vs y) target))) None

-- at most n words, as in `settled`
unfoldable pub gathered : ℕ → List ℕ → List ℕ → ℕ → ℕ → ℕ
gathered zero b c v y = y
gathered (suc n) b c v y = cond (ltb (lowered b v) v) (gathered n b c (lowered b v) (y ⊕ get_or c (top v) 0)) y

unfoldable pub combined : List ℕ → List ℕ → ℕ → ℕ → ℕ
combined b c v y = gathered v b c v y

unfoldable pub solved : List ℕ → List ℕ → ℕ → Option ℕ
solved b c target = cond (eqb (reduced b target) 0) (Some (combined b c target 0)) None

-- i vectors are in already
unfoldable pub solver_from : List ℕ → List ℕ → List ℕ → ℕ → Solver
solver_from [] b c i = record { basis = b; combos = c }
solver_from (m ∷ ms) b c i =
    cond (leb 64 i) (record { basis = b; combos = c })
    (cond (eqb (reduced b m) 0) (record { basis = b; combos = c })
    (solver_from ms (inserted b (reduced b m)) (set c (top (reduced b m)) (combined b c m (2 ^ i))) (suc i)))

unfoldable pub solver_of : List ℕ → Solver
solver_of vs = solver_from vs (replicate 64 0) (replicate 64 0) 0
