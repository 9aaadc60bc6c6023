-- The solver is right.
--
--   solver-for         for at most 64 free vectors below 2 ^ 64, the solver's words are a basis, and its combinations make them
--   solver-solves      then `solved` with these words and combinations is `solution`
--   solution-found     the solution of a spanned target makes the target, and is below 2 ^ the number of vectors
--   zeros-at           every word of an array of zeros is 0
--
-- Assumes nothing.
use mathlib.Core.Path.{◌≡◌, refl, sym, ap, ◌∙◌}
use mathlib.Core.Bool.{Bool, true, false, not, cond}
use mathlib.Core.List.{List, [], ◌∷◌, ◌++◌, reverse_aux, reverse_aux-append, append-nil}
use Rattle.std.specs.Prelude.{Some, None}
use Prim.Native.Nat.{ℕ, zero, suc, ◌+◌, ◌^◌, ◌≤◌, ◌<◌}
use native.Mathlib.Nat.{zero-lt-suc}
use native.Mathlib.Decide.{ℕ_discrete}
use native.Mathlib.Omega.{arith}
use borrow.Author.Tests.{eqb-true, eqb-false, eq-eqb, ne_eqb, lt-leb, not-true}
use lib.Dec.{eqb}
use lib.ListN.{length, get_or, set, length-set, replicate, length-replicate}
use lib.Pow.{pow_pos}
use lib.Seq.{get_or-set_same, get_or-set_other, append_snoc}
use Rattle.gf2.specs.Xor.{◌⊕◌}
use Rattle.finite.specs.Search.{least}
use Rattle.gf2.specs.Vectors.{spans, free_from}
use Rattle.gf2.specs.Basis.{top, reduced, inserted}
use Rattle.gf2.specs.Solver.{combination, combined, solved, solver_from, solver_of, solution}
use Rattle.finite.proofs.Truth.{both}
use Rattle.gf2.proofs.Xor.{xor_self, xor-cancel, xor_zero_left, xor_zero_right}
use Rattle.finite.proofs.Search.{least-is}
use Rattle.gf2.proofs.Spans.{spans-turned}
use Rattle.gf2.proofs.Vectors.{free_more}
use Rattle.gf2.proofs.Triangle.{pow-double}
use Rattle.gf2.proofs.Basis.{Below, BasisOf, basis-empty, basis-reduces, basis-inserted, left-place}
use Rattle.gf2.proofs.Combination.{combination-zero, combination-kept, combination-last, combination-only, next-length}
use Rattle.gf2.proofs.Combined.{Makes, combined-sum, combined-below}

-- words b, made by the combinations c of vs
pub record SolverFor (vs b c : List ℕ) : Type 0 where
  pub basis : BasisOf (reverse_aux vs []) b
  pub size : length c ≡ 64
  pub makes : Makes vs b c
  pub small : (k : ℕ) → get_or c k 0 < 2 ^ length vs

pub zeros-at : (n k : ℕ) → ◌≡◌ {A = ℕ} (get_or (replicate n 0) k 0) 0
zeros-at zero k = refl
zeros-at (suc n) zero = refl
zeros-at (suc n) (suc k) = zeros-at n k

solver-empty : SolverFor [] (replicate 64 0) (replicate 64 0)
solver-empty = record {
  basis = basis-empty;
  size = length-replicate {A = ℕ} 64 0;
  makes = λ k. ap (combination []) (zeros-at 64 k) ∙ combination-zero [] ∙ sym (zeros-at 64 k);
  small = λ k. omega (arith, zeros-at 64 k);
}

-- one vector more
module _ {vs b c : List ℕ} (S : SolverFor vs b c) (m : ℕ) (below : m < 2 ^ 64) (ne : reduced b m ≡ 0 → ⊥) where
  abbrev more : List ℕ
  more = vs ++ (m ∷ [])

  -- what is left of m, its place, and the combination that makes it
  abbrev left : ℕ
  left = reduced b m

  abbrev place : ℕ
  place = top (reduced b m)

  abbrev combo : ℕ
  combo = combined b c m (2 ^ length vs)

  makes_kept : Makes more b c
  makes_kept k = combination-kept vs m (get_or c k 0) (S.small k) ∙ S.makes k

  makes-last : combination more combo ≡ left
  makes-last =
      xor-cancel (combination more combo) left
      (combined-sum more b c m (2 ^ length vs) makes_kept ∙ ap (λ (x : ℕ). x ⊕ m) (combination-last vs m) ∙ xor_self m)

  below_next : (y : ℕ) → y ≤ 2 ^ length vs → y < 2 ^ length more
  below_next y l = rw (next-length vs m, pow-double (length vs)) (omega (arith, pow_pos (length vs)))

  solver-step : SolverFor more (inserted b left) (set c place combo)
  unfolding inserted
  solver-step =
      let p = left-place S.basis m below ne in
      record {
        basis = rw (reverse_aux-append vs (m ∷ []) []) (basis-inserted S.basis m below ne);
        size = length-set c place combo ∙ S.size;
        makes = λ k. made k p.inside (ℕ_discrete k place);
        small = λ k. low k p.inside (ℕ_discrete k place);
      }
    where
      made : (k : ℕ) → place < 64 → Dec (k ≡ place) → combination more (get_or (set c place combo) k 0) ≡ get_or (set b place left) k 0
      made k l (yes e) =
          rw (e, get_or-set_same c place combo 0 (omega (arith, S.size)), get_or-set_same b place left 0 (omega (arith, S.basis.size)))
          makes-last
      made k l (no d) = rw (get_or-set_other c place k combo 0 d, get_or-set_other b place k left 0 d) (makes_kept k)

      low : (k : ℕ) → place < 64 → Dec (k ≡ place) → get_or (set c place combo) k 0 < 2 ^ length more
      low k l (yes e) =
          rw (e, get_or-set_same c place combo 0 (omega (arith, S.size)))
          (combined-below (length more) b c m (2 ^ length vs) (λ j. below_next (get_or c j 0) (omega (arith, S.small j)))
          (below_next (2 ^ length vs) (omega arith)))
      low k l (no d) = rw (get_or-set_other c place k combo 0 d) (below_next (get_or c k 0) (omega (arith, S.small k)))

solver-from :
    (ms : List ℕ) {vs b c : List ℕ} (i : ℕ) → SolverFor vs b c → i ≡ length vs → i + length ms ≤ 64 → Below 64 ms
    → free_from (reverse_aux vs []) ms ≡ true → SolverFor (vs ++ ms) (solver_from ms b c i).basis (solver_from ms b c i).combos
unfolding solver_from
solver-from [] {vs} {b} {c} i S n l h f = rw (append-nil vs) S
solver-from (m ∷ ms) {vs} {b} {c} i S n l h f =
    let p = both (not (spans (reverse_aux vs []) m)) (free_from (m ∷ reverse_aux vs []) ms) (sym (free_more (reverse_aux vs []) m ms) ∙ f) in
    let u : m < 2 ^ 64 = h 0 (zero-lt-suc (length ms)) in
    let ne : reduced b m ≡ 0 → ⊥ = eqb-false (reduced b m) 0 (basis-reduces S.basis m u ∙ not-true (spans (reverse_aux vs []) m) p.0) in
    rw (lt-leb 64 i (omega arith), ne_eqb (reduced b m) 0 ne, ← append_snoc vs m ms, n)
    (solver-from ms (suc (length vs)) (solver-step S m u ne) (sym (next-length vs m)) (omega arith) (λ k q. h (suc k) (omega arith))
    (rw (reverse_aux-append vs (m ∷ []) []) p.1))

pub solver-for : (vs : List ℕ) → length vs ≤ 64 → Below 64 vs → free_from [] vs ≡ true → SolverFor vs (solver_of vs).basis (solver_of vs).combos
unfolding solver_of
solver-for vs l h f = solver-from vs 0 solver-empty refl (omega arith) h f

module _ (vs : List ℕ) (few : length vs ≤ 64) (below : Below 64 vs) (f : free_from [] vs ≡ true) (target : ℕ) (t : target < 2 ^ 64) where
  -- the combination that the solver finds
  answer : ℕ
  answer = combined (solver_of vs).basis (solver_of vs).combos target 0

  left_is : eqb (reduced (solver_of vs).basis target) 0 ≡ spans vs target
  left_is = basis-reduces (solver-for vs few below f).basis target t ∙ spans-turned vs [] target ∙ ap (λ (l : List ℕ). spans l target) (append-nil vs)

  answer-below : answer < 2 ^ length vs
  unfolding answer
  answer-below = combined-below (length vs) (solver_of vs).basis (solver_of vs).combos target 0 (solver-for vs few below f).small (pow_pos (length vs))

  answer-makes : spans vs target ≡ true → combination vs answer ≡ target
  unfolding answer
  answer-makes e =
      sym (xor_zero_right (combination vs answer))
      ∙ ap (λ (x : ℕ). combination vs answer ⊕ x) (sym (eqb-true (reduced (solver_of vs).basis target) 0 (left_is ∙ e)))
      ∙ combined-sum vs (solver_of vs).basis (solver_of vs).combos target 0 (solver-for vs few below f).makes
      ∙ ap (λ (x : ℕ). x ⊕ target) (combination-zero vs) ∙ xor_zero_left target

  answer-least : spans vs target ≡ true → least (2 ^ length vs) (λ y. eqb (combination vs y) target) ≡ answer
  answer-least e =
      least-is (2 ^ length vs) (λ y. eqb (combination vs y) target) answer answer-below (eq-eqb (combination vs answer) target (answer-makes e))
      (λ k l. ne_eqb (combination vs k) target
      (λ q. omega (arith, answer-below, combination-only vs k answer f (omega (arith, answer-below)) answer-below (q ∙ sym (answer-makes e)))))

  pub solver-solves : solved (solver_of vs).basis (solver_of vs).combos target ≡ solution vs target
  unfolding solved solution answer
  solver-solves = rw left_is (go (spans vs target) answer-least)
    where
      go : (s : Bool) → (s ≡ true → least (2 ^ length vs) (λ y. eqb (combination vs y) target) ≡ answer)
          → cond s (Some (combined (solver_of vs).basis (solver_of vs).combos target 0)) None
          ≡ cond s (Some (least (2 ^ length vs) (λ y. eqb (combination vs y) target))) None
      go true h = ap Some (sym (h refl))
      go false h = refl

  pub solution-found : spans vs target ≡ true → (y : ℕ) × (solution vs target ≡ Some y) × (y < 2 ^ length vs) × (combination vs y ≡ target)
  unfolding solution
  solution-found e = (answer, rw (e, answer-least e), answer-below, answer-makes e)
