-- Laws of `solver_from` that follow the loop of `solver_of`, at member i of a list:
--
--   solver-stop   it reduces to 0
--   solver-next   it does not
--   solver-end    there is none
--   solver-full   there are 64 already
--   bit_is        what the code's `1 << i` says
--
-- Assumes nothing.
use mathlib.Core.Path.{◌≡◌, ◌∙◌}
use mathlib.Core.List.{List}
use Prim.Native.Nat.{ℕ, suc, ◌*◌, ◌%◌, ◌^◌, ◌≤◌, ◌<◌}
use native.Mathlib.Omega.{arith}
use borrow.Author.Tests.{eq-eqb, ne_eqb, le-leb, lt-leb}
use lib.ListN.{length, get_or, drop, set, drop_of_length-le}
use lib.Pow.{shl_exact}
use lib.Seq.{drop-cons}
use Rattle.gf2.specs.Basis.{top, reduced, inserted}
use Rattle.gf2.specs.Solver.{combined, solver_from}

pub solver-full : (ms b c : List ℕ) (i : ℕ) → i < length ms → 64 ≤ i → solver_from (drop i ms) b c i ≡ record { basis = b; combos = c }
unfolding solver_from
solver-full ms b c i l u = rw (drop-cons ms i 0 l, le-leb 64 i u)

pub solver-stop :
    (ms b c : List ℕ) (i : ℕ) → i < length ms → i < 64 → reduced b (get_or ms i 0) ≡ 0
    → solver_from (drop i ms) b c i ≡ record { basis = b; combos = c }
unfolding solver_from
solver-stop ms b c i l u e = rw (drop-cons ms i 0 l, lt-leb 64 i u, eq-eqb (reduced b (get_or ms i 0)) 0 e)

pub solver-next :
    (ms b c : List ℕ) (i : ℕ) → i < length ms → i < 64 → (reduced b (get_or ms i 0) ≡ 0 → ⊥)
    → solver_from (drop i ms) b c i
    ≡ solver_from (drop (suc i) ms) (inserted b (reduced b (get_or ms i 0)))
    (set c (top (reduced b (get_or ms i 0))) (combined b c (get_or ms i 0) (2 ^ i))) (suc i)
solver-next ms b c i l u e = rw (drop-cons ms i 0 l) (unfold solver_from in rw (lt-leb 64 i u, ne_eqb (reduced b (get_or ms i 0)) 0 e))

pub solver-end : (ms b c : List ℕ) (i : ℕ) → length ms ≤ i → solver_from (drop i ms) b c i ≡ record { basis = b; combos = c }
unfolding solver_from
solver-end ms b c i l = rw (drop_of_length-le ms l)

pub bit_is : (i : ℕ) → i < 64 → 1 * 2 ^ i % 2 ^ 64 ≡ 2 ^ i
bit_is i l = shl_exact 1 i 64 (omega arith) (omega arith) ∙ omega arith
