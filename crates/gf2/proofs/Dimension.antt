-- How many numbers can be independent:
--
--   independent-most    n independent numbers below 2 ^ w are at most w
--   independent-first   the first n' of an independent family are independent
--
-- A basis has 64 places (specs/Basis.antt), so that w is at most 64.
--
-- Assumes nothing.
use mathlib.Core.Path.{◌≡◌, refl, sym, ap, ◌∙◌}
use mathlib.Core.Bool.{Bool, true, not, ◌&&◌}
use mathlib.Core.List.{[]}
use Prim.Native.Nat.{ℕ, zero, suc, ◌+◌, ◌-◌, ◌^◌, ◌≤◌, ◌<◌}
use native.Mathlib.Nat.{add-zero, add-suc}
use native.Mathlib.Omega.{arith}
use lib.ListN.{length}
use Rattle.gf2.specs.Independence.{Independent, spanned, free}
use Rattle.gf2.specs.Vectors.{free_from, listed}
use Rattle.finite.proofs.Truth.{both}
use Rattle.gf2.proofs.Independence.{free-independent, independent-free}
use Rattle.gf2.proofs.Vectors.{free-listed, listed-equal, listed-length}
use Rattle.gf2.proofs.Span.{listed_at, most-list}

pub independent-most :
    (w n : ℕ) (member : ℕ → Bool) (f : ℕ → ℕ) → w ≤ 64 → ((k : ℕ) → k < n → member k ≡ true) → ((k : ℕ) → k < n → f k < 2 ^ w)
    → Independent n member f → n ≤ w
independent-most w n member f small all below I =
    let ms = listed n (λ k. true) f in
    let same : listed n member f ≡ ms = listed-equal n member (λ k. true) f f all (λ k l t. refl) in
    let l : length ms ≤ w = most-list w small ms
    (λ k q. rw (listed_at n f k (omega (arith, listed-length n f))) (below k (omega (arith, listed-length n f))))
    (ap (free_from []) (sym same) ∙ sym (free-listed n member f) ∙ independent-free n member f I) in
    omega (arith, listed-length n f)

free-first : (n d : ℕ) (member : ℕ → Bool) (f : ℕ → ℕ) → free (n + d) member f ≡ true → free n member f ≡ true
unfolding free
free-first n zero member f e = ap (λ (k : ℕ). free k member f) (sym (add-zero n)) ∙ e
free-first n (suc d) member f e =
    free-first n d member f
    (both (free (n + d) member f) (not (member (n + d) && spanned (n + d) member f (f (n + d))))
    (ap (λ (k : ℕ). free k member f) (sym (add-suc n d)) ∙ e)).0

pub independent-first :
    (n n' : ℕ) (member : ℕ → Bool) (f : ℕ → ℕ) → n' ≤ n → Independent n member f → Independent n' member f
independent-first n n' member f l I =
    let e : n' + (n - n') ≡ n = omega arith in
    free-independent n' member f
    (free-first n' (n - n') member f (ap (λ (k : ℕ). free k member f) e ∙ independent-free n member f I))
