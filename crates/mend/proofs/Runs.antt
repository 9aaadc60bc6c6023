-- Sums that are 0, and predicates that hold nowhere, outside a run of places: over all places they are those over the run.
--
--   run-sum            the sum over all places is the sum over the run
--   Run n a m p q      below n, p holds only at the m places from a on, and there it is q
--   run-any, run-count, run-first, run_past   some place, how many, the first, and one more than the last
--
-- Assumes nothing.
use mathlib.Core.Path.{◌≡◌, refl, sym, ap, ap₂, ◌∙◌}
use mathlib.Core.Bool.{Bool, true}
use Prim.Native.Nat.{ℕ, suc, ◌+◌, ◌-◌, ◌≤◌, ◌<◌}
use native.Mathlib.Omega.{arith}
use Rattle.gf2.specs.Sum.{xor_sum}
use Rattle.finite.specs.Search.{any_below, count_below, first_of, past_of}
use Rattle.finite.proofs.Truth.{not-true, same_truth}
use Rattle.finite.proofs.Search.{any_found, any_here, first-is, past-le, past-above, past-last}
use Rattle.finite.proofs.Count.{count-equal, count_none, count-split}
use Rattle.boxcode.proofs.Image.{sum-image}
use Rattle.mend.proofs.Turns.{first_found}

-- for a sum, the run is given by what is outside
pub run-sum : (n a m : ℕ) (f : ℕ → ℕ) → a + m ≤ n → ((t : ℕ) → (a ≤ t → t < a + m → ⊥) → f t ≡ 0) → xor_sum n f ≡ xor_sum m (λ k. f (a + k))
run-sum n a m f on off =
    sum-image m n (λ k. a + k) (record { below = λ k l. omega arith; different = λ k l lk ll e. omega arith })
    f (λ k. f (a + k)) (λ k l. refl)
    (λ t lt miss. off t (λ from to. miss (t - a) (omega arith) (omega arith)))

pub record Run (n a m : ℕ) (p q : ℕ → Bool) : Type 0 where
  pub on : a + m ≤ n
  pub same : (k : ℕ) → k < m → p (a + k) ≡ q k
  pub from : (k : ℕ) → p k ≡ true → a ≤ k
  pub to : (k : ℕ) → p k ≡ true → k < a + m

-- one more than the last place at which p holds
past_is : (n : ℕ) (p : ℕ → Bool) (k : ℕ) → k < n → p k ≡ true → ((j : ℕ) → k < j → p j ≡ true → ⊥) → past_of n p ≡ suc k
past_is n p k l t none =
    let u : k < past_of n p = past-above n p k l t in
    let w = past-last n p (omega arith) in
    let e : past_of n p ≡ suc w.0 = w.1 in
    let v : k < w.0 → ⊥ = λ g. none w.0 g w.2 in
    omega arith

module _ (n a m : ℕ) (p q : ℕ → Bool) (R : Run n a m p q) where
  -- a place at which p holds, as a place of the run
  in-run : (k : ℕ) → p k ≡ true → (k - a < m) × (q (k - a) ≡ true) × (k ≡ a + (k - a))
  in-run k t =
      let f : a ≤ k = R.from k t in
      let u : k < a + m = R.to k t in
      let l : k - a < m = omega arith in
      let e : a + (k - a) ≡ k = omega arith in
      (l, sym (R.same (k - a) l) ∙ ap p e ∙ t, sym e)

  pub run-any : any_below n p ≡ any_below m q
  run-any =
      same_truth (any_below n p) (any_below m q)
      (λ t. let w = any_found n p t in let r = in-run w.0 w.2 in any_here m q (w.0 - a) r.0 r.1)
      (λ t. let w = any_found m q t in let l : w.0 < m = w.1 in let o = R.on in any_here n p (a + w.0) (omega arith) (R.same w.0 l ∙ w.2))

  pub run-count : count_below n p ≡ count_below m q
  run-count =
      let o = R.on in
      let e : n ≡ a + (m + (n - a - m)) = omega arith in
      ap (λ (k : ℕ). count_below k p) e
      ∙ count-split a (m + (n - a - m)) p
      ∙ ap₂ ◌+◌ (count_none a p (λ k l. not-true (p k) (λ t. let f = R.from k t in omega arith)))
      (count-split m (n - a - m) (λ k. p (a + k))
      ∙ ap₂ ◌+◌ (count-equal m (λ k. p (a + k)) q R.same)
      (count_none (n - a - m) (λ k. p (a + (m + k))) (λ k l. not-true (p (a + (m + k))) (λ t. let u = R.to (a + (m + k)) t in omega arith))))
      ∙ (let z : 0 + (count_below m q + 0) ≡ count_below m q = omega arith in z)

  pub run-first : any_below m q ≡ true → first_of n p ≡ a + first_of m q
  run-first t =
      let f = first-is m q t in
      let l : first_of m q < m = f.below in
      let o = R.on in
      sym (first_found n p (a + first_of m q) (omega arith)
      (λ j lj.
      not-true (p j)
      (λ u.
      let r = in-run j u in
      let e : j ≡ a + (j - a) = r.2 in
      let g : first_of m q ≤ j - a = f.least (j - a) r.1 in
      omega arith))
      (R.same (first_of m q) l ∙ f.holds))

  pub run_past : any_below m q ≡ true → past_of n p ≡ a + past_of m q
  run_past t =
      let f = first-is m q t in
      let g : first_of m q < past_of m q = past-above m q (first_of m q) f.below f.holds in
      let w = past-last m q (omega arith) in
      let e : past_of m q ≡ suc w.0 = w.1 in
      let l : past_of m q ≤ m = past-le m q in
      let o = R.on in
      let z = past_is n p (a + w.0) (omega arith) (R.same w.0 (omega arith) ∙ w.2)
      (λ j lj u. let r = in-run j u in let h : j - a < past_of m q = past-above m q (j - a) r.0 r.1 in let k : j ≡ a + (j - a) = r.2 in omega arith) in
      omega arith
