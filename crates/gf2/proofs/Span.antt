-- As many free vectors as they have digits span everything, and there are no more of them.
--
--   listed_at    the elements of a list of all values
--   most-list    free numbers below 2 ^ n in a list are at most n
--   full-list    n free numbers below 2 ^ n in a list span each number below 2 ^ n
--   full-span    the same of a family
--
-- Each vector that is put into a basis by leading digit fills one place more of the n low places, so there are at most n.
-- After n of them all these are filled, and then nothing below 2 ^ n is left when it is reduced.
--
-- Assumes nothing.
use mathlib.Core.Path.{◌≡◌, refl, sym, ap, ◌∙◌}
use mathlib.Core.Bool.{Bool, true, false, not, cond}
use mathlib.Core.List.{List, [], ◌∷◌, ◌++◌, reverse_aux}
use Prim.Native.Nat.{ℕ, zero, suc, ◌+◌, ◌^◌, ◌≤◌, ◌<◌}
use native.Mathlib.Nat.{zero-lt-suc}
use native.Mathlib.Decide.{ℕ_discrete, dec_lt}
use native.Mathlib.Omega.{arith}
use borrow.Author.Tests.{eqb-false, eq-eqb, ne_eqb, not-true}
use lib.Dec.{eqb}
use lib.ListN.{length, get_or, set, replicate, get_or-replicate, get_or-append}
use lib.Pow.{pow_mono}
use lib.Seq.{get_or-set_same, get_or-set_other, get_or_at}
use Rattle.gf2.specs.Independence.{spanned, free}
use Rattle.gf2.specs.Vectors.{spans, free_from, listed}
use Rattle.gf2.specs.Basis.{top, reduced, inserted}
use Rattle.finite.proofs.Truth.{both}
use Rattle.gf2.proofs.Vectors.{free_more, free-listed, spanned-listed, listed-length, listed_in}
use Rattle.gf2.proofs.Reduction.{reduced-le}
use Rattle.gf2.proofs.Basis.{Below, BasisOf, basis-empty, left-place, left-free, basis-reduces, basis-inserted}

-- how many of the first n places are not 0
filled : ℕ → List ℕ → ℕ
filled zero b = 0
filled (suc n) b = cond (eqb (get_or b n 0) 0) (filled n b) (suc (filled n b))

filled-le : (n : ℕ) (b : List ℕ) → filled n b ≤ n
unfolding filled
filled-le zero b = omega arith
filled-le (suc n) b = go (eqb (get_or b n 0) 0) (filled-le n b)
  where
    go : (t : Bool) → filled n b ≤ n → cond t (filled n b) (suc (filled n b)) ≤ suc n
    go true l = omega arith
    go false l = omega arith

-- where all are filled, each is
filled-all : (n : ℕ) (b : List ℕ) → filled n b ≡ n → (k : ℕ) → k < n → get_or b k 0 ≡ 0 → ⊥
unfolding filled
filled-all zero b e k l z = omega arith
filled-all (suc n) b e k l z = go (eqb (get_or b n 0) 0) refl e (ℕ_discrete k n) (filled-le n b) (λ p q. filled-all n b p k q z)
  where
    go : (t : Bool) → eqb (get_or b n 0) 0 ≡ t → cond t (filled n b) (suc (filled n b)) ≡ suc n → Dec (k ≡ n) → filled n b ≤ n → (filled n b ≡ n → k < n → ⊥) → ⊥
    go true p e d u ih = omega arith
    go false p e (yes q) u ih = eqb-false (get_or b n 0) 0 p (ap (λ (j : ℕ). get_or b j 0) (sym q) ∙ z)
    go false p e (no q) u ih = ih (omega arith) (omega arith)

filled_none : (n : ℕ) → n ≤ 64 → filled n (replicate 64 0) ≡ 0
unfolding filled
filled_none zero l = refl
filled_none (suc n) l = rw (get_or-replicate {A = ℕ} 64 n 0 0 l) (filled_none n (omega arith))

-- a store past the first n places, and one at an empty place among them
filled-past : (n : ℕ) (b : List ℕ) (k r : ℕ) → n ≤ k → filled n (set b k r) ≡ filled n b
unfolding filled
filled-past zero b k r l = refl
filled-past (suc n) b k r l = rw (get_or-set_other b k n r 0 (λ e. omega arith), filled-past n b k r (omega arith))

filled_more : (n : ℕ) (b : List ℕ) (k r : ℕ) → k < n → k < length b → get_or b k 0 ≡ 0 → (r ≡ 0 → ⊥) → filled n (set b k r) ≡ suc (filled n b)
unfolding filled
filled_more zero b k r l u z ne = absurd (omega arith)
filled_more (suc n) b k r l u z ne = go (ℕ_discrete n k) (λ q. filled_more n b k r q u z ne)
  where
    go : Dec (n ≡ k) → (k < n → filled n (set b k r) ≡ suc (filled n b))
        → cond (eqb (get_or (set b k r) n 0) 0) (filled n (set b k r)) (suc (filled n (set b k r)))
        ≡ suc (cond (eqb (get_or b n 0) 0) (filled n b) (suc (filled n b)))
    go (yes e) ih = rw (e, get_or-set_same b k r 0 u, ne_eqb r 0 ne, z, filled-past k b k r (omega arith))
    go (no d) ih = rw (get_or-set_other b k n r 0 d, ih (omega arith)) (split (eqb (get_or b n 0) 0))
      where
        split : (t : Bool) → cond t (suc (filled n b)) (suc (suc (filled n b))) ≡ suc (cond t (filled n b) (suc (filled n b)))
        split true = refl
        split false = refl

record Grown (n : ℕ) (vs : List ℕ) (count : ℕ) : Type 0 where
  words : List ℕ
  basis : BasisOf vs words
  full : filled n words ≡ count

module _ (n : ℕ) (small : n ≤ 64) where
  below_64 : (m : ℕ) → m < 2 ^ n → m < 2 ^ 64
  below_64 m l = omega (arith, pow_mono small)

  -- what is left of a number below 2 ^ n has its leading digit below n
  left-low : {vs b : List ℕ} (B : BasisOf vs b) (m : ℕ) → m < 2 ^ n → (reduced b m ≡ 0 → ⊥) → top (reduced b m) < n
  left-low {vs} {b} B m l ne = go (dec_lt (top (reduced b m)) n)
    where
      go : Dec (top (reduced b m) < n) → top (reduced b m) < n
      go (yes u) = u
      go (no u) = absurd (omega (arith, pow_mono {i = n} {j = top (reduced b m)} (omega arith), (left-place B m (below_64 m l) ne).low, reduced-le b m))

  inserted-filled : {vs b : List ℕ} (B : BasisOf vs b) (m : ℕ) → m < 2 ^ n → (reduced b m ≡ 0 → ⊥) → filled n (inserted b (reduced b m)) ≡ suc (filled n b)
  unfolding inserted
  inserted-filled {vs} {b} B m l ne =
      filled_more n b (top (reduced b m)) (reduced b m) (left-low B m l ne) (omega (arith, B.size, (left-place B m (below_64 m l) ne).inside))
      (left-free B m (below_64 m l) ne) ne

  grow : (ms : List ℕ) {vs b : List ℕ} (c : ℕ) → BasisOf vs b → filled n b ≡ c → Below n ms → free_from vs ms ≡ true → Grown n (reverse_aux ms vs) (c + length ms)
  grow [] {vs} {b} c B e h f = record { words = b; basis = B; full = omega arith }
  grow (m ∷ ms) {vs} {b} c B e h f =
      let l : m < 2 ^ n = h 0 (zero-lt-suc (length ms)) in
      let p = both (not (spans vs m)) (free_from (m ∷ vs) ms) (sym (free_more vs m ms) ∙ f) in
      let ne : reduced b m ≡ 0 → ⊥ = eqb-false (reduced b m) 0 (basis-reduces B m (below_64 m l) ∙ not-true (spans vs m) p.0) in
      let g = grow ms (suc c) (basis-inserted B m (below_64 m l) ne) (inserted-filled B m l ne ∙ ap suc e) (λ k q. h (suc k) (omega arith)) p.1 in
      record { words = g.words; basis = g.basis; full = omega (arith, g.full) }

  pub most-list : (ms : List ℕ) → Below n ms → free_from [] ms ≡ true → length ms ≤ n
  most-list ms h f =
      let g = grow ms 0 basis-empty (filled_none n small) h f in
      omega (arith, g.full, filled-le n g.words)

  pub full-list : (ms : List ℕ) → Below n ms → length ms ≡ n → free_from [] ms ≡ true → (x : ℕ) → x < 2 ^ n → spans (reverse_aux ms []) x ≡ true
  full-list ms h e f x l =
      let g = grow ms 0 basis-empty (filled_none n small) h f in
      sym (basis-reduces g.basis x (below_64 x l)) ∙ eq-eqb (reduced g.words x) 0 (go g (ℕ_discrete (reduced g.words x) 0))
    where
      go : (g : Grown n (reverse_aux ms []) (0 + length ms)) → Dec (reduced g.words x ≡ 0) → reduced g.words x ≡ 0
      go g (yes z) = z
      go g (no ne) =
          absurd
          (filled-all n g.words (omega (arith, g.full)) (top (reduced g.words x)) (left-low g.basis x l ne)
          (left-free g.basis x (below_64 x l) ne))

pub listed_at : (n : ℕ) (f : ℕ → ℕ) (k : ℕ) → k < n → get_or (listed n (λ j. true) f) k 0 ≡ f k
listed_at zero f k l = absurd (omega arith)
listed_at (suc n) f k l = rw (listed_in n (λ j. true) f refl) (go (ℕ_discrete k n) (λ q. listed_at n f k q))
  where
    go : Dec (k ≡ n) → (k < n → get_or (listed n (λ j. true) f) k 0 ≡ f k) → get_or (listed n (λ j. true) f ++ (f n ∷ [])) k 0 ≡ f k
    go (yes e) ih = rw e (get_or_at (listed n (λ j. true) f) (f n) [] 0 n (listed-length n f))
    go (no d) ih = get_or-append (listed n (λ j. true) f) (f n ∷ []) 0 k (omega (arith, listed-length n f)) ∙ ih (omega arith)

pub full-span :
    (n : ℕ) (f : ℕ → ℕ) → n ≤ 64 → ((k : ℕ) → k < n → f k < 2 ^ n) → free n (λ k. true) f ≡ true
    → (x : ℕ) → x < 2 ^ n → spanned n (λ k. true) f x ≡ true
full-span n f s h e x l =
    spanned-listed n (λ k. true) f x
    ∙ full-list n s (listed n (λ k. true) f)
    (λ k q. rw (listed_at n f k (omega (arith, listed-length n f))) (h k (omega (arith, listed-length n f))))
    (listed-length n f) (sym (free-listed n (λ k. true) f) ∙ e) x l
