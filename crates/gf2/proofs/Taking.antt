-- Places taken in their order, each if its value is no exclusive-or of those taken.
--
--   taken_in, taken_out      the next place, taken or not
--   taken-inside, taken-rising, taken_free   those taken lie below n, rise, and have independent values
--   taken-equal              equal values take the same places
--   first-most               the first w are at most w
--   first-inside, first-rising, first-independent   the same of the first w
--   taking-none, taking-in, taking-out, taking-full   how the code holds them: none, the next taken or not, and w of them
--
-- Assumes nothing.
use mathlib.Core.Path.{◌≡◌, refl, sym, ap, ap₂, ◌∙◌}
use mathlib.Core.Bool.{Bool, true, false, cond}
use mathlib.Core.List.{List, [], ◌∷◌, ◌++◌, reverse_aux, map, append-nil}
use Prim.Native.Nat.{ℕ, zero, suc, ◌+◌, ◌≤◌, ◌<◌}
use native.Mathlib.Decide.{ℕ_discrete}
use native.Mathlib.Omega.{arith}
use borrow.Author.Tests.{eq-eqb, ne_eqb}
use lib.Dec.{eqb}
use lib.ListN.{length, get_or, take, drop, set, length-append, length-take, length-set, take-append-drop, get_or-append}
use lib.Seq.{take_all, take-suc, take-append-le, take-set-le, take-suc-set, get_or-take, get_or-append_seam}
use Rattle.finite.proofs.Truth.{both}
use Rattle.gf2.specs.Independence.{Independent}
use Rattle.gf2.specs.Vectors.{spans, free_from, listed}
use Rattle.gf2.specs.Swept.{swept, kept}
use Rattle.gf2.specs.Taking.{taken_below, first_taken, TakenIn}
use Rattle.gf2.proofs.Independence.{free-independent}
use Rattle.gf2.proofs.Spans.{spans-turned}
use Rattle.gf2.proofs.Vectors.{free-none, free_more, free-append, free-listed, listed-none, listed_in}
use Rattle.gf2.proofs.Swept.{sweep-none, sweep-kept}
use Rattle.gf2.proofs.Keeping.{kept-last}

map-append : (f : ℕ → ℕ) (xs ys : List ℕ) → map f (xs ++ ys) ≡ map f xs ++ map f ys
map-append f [] ys = refl
map-append f (x ∷ xs) ys = ap (λ (r : List ℕ). f x ∷ r) (map-append f xs ys)

map-equal : (f g : ℕ → ℕ) (ts : List ℕ) → ((k : ℕ) → k < length ts → f (get_or ts k 0) ≡ g (get_or ts k 0)) → map f ts ≡ map g ts
map-equal f g [] e = refl
map-equal f g (t ∷ ts) e = ap₂ (λ (x : ℕ) (r : List ℕ). x ∷ r) (e 0 (omega arith)) (map-equal f g ts (λ k l. e (suc k) (omega arith)))

module _ (f : ℕ → ℕ) where
  pub taken_in : (n : ℕ) → spans (map f (taken_below f n)) (f n) ≡ false → taken_below f (suc n) ≡ taken_below f n ++ (n ∷ [])
  unfolding taken_below
  taken_in n e = ap (λ (b : Bool). taken_below f n ++ cond b [] (n ∷ [])) e

  pub taken_out : (n : ℕ) → spans (map f (taken_below f n)) (f n) ≡ true → taken_below f (suc n) ≡ taken_below f n
  unfolding taken_below
  taken_out n e = ap (λ (b : Bool). taken_below f n ++ cond b [] (n ∷ [])) e ∙ append-nil (taken_below f n)

  -- what holds of none, and of one more where it is taken, holds of those taken
  by-taking : (P : ℕ → List ℕ → Type 0) → P 0 []
      → ((n : ℕ) (ts : List ℕ) → P n ts → P (suc n) ts)
      → ((n : ℕ) (ts : List ℕ) → spans (map f ts) (f n) ≡ false → P n ts → P (suc n) (ts ++ (n ∷ [])))
      → (n : ℕ) → P n (taken_below f n)
  by-taking P none out in' zero = unfold taken_below in none
  by-taking P none out in' (suc n) = go (spans (map f (taken_below f n)) (f n)) refl (by-taking P none out in' n)
    where
      go : (b : Bool) → spans (map f (taken_below f n)) (f n) ≡ b → P n (taken_below f n) → P (suc n) (taken_below f (suc n))
      go true e p = rw (taken_out n e) (out n (taken_below f n) p)
      go false e p = rw (taken_in n e) (in' n (taken_below f n) e p)

  -- those taken lie below n and rise
  record Rising (n : ℕ) (ts : List ℕ) : Type 0 where
    inside : (k : ℕ) → k < length ts → get_or ts k 0 < n
    rising : (k : ℕ) → suc k < length ts → get_or ts k 0 < get_or ts (suc k) 0

  taken-rise : (n : ℕ) → Rising n (taken_below f n)
  taken-rise = by-taking Rising none out in'
    where
      none : Rising 0 []
      none = record { inside = λ k l. absurd (omega arith); rising = λ k l. absurd (omega arith) }

      out : (n : ℕ) (ts : List ℕ) → Rising n ts → Rising (suc n) ts
      out n ts R = record { inside = λ k l. let u = R.inside k l in omega arith; rising = R.rising }

      in' : (n : ℕ) (ts : List ℕ) → spans (map f ts) (f n) ≡ false → Rising n ts → Rising (suc n) (ts ++ (n ∷ []))
      in' n ts _ R = record { inside = λ k l. at k l (ℕ_discrete k (length ts)); rising = λ k l. next k l (ℕ_discrete (suc k) (length ts)) }
        where
          long : length (ts ++ (n ∷ [])) ≡ length ts + 1
          long = length-append ts (n ∷ [])

          last : get_or (ts ++ (n ∷ [])) (length ts) 0 ≡ n
          last = get_or-append_seam ts n [] 0

          old : (k : ℕ) → k < length ts → get_or (ts ++ (n ∷ [])) k 0 ≡ get_or ts k 0
          old k l = get_or-append ts (n ∷ []) 0 k l

          at : (k : ℕ) → k < length (ts ++ (n ∷ [])) → Dec (k ≡ length ts) → get_or (ts ++ (n ∷ [])) k 0 < suc n
          at k l (yes e) = rw (e, last) (omega arith)
          at k l (no d) = let m : k < length ts = omega (arith, long) in rw (old k m) (let u = R.inside k m in omega arith)

          next : (k : ℕ) → suc k < length (ts ++ (n ∷ [])) → Dec (suc k ≡ length ts) → get_or (ts ++ (n ∷ [])) k 0 < get_or (ts ++ (n ∷ [])) (suc k) 0
          next k l (yes e) = let m : k < length ts = omega arith in rw (e, last, old k m) (R.inside k m)
          next k l (no d) = let m : suc k < length ts = omega (arith, long) in rw (old k (omega arith), old (suc k) m) (R.rising k m)

  pub taken_free : (n : ℕ) → free_from [] (map f (taken_below f n)) ≡ true
  taken_free = by-taking (λ _ ts. free_from [] (map f ts) ≡ true) (free-none []) (λ _ _ e. e) in'
    where
      in' : (n : ℕ) (ts : List ℕ) → spans (map f ts) (f n) ≡ false → free_from [] (map f ts) ≡ true → free_from [] (map f (ts ++ (n ∷ []))) ≡ true
      in' n ts e h =
          rw (
            map-append f ts (n ∷ []),
            free-append (map f ts) [] (f n ∷ []),
            h,
            free_more (reverse_aux (map f ts) []) (f n) [],
            spans-turned (map f ts) [] (f n),
            append-nil (map f ts),
            e,
          )
          (free-none (f n ∷ reverse_aux (map f ts) []))

  module _ (w n : ℕ) where
    pub first-most : length (first_taken f w n) ≤ w
    unfolding first_taken
    first-most = omega (arith, length-take w (taken_below f n))

    pub first-inside : (k : ℕ) → k < length (first_taken f w n) → get_or (first_taken f w n) k 0 < n
    unfolding first_taken
    first-inside k l =
        let m = length-take w (taken_below f n) in
        rw (get_or-take w (taken_below f n) k 0 (omega arith)) ((taken-rise n).inside k (omega arith))

    pub first-rising : (k : ℕ) → suc k < length (first_taken f w n) → get_or (first_taken f w n) k 0 < get_or (first_taken f w n) (suc k) 0
    unfolding first_taken
    first-rising k l =
        let m = length-take w (taken_below f n) in
        rw (get_or-take w (taken_below f n) k 0 (omega arith), get_or-take w (taken_below f n) (suc k) 0 (omega arith)) ((taken-rise n).rising k (omega arith))

    first-free : free_from [] (map f (first_taken f w n)) ≡ true
    unfolding first_taken
    first-free =
        let ts = taken_below f n in
        (both (free_from [] (map f (take w ts))) (free_from (reverse_aux (map f (take w ts)) []) (map f (drop w ts)))
        (sym (free-append (map f (take w ts)) [] (map f (drop w ts)))
        ∙ ap (free_from []) (sym (map-append f (take w ts) (drop w ts)) ∙ ap (map f) (take-append-drop w ts)) ∙ taken_free n)).0

    pub first-independent : length (first_taken f w n) ≡ w → Independent w (λ k. true) (λ k. f (get_or (first_taken f w n) k 0))
    first-independent e =
        free-independent w (λ k. true) (λ k. f (get_or (first_taken f w n) k 0))
        (free-listed w (λ k. true) (λ k. f (get_or (first_taken f w n) k 0))
        ∙ ap (free_from []) (listed-values w (omega arith) ∙ ap (map f) (take_all w (first_taken f w n) (omega arith))) ∙ first-free)
      where
        listed-values : (k : ℕ) → k ≤ length (first_taken f w n)
            → listed k (λ j. true) (λ j. f (get_or (first_taken f w n) j 0)) ≡ map f (take k (first_taken f w n))
        listed-values zero l = listed-none (λ j. true) (λ j. f (get_or (first_taken f w n) j 0))
        listed-values (suc k) l =
            listed_in k (λ j. true) (λ j. f (get_or (first_taken f w n) j 0)) refl
            ∙ ap (λ (r : List ℕ). r ++ (f (get_or (first_taken f w n) k 0) ∷ [])) (listed-values k (omega arith))
            ∙ sym (map-append f (take k (first_taken f w n)) (get_or (first_taken f w n) k 0 ∷ []))
            ∙ ap (map f) (sym (take-suc (first_taken f w n) k 0 (omega arith)))

    -- where fewer than w are taken, those are all
    all_first : length (first_taken f w n) < w → first_taken f w n ≡ taken_below f n
    unfolding first_taken
    all_first l = take_all w (taken_below f n) (omega (arith, length-take w (taken_below f n)))

    first-in : length (first_taken f w n) < w → spans (map f (first_taken f w n)) (f n) ≡ false → first_taken f w (suc n) ≡ first_taken f w n ++ (n ∷ [])
    first-in l e =
        let a = all_first l in
        rw a (unfold first_taken in
        rw (taken_in n (rw a at e))
        (take_all w (taken_below f n ++ (n ∷ [])) (omega (arith, length-append (taken_below f n) (n ∷ []), ap length a))))

    first_out : length (first_taken f w n) < w → spans (map f (first_taken f w n)) (f n) ≡ true → first_taken f w (suc n) ≡ first_taken f w n
    first_out l e = let a = all_first l in unfold first_taken in ap (take w) (taken_out n (rw a at e))

  -- where w are taken, no more are
  full-next : (w m : ℕ) → length (first_taken f w m) ≡ w → first_taken f w (suc m) ≡ first_taken f w m
  unfolding first_taken taken_below
  full-next w m d =
      take-append-le w (taken_below f m) (cond (spans (map f (taken_below f m)) (f m)) [] (m ∷ [])) (omega (arith, length-take w (taken_below f m)))

  first-full : (w n m : ℕ) → n ≤ m → length (first_taken f w n) ≡ w → first_taken f w m ≡ first_taken f w n
  first-full w n zero l e = let z : n ≡ 0 = omega arith in rw z
  first-full w n (suc m) l e = go (ℕ_discrete n (suc m)) (λ u. first-full w n m u e)
    where
      go : Dec (n ≡ suc m) → (n ≤ m → first_taken f w m ≡ first_taken f w n) → first_taken f w (suc m) ≡ first_taken f w n
      go (yes q) h = ap (first_taken f w) (sym q)
      go (no q) h = let r = h (omega arith) in full-next w m (ap length r ∙ e) ∙ r

  first-none : (w : ℕ) → first_taken f w 0 ≡ []
  unfolding first_taken taken_below
  first-none w = take_all w [] (omega arith)

  pub taking-none : (w : ℕ) (words places : List ℕ) → length words ≡ 64 → length places ≡ 64 → TakenIn f w 0 words places 0
  unfolding kept
  taking-none w words places a b = let e = first-none w in record { words_size = a; places_size = b; number = rw e; held = rw e; basis = rw e }

  module _ (w n : ℕ) (words places : List ℕ) (count : ℕ) (T : TakenIn f w n words places count) where
    pub taking-full : w ≤ count → (m : ℕ) → n ≤ m → TakenIn f w m words places count
    taking-full u m l =
        let e = first-full w n m l (omega (arith, T.number, first-most w n)) in
        record { words_size = T.words_size; places_size = T.places_size; number = rw e T.number; held = rw e T.held; basis = rw e T.basis }

    -- the value of place n is left 0 by the words exactly if it is no new one
    left-zero : eqb (swept (take count words) (f n)) 0 ≡ spans (map f (first_taken f w n)) (f n)
    left-zero =
        let ms = map f (first_taken f w n) in
        rw T.basis (sweep-kept ms [] [] sweep-none (f n) ∙ spans-turned ms [] (f n) ∙ ap (λ (r : List ℕ). spans r (f n)) (append-nil ms))

    module _ (l : count < w) (u : count < 64) where
      pub taking-out : (x y : ℕ) → swept (take count words) (f n) ≡ 0 → TakenIn f w (suc n) (set words count x) (set places count y) count
      taking-out x y z =
          let e = first_out w n (omega (arith, T.number)) (sym left-zero ∙ eq-eqb _ 0 z) in
          record {
            words_size = length-set words count x ∙ T.words_size;
            places_size = length-set places count y ∙ T.places_size;
            number = rw e T.number;
            held = rw e (take-set-le count places count y (omega arith) ∙ T.held);
            basis = rw e (take-set-le count words count x (omega arith) ∙ T.basis);
          }

      pub taking-in : (x : ℕ) → x ≡ swept (take count words) (f n) → (x ≡ 0 → ⊥) → TakenIn f w (suc n) (set words count x) (set places count n) (suc count)
      taking-in x q z =
          let ts = first_taken f w n in
          let e = first-in w n (omega (arith, T.number)) (sym left-zero ∙ ne_eqb _ 0 (λ r. z (q ∙ r))) in
          record {
            words_size = length-set words count x ∙ T.words_size;
            places_size = length-set places count n ∙ T.places_size;
            number = rw e (omega (arith, length-append ts (n ∷ []), T.number));
            held = rw (e, take-suc-set places count n (omega (arith, T.places_size)), T.held);
            basis =
                rw (e, take-suc-set words count x (omega (arith, T.words_size)), q, T.basis, map-append f ts (n ∷ []))
                (sym (kept-last (map f ts) [] (f n)));
          }

-- equal values take the same places
pub taken-equal : (f g : ℕ → ℕ) (n : ℕ) → ((k : ℕ) → k < n → f k ≡ g k) → taken_below f n ≡ taken_below g n
unfolding taken_below
taken-equal f g zero e = refl
taken-equal f g (suc n) e =
    let ih = taken-equal f g n (λ k l. e k (omega arith)) in
    let ts = taken_below f n in
    let m = map-equal f g ts (λ k l. e (get_or ts k 0) (let u = (taken-rise f n).inside k l in omega arith)) in
    ap₂ (λ (t : Bool) (r : List ℕ). r ++ cond t [] (n ∷ [])) (ap₂ spans (m ∙ ap (map g) ih) (e n (omega arith))) ih
