-- Laws of `swept`.
--
--   SweepOf vs ws   the words ws take off exactly what vs span
--   min-xor         taking a word off where that makes a number smaller is linear
--   swept-xor       so is `swept`
--   swept-append    by one word more
--   swept-more      by one word more of the first ones
--   swept-pair      by the two words of pair i, as `as_chunks` has pairs
--   swept-next, swept-end    by the words from place i on, as a loop goes
--   sweep-none      no words take off what no vectors span
--   sweep-more      a vector as the words leave it is the word that is missing for it
--   sweep-kept      the words kept of a list take off what the list spans
--   swept-free      vectors after others are free where they are as the words of the others leave them
--
-- Assumes nothing.
use mathlib.Core.Path.{◌≡◌, refl, sym, ap, ap₂, ◌∙◌}
use mathlib.Core.Bool.{Bool, ◌||◌}
use mathlib.Core.List.{List, [], ◌∷◌, ◌++◌, reverse_aux, map}
use mathlib.Core.Logic.{⊎_elim}
use Prim.Native.Nat.{ℕ, zero, suc, ◌+◌, ◌*◌, ◌/◌, ◌%◌, ◌^◌, ◌≤◌, ◌<◌, min}
use native.Mathlib.Nat.{mod-lt, suc-mul, zero-lt-suc, eq-zero-or-pos, div-eq_of_lt-le}
use native.Mathlib.Decide.{dec_le}
use native.Mathlib.Numerals.{add-one}
use native.Mathlib.Omega.{arith}
use lib.Bits as bits
use lib.Bits.{bit_xor, differ}
use lib.Count.{leading_top}
use lib.Dec.{eqb, eqb-suc-zero}
use lib.ListN.{length, get_or, take, drop, drop_of_length-le}
use lib.Pow.{pow_pos, shr_mono}
use lib.Seq.{drop-cons}
use Rattle.std.specs.Simd.{first_chunks}
use Rattle.std.proofs.lemmas.List.{get_or-take, get_or-drop, length-take}
use Rattle.gf2.specs.Xor.{◌⊕◌, pick}
use Rattle.gf2.specs.Vectors.{spans, free_from}
use Rattle.finite.specs.Search.{bit}
use Rattle.gf2.specs.Swept.{swept, kept}
use Rattle.gf2.proofs.Xor.{xor-swap, xor_zero_right, pick-differ, bit-xor}
use Rattle.gf2.proofs.Independence.{pick_true, pick-false}
use Rattle.gf2.proofs.Linear.{free-mapped}
use Rattle.gf2.proofs.Triangle.{pow-double}

below_power : (n : ℕ) → n < 2 ^ n
below_power zero = omega arith
below_power (suc n) = omega (arith, below_power n, pow-double n, pow_pos n)

-- a number with its lowest digit turned over
turned : (q : ℕ) → bit_xor q 1 ≡ q / 2 * 2 + differ (q % 2) 1
turned q = bits.xor_step q 1 ∙ ap (λ (x : ℕ). x * 2 + differ (q % 2) 1) (bits.xor_zero_r (q / 2))

-- the digits of v ⊕ w from w's leading digit on: those of v, the lowest turned over
high : (j w v : ℕ) → 2 ^ j ≤ w → w < 2 ^ suc j → (v ⊕ w) / 2 ^ j ≡ v / 2 ^ j / 2 * 2 + differ (v / 2 ^ j % 2) 1
unfolding ◌⊕◌
high j w v l u =
    let d = pow-double j in
    let one : w / 2 ^ j ≡ 1 = div-eq_of_lt-le {k = 1} (2 ^ j) {m = w} (omega arith) (omega arith) in
    bits.xor_shr v w j ∙ ap (λ (x : ℕ). bit_xor (v / 2 ^ j) x) one ∙ turned (v / 2 ^ j)

-- taking w off makes v smaller exactly where v has w's leading digit
min-digit : (j w v : ℕ) → 2 ^ j ≤ w → w < 2 ^ suc j → min v (v ⊕ w) ≡ v ⊕ pick (bit v j) w
unfolding bit
min-digit j w v l u = go (v / 2 ^ j % 2) refl (mod-lt (v / 2 ^ j) (zero-lt-suc 1)) (high j w v l u)
  where
    go : (t : ℕ) → v / 2 ^ j % 2 ≡ t → t < 2 → (v ⊕ w) / 2 ^ j ≡ v / 2 ^ j / 2 * 2 + differ t 1 → min v (v ⊕ w) ≡ v ⊕ pick (eqb t 1) w
    go zero e b h = keep (dec_le (v ⊕ w) v) ∙ sym (xor_zero_right v) ∙ ap (λ (x : ℕ). v ⊕ x) (sym (pick-false w))
      where
        keep : Dec ((v ⊕ w) ≤ v) → min v (v ⊕ w) ≡ v
        keep (yes p) = absurd (omega (arith, shr_mono j p))
        keep (no p) = omega arith
    go (suc zero) e b h = take (dec_le v (v ⊕ w)) ∙ ap (λ (x : ℕ). v ⊕ x) (sym (pick_true w))
      where
        take : Dec (v ≤ (v ⊕ w)) → min v (v ⊕ w) ≡ v ⊕ w
        take (yes p) = absurd (omega (arith, shr_mono j p))
        take (no p) = omega arith
    go (suc (suc t)) e b h = absurd (omega arith)

min_self : (n : ℕ) → min n n ≡ n
min_self n = omega arith

pub min-xor : (w x y : ℕ) → min (x ⊕ y) ((x ⊕ y) ⊕ w) ≡ min x (x ⊕ w) ⊕ min y (y ⊕ w)
min-xor w x y = ⊎_elim (λ e. rw e none) some (eq-zero-or-pos w)
  where
    none : min (x ⊕ y) ((x ⊕ y) ⊕ 0) ≡ min x (x ⊕ 0) ⊕ min y (y ⊕ 0)
    none = rw (xor_zero_right (x ⊕ y), xor_zero_right x, xor_zero_right y, min_self (x ⊕ y), min_self x, min_self y)

    some : 0 < w → min (x ⊕ y) ((x ⊕ y) ⊕ w) ≡ min x (x ⊕ w) ⊕ min y (y ⊕ w)
    some p =
        let t = leading_top w w p (below_power w) in
        min-digit t.0 w (x ⊕ y) t.2 t.3
        ∙ ap (λ (b : ℕ). (x ⊕ y) ⊕ b) (ap (λ (b : Bool). pick b w) (bit-xor x y t.0) ∙ pick-differ (bit x t.0) (bit y t.0) w)
        ∙ xor-swap x y (pick (bit x t.0) w) (pick (bit y t.0) w)
        ∙ sym (ap₂ ◌⊕◌ (min-digit t.0 w x t.2 t.3) (min-digit t.0 w y t.2 t.3))

pub swept-xor : (ws : List ℕ) (x y : ℕ) → swept ws (x ⊕ y) ≡ swept ws x ⊕ swept ws y
unfolding swept
swept-xor [] x y = refl
swept-xor (w ∷ ws) x y = ap (swept ws) (min-xor w x y) ∙ swept-xor ws (min x (x ⊕ w)) (min y (y ⊕ w))

pub swept-append : (ws : List ℕ) (r x : ℕ) → swept (ws ++ (r ∷ [])) x ≡ min (swept ws x) (swept ws x ⊕ r)
unfolding swept
swept-append [] r x = refl
swept-append (w ∷ ws) r x = swept-append ws r (min x (x ⊕ w))

-- one word more, also past the end
swept-take : (ws : List ℕ) (i x : ℕ) → swept (take (i + 1) ws) x ≡ min (swept (take i ws) x) (swept (take i ws) x ⊕ get_or ws i 0)
unfolding swept
swept-take ws i x = rw (add-one i) (go ws i x)
  where
    go : (ws : List ℕ) (i x : ℕ) → swept (take (suc i) ws) x ≡ min (swept (take i ws) x) (swept (take i ws) x ⊕ get_or ws i 0)
    go [] zero x = rw (xor_zero_right x) (sym (min_self x))
    go [] (suc i) x = rw (xor_zero_right x) (sym (min_self x))
    go (w ∷ ws) zero x = refl
    go (w ∷ ws) (suc i) x = go ws i (min x (x ⊕ w))

pub swept-more : (ws : List ℕ) (i x : ℕ) {s r : ℕ} → s ≡ swept (take i ws) x → r ≡ min s (s ⊕ get_or ws i 0) → r ≡ swept (take (i + 1) ws) x
swept-more ws i x e f = f ∙ ap (λ (y : ℕ). min y (y ⊕ get_or ws i 0)) e ∙ sym (swept-take ws i x)

-- word j of chunk i
in-chunk : (n k : ℕ) (ws : List ℕ) (i j : ℕ) → i < k → j < n → get_or (get_or (first_chunks n k ws) i []) j 0 ≡ get_or ws (i * n + j) 0
in-chunk n zero ws i j l m = absurd (omega arith)
in-chunk n (suc k) ws zero j l m = get_or-take n ws j 0 m ∙ ap (λ (e : ℕ). get_or ws e 0) (omega arith)
in-chunk n (suc k) ws (suc i) j l m =
    in-chunk n k (drop n ws) i j (omega arith) m ∙ get_or-drop n ws (i * n + j) 0 ∙ ap (λ (e : ℕ). get_or ws e 0) (omega (arith, suc-mul i n))

pub swept-pair : (ws : List ℕ) (k d i x : ℕ) {cs : List (List ℕ)} {s r q : ℕ} → cs ≡ first_chunks 2 k ws → length cs ≡ k → i < length (take d cs)
    → s ≡ swept (take (i * 2) ws) x → r ≡ min s (s ⊕ get_or (get_or (take d cs) i []) 0 0) → q ≡ min r (r ⊕ get_or (get_or (take d cs) i []) 1 0)
    → q ≡ swept (take ((i + 1) * 2) ws) x
swept-pair ws k d i x {cs} {s} {r} {q} e b l h f g =
    let a = length-take d cs in
    let at = get_or-take d cs i [] (omega arith) ∙ ap (λ (u : List (List ℕ)). get_or u i []) e in
    let word : (j : ℕ) → j < 2 → get_or (get_or (take d cs) i []) j 0 ≡ get_or ws (i * 2 + j) 0 =
    λ j m. ap (λ (u : List ℕ). get_or u j 0) at ∙ in-chunk 2 k ws i j (omega arith) m in
    let first = swept-more ws (i * 2) x h (f ∙ ap (λ (w : ℕ). min s (s ⊕ w)) (word 0 (omega arith) ∙ ap (λ (e : ℕ). get_or ws e 0) (omega arith))) in
    let second = swept-more ws (i * 2 + 1) x first (g ∙ ap (λ (w : ℕ). min r (r ⊕ w)) (word 1 (omega arith))) in
    let two : i * 2 + 1 + 1 ≡ (i + 1) * 2 = omega arith in
    rw two at second

pub swept-next : (ws : List ℕ) (i x : ℕ) → i < length ws → swept (drop i ws) x ≡ swept (drop (suc i) ws) (min x (x ⊕ get_or ws i 0))
swept-next ws i x l = rw (drop-cons ws i 0 l) (unfold swept in refl)

pub swept-end : (ws : List ℕ) (i x : ℕ) → length ws ≤ i → swept (drop i ws) x ≡ x
swept-end ws i x l = rw (drop_of_length-le ws l) (unfold swept in refl)

pub min-zero : (a b : ℕ) → eqb (min a b) 0 ≡ (eqb a 0 || eqb b 0)
min-zero zero b = ap (λ (n : ℕ). eqb n 0) e
  where
    e : min 0 b ≡ 0
    e = omega arith
min-zero (suc a) zero = ap (λ (n : ℕ). eqb n 0) e ∙ rw (eqb-suc-zero a)
  where
    e : min (suc a) 0 ≡ 0
    e = omega arith
min-zero (suc a) (suc b) = ap (λ (n : ℕ). eqb n 0) e ∙ rw (eqb-suc-zero a, eqb-suc-zero b, eqb-suc-zero (min a b))
  where
    e : min (suc a) (suc b) ≡ suc (min a b)
    e = omega arith

abbrev pub SweepOf : List ℕ → List ℕ → Type 0
SweepOf vs ws = (x : ℕ) → eqb (swept ws x) 0 ≡ spans vs x

pub sweep-none : SweepOf [] []
unfolding swept spans
sweep-none x = refl

pub sweep-more : (vs ws : List ℕ) (m : ℕ) → SweepOf vs ws → SweepOf (m ∷ vs) (ws ++ (swept ws m ∷ []))
unfolding spans
sweep-more vs ws m h x =
    ap (λ (y : ℕ). eqb y 0) (swept-append ws (swept ws m) x) ∙ min-zero (swept ws x) (swept ws x ⊕ swept ws m)
    ∙ ap₂ ◌||◌ (h x) (ap (λ (y : ℕ). eqb y 0) (sym (swept-xor ws x m)) ∙ h (x ⊕ m))

pub sweep-kept : (ms : List ℕ) (vs ws : List ℕ) → SweepOf vs ws → SweepOf (reverse_aux ms vs) (kept ws ms)
unfolding kept
sweep-kept [] vs ws h = h
sweep-kept (m ∷ ms) vs ws h = sweep-kept ms (m ∷ vs) (ws ++ (swept ws m ∷ [])) (sweep-more vs ws m h)

pub swept-free : (ms vs ws : List ℕ) → SweepOf vs ws → free_from vs ms ≡ free_from [] (map (swept ws) ms)
swept-free ms vs ws h = free-mapped (swept ws) (swept-xor ws) vs h ms
