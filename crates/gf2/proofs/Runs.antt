-- Runs of values, as parts of lists of members.
--
--   listed-add     the members of a range, and then those of the next
--   run-part       a part of a table that has the values is the run
--   run-map        a run of values under a map
--   run-next       where each value is a map of the one before, so is the run one place on
--   listed-from    of the values from a place on, those that are not before a bound
--   free-two-runs  the members of two runs are free
--
-- Assumes nothing.
use mathlib.Core.Path.{◌≡◌, refl, sym, ap, ap₂, ◌∙◌}
use mathlib.Core.Bool.{Bool, true, ◌||◌, cond}
use mathlib.Core.List.{List, [], ◌∷◌, ◌++◌, map, append-nil, append_assoc}
use Prim.Native.Nat.{ℕ, zero, suc, ◌+◌, ◌-◌, ◌≤◌, ◌<◌, max}
use native.Mathlib.Nat.{add-zero, add-suc}
use native.Mathlib.Omega.{arith}
use borrow.Author.Tests.{le-leb, lt-leb}
use lib.Dec.{leb}
use lib.ListN.{length, get_or, drop, length-take, length-drop}
use lib.Seq.{get_or-take, get_or-drop, ext_get_or}
use Rattle.finite.specs.Search.{within}
use Rattle.finite.proofs.Truth.{in_within}
use Rattle.gf2.specs.Independence.{free}
use Rattle.gf2.specs.Vectors.{free_from, listed, run, part}
use Rattle.gf2.proofs.Vectors.{listed-equal, listed-none, listed-skip, listed-length, free-listed, run-before, run-after}
use Rattle.gf2.proofs.Span.{listed_at}

pub listed-add :
    (d e : ℕ) (member : ℕ → Bool) (f : ℕ → ℕ)
    → listed (d + e) member f ≡ listed d member f ++ listed e (λ k. member (d + k)) (λ k. f (d + k))
unfolding listed
listed-add d zero member f = rw (add-zero d) (sym (append-nil (listed d member f)))
listed-add d (suc e) member f =
    rw (add-suc d e, listed-add d e member f)
    (append_assoc (listed d member f) (listed e (λ k. member (d + k)) (λ k. f (d + k))) (cond (member (d + e)) (f (d + e) ∷ []) []))

pub part_length : (a b : ℕ) (t : List ℕ) → a ≤ b → b ≤ length t → length (part a b t) ≡ b - a
part_length a b t l u = simp (length-take, length-drop) (omega arith)

pub run-part : (f : ℕ → ℕ) (a b : ℕ) (t : List ℕ) → a ≤ b → b ≤ length t → ((k : ℕ) → a ≤ k → k < b → get_or t k 0 ≡ f k) → part a b t ≡ run f a (b - a)
unfolding run
run-part f a b t l u h =
    let n = part_length a b t l u in
    let m = listed-length (b - a) (λ k. f (a + k)) in
    ext_get_or 0 (part a b t) (listed (b - a) (λ k. true) (λ k. f (a + k))) (omega arith)
    (λ k lk.
    get_or-take (b - a) (drop a t) k 0 (omega arith) ∙ get_or-drop a t k 0 ∙ h (a + k) (omega arith) (omega arith)
    ∙ sym (listed_at (b - a) (λ k. f (a + k)) k (omega arith)))

map_last : (g : ℕ → ℕ) (xs : List ℕ) (y : ℕ) → map g (xs ++ (y ∷ [])) ≡ map g xs ++ (g y ∷ [])
map_last g [] y = refl
map_last g (x ∷ xs) y = ap (λ (s : List ℕ). g x ∷ s) (map_last g xs y)

listed-map : (g : ℕ → ℕ) (n : ℕ) (f : ℕ → ℕ) → map g (listed n (λ k. true) f) ≡ listed n (λ k. true) (λ k. g (f k))
unfolding listed
listed-map g zero f = refl
listed-map g (suc n) f = map_last g (listed n (λ k. true) f) (f n) ∙ ap (λ (s : List ℕ). s ++ (g (f n) ∷ [])) (listed-map g n f)

-- equal values at places that may differ give the same run
pub run-equal : (f g : ℕ → ℕ) (a b n : ℕ) → ((k : ℕ) → k < n → f (a + k) ≡ g (b + k)) → run f a n ≡ run g b n
unfolding run
run-equal f g a b n h =
    listed-equal n (λ k. true) (λ k. true) (λ k. f (a + k)) (λ k. g (b + k)) (λ k l. refl) (λ k l _. h k l)

pub run-map : (g f : ℕ → ℕ) (a n : ℕ) → run (λ k. g (f k)) a n ≡ map g (run f a n)
unfolding run
run-map g f a n = sym (listed-map g n (λ k. f (a + k)))

pub run-next : (g f f' : ℕ → ℕ) (a n : ℕ) → ((k : ℕ) → k < n → f' (suc a + k) ≡ g (f (a + k))) → run f' (suc a) n ≡ map g (run f a n)
run-next g f f' a n h = run-equal f' (λ k. g (f k)) (suc a) a n h ∙ run-map g f a n

-- a range of members adds the run
listed-runs :
    (a n : ℕ) (member : ℕ → Bool) (f : ℕ → ℕ) → ((k : ℕ) → a ≤ k → k < a + n → member k ≡ true)
    → listed (a + n) member f ≡ listed a member f ++ run f a n
unfolding run
listed-runs a n member f h =
    listed-add a n member f
    ∙ ap (λ (s : List ℕ). listed a member f ++ s)
    (listed-equal n (λ k. member (a + k)) (λ k. true) (λ k. f (a + k)) (λ k. f (a + k)) (λ k l. h (a + k) (omega arith) (omega arith)) (λ k _ _. refl))

-- the same up to b
up_to :
    (a b : ℕ) (member : ℕ → Bool) (f : ℕ → ℕ) → a ≤ b → ((k : ℕ) → a ≤ k → k < b → member k ≡ true)
    → listed b member f ≡ listed a member f ++ run f a (b - a)
up_to a b member f l h =
    let e : a + (b - a) ≡ b = omega arith in
    ap (λ (n : ℕ). listed n member f) (sym e) ∙ listed-runs a (b - a) member f (λ k p q. h k p (omega arith))

pub listed-from :
    (f : ℕ → ℕ) (low a n : ℕ) → low ≤ a + n
    → listed n (λ k. leb low (a + k)) (λ k. f (a + k)) ≡ run f (max low a) (a + n - max low a)
listed-from f low a n l =
    let d = max low a - a in
    let at : a + d ≡ max low a = omega arith in
    let e : n - d ≡ a + n - max low a = omega arith in
    up_to d n (λ k. leb low (a + k)) (λ k. f (a + k)) (omega arith) (λ k p q. le-leb low (a + k) (omega arith))
    ∙ ap (λ (s : List ℕ). s ++ run (λ k. f (a + k)) d (n - d))
    (listed-skip 0 d (λ k. leb low (a + k)) (λ k. f (a + k)) (omega arith) (λ k p q. lt-leb low (a + k) (omega arith))
    ∙ listed-none (λ k. leb low (a + k)) (λ k. f (a + k)))
    ∙ run-equal (λ k. f (a + k)) f d (max low a) (n - d) (λ k _. ap f (let z : a + (d + k) ≡ max low a + k = omega arith in z))
    ∙ ap (run f (max low a)) e

pub free-two-runs :
    (n a b m : ℕ) (member : ℕ → Bool) (f : ℕ → ℕ) → a ≤ b → b + m ≤ n → ((k : ℕ) → k < n → member k ≡ (within a m k || within b m k))
    → free n member f ≡ free_from [] (run f a m ++ run f (max (a + m) b) (b + m - max (a + m) b))
free-two-runs n a b m member f l u h =
    free-listed n member f
    ∙ ap (free_from [])
    (listed-skip (b + m) n member f u (λ k p q. h k q ∙ ap₂ ◌||◌ (run-after a m k (omega arith)) (run-after b m k p))
    ∙ up_to (max (a + m) b) (b + m) member f (omega arith)
    (λ k p q. h k (omega arith) ∙ ap₂ ◌||◌ (run-after a m k (omega arith)) (in_within b m k (omega arith) q))
    ∙ ap (λ (s : List ℕ). s ++ run f (max (a + m) b) (b + m - max (a + m) b))
    (listed-skip (a + m) (max (a + m) b) member f (omega arith)
    (λ k p q. h k (omega arith) ∙ ap₂ ◌||◌ (run-after a m k p) (run-before b m k (omega arith)))
    ∙ listed-runs a m member f (λ k p q. h k (omega arith) ∙ ap (λ (t : Bool). t || within b m k) (in_within a m k p q))
    ∙ ap (λ (s : List ℕ). s ++ run f a m)
    (listed-skip 0 a member f (omega arith) (λ k p q. h k (omega arith) ∙ ap₂ ◌||◌ (run-before a m k q) (run-before b m k (omega arith)))
    ∙ listed-none member f)))
