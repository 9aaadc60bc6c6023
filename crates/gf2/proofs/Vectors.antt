-- Laws of `taken_from`, `free_from` and `listed`, and the families of `spanned` and `free` as lists.
--
--   free_more       the first vector is not spanned, and the rest are free
--   free-append, taken-append     one list after another
--   taken-le        at most all are taken
--   listed-equal    equal members and values give the same list
--   listed-skip     a range with no members adds nothing
--   listed-run      a range of members adds that part of the table
--   listed-length   where all are members, the list is as long as the range
--   spanned-listed, free-listed   `spanned` and `free` are `spans` and `free_from` of the list
--   taken-least     where all are members, the first that is spanned by those before it is counted
--   free-least      and all are free where there is none
--   run-before, run-after   places that are not in a run
--
-- Assumes nothing.
use mathlib.Core.Path.{◌≡◌, refl, sym, ap, ap₂, ◌∙◌}
use mathlib.Core.Bool.{Bool, true, false, ◌&&◌, ◌||◌, not, cond, and_assoc, and-true, and-false, or-false}
use mathlib.Core.List.{List, [], ◌∷◌, ◌++◌, reverse_aux, append-nil, append_assoc, reverse_aux-append}
use Prim.Native.Nat.{ℕ, zero, suc, ◌+◌, ◌-◌, ◌≤◌, ◌<◌}
use native.Mathlib.Nat.{lt-suc_self, add-zero, add-suc}
use native.Mathlib.Omega.{arith}
use borrow.Author.Tests.{lt-leb, le-ltb}
use lib.Dec.{eqb, leb, eqb-suc-suc, eqb-zero-suc}
use lib.ListN.{length, take, drop, get_or, length-append, length-drop}
use lib.Seq.{take-suc, get_or-drop}
use Rattle.gf2.specs.Xor.{◌⊕◌}
use Rattle.gf2.specs.Independence.{spanned, free}
use Rattle.finite.specs.Search.{least, within}
use Rattle.gf2.specs.Vectors.{spans, taken_from, free_from, listed, part}
use Rattle.finite.proofs.Search.{least-last}

pub free-none : (vs : List ℕ) → free_from vs [] ≡ true
unfolding free_from taken_from
free-none vs = refl

pub free_more : (vs : List ℕ) (m : ℕ) (ms : List ℕ) → free_from vs (m ∷ ms) ≡ (not (spans vs m) && free_from (m ∷ vs) ms)
unfolding free_from taken_from
free_more vs m ms = go (spans vs m)
  where
    go : (t : Bool) → eqb (cond t 0 (suc (taken_from (m ∷ vs) ms))) (suc (length ms)) ≡ (not t && eqb (taken_from (m ∷ vs) ms) (length ms))
    go true = eqb-zero-suc (length ms)
    go false = eqb-suc-suc (taken_from (m ∷ vs) ms) (length ms)

pub free-append : (ms : List ℕ) (vs ms' : List ℕ) → free_from vs (ms ++ ms') ≡ (free_from vs ms && free_from (reverse_aux ms vs) ms')
free-append [] vs ms' = ap (λ (b : Bool). b && free_from vs ms') (sym (free-none vs))
free-append (m ∷ ms) vs ms' =
    free_more vs m (ms ++ ms') ∙ ap (λ (b : Bool). not (spans vs m) && b) (free-append ms (m ∷ vs) ms')
    ∙ sym (and_assoc (not (spans vs m)) (free_from (m ∷ vs) ms) (free_from (reverse_aux ms (m ∷ vs)) ms'))
    ∙ ap (λ (b : Bool). b && free_from (reverse_aux ms (m ∷ vs)) ms') (sym (free_more vs m ms))

pub taken_none : (vs : List ℕ) → taken_from vs [] ≡ 0
unfolding taken_from
taken_none vs = refl

pub taken_more : (vs : List ℕ) (m : ℕ) (ms : List ℕ) → taken_from vs (m ∷ ms) ≡ cond (spans vs m) 0 (suc (taken_from (m ∷ vs) ms))
unfolding taken_from
taken_more vs m ms = refl

pub taken-append :
    (ms : List ℕ) (vs ms' : List ℕ)
    → taken_from vs (ms ++ ms') ≡ cond (free_from vs ms) (length ms + taken_from (reverse_aux ms vs) ms') (taken_from vs ms)
taken-append [] vs ms' = rw (free-none vs) (omega arith)
taken-append (m ∷ ms) vs ms' = rw (free_more vs m ms, taken_more vs m (ms ++ ms'), taken_more vs m ms) (go (spans vs m) (taken-append ms (m ∷ vs) ms'))
  where
    go : (t : Bool) → taken_from (m ∷ vs) (ms ++ ms') ≡ cond (free_from (m ∷ vs) ms) (length ms + taken_from (reverse_aux ms (m ∷ vs)) ms') (taken_from (m ∷ vs) ms)
        → cond t 0 (suc (taken_from (m ∷ vs) (ms ++ ms')))
        ≡ cond (not t && free_from (m ∷ vs) ms) (suc (length ms) + taken_from (reverse_aux ms (m ∷ vs)) ms') (cond t 0 (suc (taken_from (m ∷ vs) ms)))
    go true ih = refl
    go false ih = ap suc ih ∙ split (free_from (m ∷ vs) ms)
      where
        split : (s : Bool) → suc (cond s (length ms + taken_from (reverse_aux ms (m ∷ vs)) ms') (taken_from (m ∷ vs) ms))
            ≡ cond s (suc (length ms) + taken_from (reverse_aux ms (m ∷ vs)) ms') (suc (taken_from (m ∷ vs) ms))
        split true = omega arith
        split false = refl

pub taken-le : (ms : List ℕ) (vs : List ℕ) → taken_from vs ms ≤ length ms
unfolding taken_from
taken-le [] vs = omega arith
taken-le (m ∷ ms) vs = go (spans vs m) (taken-le ms (m ∷ vs))
  where
    go : (t : Bool) → taken_from (m ∷ vs) ms ≤ length ms → cond t 0 (suc (taken_from (m ∷ vs) ms)) ≤ suc (length ms)
    go true ih = omega arith
    go false ih = omega arith

pub listed-equal :
    (n : ℕ) (member member' : ℕ → Bool) (f f' : ℕ → ℕ) → ((k : ℕ) → k < n → member k ≡ member' k)
    → ((k : ℕ) → k < n → member k ≡ true → f k ≡ f' k) → listed n member f ≡ listed n member' f'
unfolding listed
listed-equal zero member member' f f' hm hf = refl
listed-equal (suc n) member member' f f' hm hf =
    ap₂ ◌++◌ (listed-equal n member member' f f' (λ k l. hm k (omega arith)) (λ k l. hf k (omega arith)))
    (go (member n) (member' n) (hm n (lt-suc_self n)) (hf n (lt-suc_self n)))
  where
    go : (a b : Bool) → a ≡ b → (a ≡ true → f n ≡ f' n) → cond a (f n ∷ []) [] ≡ cond b (f' n ∷ []) []
    go true b e h = rw (← e, h refl)
    go false b e h = rw (← e)

pub listed-none : (member : ℕ → Bool) (f : ℕ → ℕ) → listed 0 member f ≡ []
unfolding listed
listed-none member f = refl

pub listed_in : (n : ℕ) (member : ℕ → Bool) (f : ℕ → ℕ) → member n ≡ true → listed (suc n) member f ≡ listed n member f ++ (f n ∷ [])
unfolding listed
listed_in n member f e = rw e

pub listed-out : (n : ℕ) (member : ℕ → Bool) (f : ℕ → ℕ) → member n ≡ false → listed (suc n) member f ≡ listed n member f
unfolding listed
listed-out n member f e = rw e (append-nil (listed n member f))

skip-add : (a d : ℕ) (member : ℕ → Bool) (f : ℕ → ℕ) → ((k : ℕ) → a ≤ k → k < a + d → member k ≡ false) → listed (a + d) member f ≡ listed a member f
skip-add a zero member f h = rw (add-zero a)
skip-add a (suc d) member f h =
    rw (add-suc a d) (listed-out (a + d) member f (h (a + d) (omega arith) (omega arith)) ∙ skip-add a d member f (λ k l u. h k l (omega arith)))

pub listed-skip :
    (a b : ℕ) (member : ℕ → Bool) (f : ℕ → ℕ) → a ≤ b → ((k : ℕ) → a ≤ k → k < b → member k ≡ false)
    → listed b member f ≡ listed a member f
listed-skip a b member f l h =
    let e : a + (b - a) ≡ b = omega arith in
    ap (λ (n : ℕ). listed n member f) (sym e) ∙ skip-add a (b - a) member f (λ k p q. h k p (omega arith))

run-add :
    (a d : ℕ) (member : ℕ → Bool) (f : ℕ → ℕ) (t : List ℕ) → a + d ≤ length t
    → ((k : ℕ) → a ≤ k → k < a + d → member k ≡ true) → ((k : ℕ) → a ≤ k → k < a + d → f k ≡ get_or t k 0)
    → listed (a + d) member f ≡ listed a member f ++ take d (drop a t)
run-add a zero member f t l h g = rw (add-zero a) (sym (append-nil (listed a member f)))
run-add a (suc d) member f t l h g =
    rw (
      add-suc a d,
      listed_in (a + d) member f (h (a + d) (omega arith) (omega arith)),
      run-add a d member f t (omega arith) (λ k p q. h k p (omega arith)) (λ k p q. g k p (omega arith)),
      take-suc (drop a t) d 0 (omega (arith, length-drop a t)),
      get_or-drop a t d 0,
      g (a + d) (omega arith) (omega arith),
    )
    (append_assoc (listed a member f) (take d (drop a t)) (get_or t (a + d) 0 ∷ []))

pub listed-run :
    (a b : ℕ) (member : ℕ → Bool) (f : ℕ → ℕ) (t : List ℕ) → a ≤ b → b ≤ length t
    → ((k : ℕ) → a ≤ k → k < b → member k ≡ true) → ((k : ℕ) → a ≤ k → k < b → f k ≡ get_or t k 0)
    → listed b member f ≡ listed a member f ++ part a b t
listed-run a b member f t l u h g =
    let e : a + (b - a) ≡ b = omega arith in
    ap (λ (n : ℕ). listed n member f) (sym e) ∙ run-add a (b - a) member f t (omega arith) (λ k p q. h k p (omega arith)) (λ k p q. g k p (omega arith))

pub listed-length : (n : ℕ) (f : ℕ → ℕ) → length (listed n (λ k. true) f) ≡ n
unfolding listed
listed-length zero f = refl
listed-length (suc n) f = length-append (listed n (λ k. true) f) (f n ∷ []) ∙ omega (arith, listed-length n f)

pub spanned-listed : (n : ℕ) (member : ℕ → Bool) (f : ℕ → ℕ) (x : ℕ) → spanned n member f x ≡ spans (reverse_aux (listed n member f) []) x
unfolding spanned spans listed
spanned-listed zero member f x = refl
spanned-listed (suc n) member f x = rw (reverse_aux-append (listed n member f) (cond (member n) (f n ∷ []) []) []) (go (member n) (spanned-listed n member f))
  where
    go : (t : Bool) → ((y : ℕ) → spanned n member f y ≡ spans (reverse_aux (listed n member f) []) y)
        → (spanned n member f x || (t && spanned n member f (x ⊕ f n))) ≡ spans (reverse_aux (cond t (f n ∷ []) []) (reverse_aux (listed n member f) [])) x
    go true ih = ap₂ ◌||◌ (ih x) (ih (x ⊕ f n))
    go false ih = or-false (spanned n member f x) ∙ ih x

pub free-listed : (n : ℕ) (member : ℕ → Bool) (f : ℕ → ℕ) → free n member f ≡ free_from [] (listed n member f)
unfolding free listed
free-listed zero member f = sym (free-none [])
free-listed (suc n) member f = rw (free-append (listed n member f) [] (cond (member n) (f n ∷ []) [])) (go (member n) (free-listed n member f))
  where
    go : (t : Bool) → free n member f ≡ free_from [] (listed n member f)
        → (free n member f && not (t && spanned n member f (f n)))
        ≡ (free_from [] (listed n member f) && free_from (reverse_aux (listed n member f) []) (cond t (f n ∷ []) []))
    go true ih =
        let vs = reverse_aux (listed n member f) [] in
        rw (ih, free_more vs (f n) [], free-none (f n ∷ vs), spanned-listed n member f (f n))
        (ap (λ (b : Bool). free_from [] (listed n member f) && b) (sym (and-true (not (spans vs (f n))))))
    go false ih = rw (ih, free-none (reverse_aux (listed n member f) []))

pub taken-least : (n : ℕ) (f : ℕ → ℕ) → taken_from [] (listed n (λ k. true) f) ≡ least n (λ k. spanned k (λ j. true) f (f k))
taken-least zero f = unfold taken_from listed least in refl
taken-least (suc n) f =
    ap (taken_from []) (listed_in n (λ k. true) f refl) ∙ taken-append (listed n (λ k. true) f) [] (f n ∷ [])
    ∙ rw (taken_more (reverse_aux (listed n (λ k. true) f) []) (f n) [], ← spanned-listed n (λ k. true) f (f n), listed-length n f)
    (last (spanned n (λ k. true) f (f n)) (taken-least n f))
    ∙ sym (least-last n (λ k. spanned k (λ j. true) f (f k)))
  where
    last : (t : Bool) → taken_from [] (listed n (λ k. true) f) ≡ least n (λ k. spanned k (λ j. true) f (f k))
        → cond (free_from [] (listed n (λ k. true) f)) (n + cond t 0 (suc (taken_from (f n ∷ reverse_aux (listed n (λ k. true) f) []) [])))
        (taken_from [] (listed n (λ k. true) f))
        ≡ cond (eqb (least n (λ k. spanned k (λ j. true) f (f k))) n) (cond t n (suc n)) (least n (λ k. spanned k (λ j. true) f (f k)))
    last t ih =
        unfold free_from in
        rw (ih, listed-length n f, taken_none (f n ∷ reverse_aux (listed n (λ k. true) f) []))
        (ap (λ (w : ℕ). cond (eqb (least n (λ k. spanned k (λ j. true) f (f k))) n) w (least n (λ k. spanned k (λ j. true) f (f k)))) (one t))
      where
        one : (t : Bool) → n + cond t 0 1 ≡ cond t n (suc n)
        one true = omega arith
        one false = omega arith

pub run-before : (a m k : ℕ) → k < a → within a m k ≡ false
unfolding within
run-before a m k l = rw (lt-leb a k l)

pub run-after : (a m k : ℕ) → a + m ≤ k → within a m k ≡ false
unfolding within
run-after a m k l = rw (le-ltb k (a + m) l) (and-false (leb a k))

pub free-least : (n : ℕ) (f : ℕ → ℕ) → free n (λ k. true) f ≡ eqb (least n (λ k. spanned k (λ j. true) f (f k))) n
free-least n f = free-listed n (λ k. true) f ∙ (unfold free_from in rw (taken-least n f, listed-length n f))
