-- What the header of a stack tells:
--
--   no-count, too_many, other_length   what breaks the rules, before the header's entries are asked
--   entries-decide                     and where none of these does, the entries decide
--   Whole, whole, whole-passes         a stack that breaks no rule, by what each says; and the other way round
--   same_count, same-room, same-offset, same-broken
--                                      two strings with the same header tell the same, and, of one length, break the rules or don't alike
--
-- Assumes nothing.
use mathlib.Core.Path.{◌≡◌, refl, sym, ap, ap₂, ◌∙◌}
use mathlib.Core.Bool.{Bool, true, false, not, ◌||◌}
use mathlib.Core.List.{List}
use Prim.Native.Nat.{ℕ, ◌+◌, ◌*◌, ◌≤◌, ◌<◌}
use native.Mathlib.Omega.{arith}
use borrow.Author.Tests.{ltb-false, eqb-true, not-false, lt-ltb, le-ltb, eq-eqb, ne_eqb}
use lib.Dec.{eqb, ltb}
use lib.ListN.{length, get_or, take}
use lib.Seq.{get_or-take}
use Rattle.finite.specs.Search.{any_below}
use Rattle.finite.proofs.Search.{any_none, none_any, any-equal}
use Rattle.finite.proofs.Truth.{or_left, or_right, or-false}
use Rattle.layout.specs.Number.{u16_at, u32_at}
use Rattle.stackform.specs.Stack.{sheet_count, room_of, offset_of, header_end, sheet_place, entry_broken, stack_broken}

-- the four tests, of a string so long with so many sheets, of which some entry breaks the rules or none
abbrev tests : (size long n : ℕ) → Bool → Bool
tests size long n b = ltb long 2 || (ltb 64 n || (not (eqb long (sheet_place size n n)) || b))

module _ (size : ℕ) (s : List ℕ) where
  abbrev entries : Bool
  entries = any_below (sheet_count s) (entry_broken size (sheet_count s) s)

  as-tests : (n : ℕ) → n ≡ sheet_count s → stack_broken size s ≡ tests size (length s) n entries
  unfolding stack_broken
  as-tests n e = ap (λ (k : ℕ). tests size (length s) k entries) (sym e)

  pub no-count : length s < 2 → true ≡ stack_broken size s
  unfolding stack_broken
  no-count l = rw (lt-ltb (length s) 2 l)

  pub too_many : (n : ℕ) → n ≡ sheet_count s → 64 < n → true ≡ stack_broken size s
  too_many n e l =
      sym
      (as-tests n e
      ∙ or_right (ltb (length s) 2) (ltb 64 n || (not (eqb (length s) (sheet_place size n n)) || entries))
      (or_left (ltb 64 n) (not (eqb (length s) (sheet_place size n n)) || entries) (lt-ltb 64 n l)))

  pub other_length : (n : ℕ) → n ≡ sheet_count s → (p : ℕ) → p ≡ sheet_place size n n → (length s ≡ p → ⊥) → true ≡ stack_broken size s
  other_length n e p f h =
      sym
      (as-tests n e
      ∙ or_right (ltb (length s) 2) (ltb 64 n || (not (eqb (length s) (sheet_place size n n)) || entries))
      (or_right (ltb 64 n) (not (eqb (length s) (sheet_place size n n)) || entries)
      (or_left (not (eqb (length s) (sheet_place size n n))) entries
      (ap not (ne_eqb (length s) (sheet_place size n n) (λ q. h (q ∙ sym f)))))))

  pub entries-decide : (n : ℕ) → n ≡ sheet_count s → 2 ≤ length s → n ≤ 64 → length s ≡ sheet_place size n n
      → any_below n (entry_broken size n s) ≡ stack_broken size s
  entries-decide n e l m q =
      ap (λ (k : ℕ). any_below k (entry_broken size k s)) e
      ∙ sym (as-tests n e ∙ rw (le-ltb (length s) 2 l, le-ltb 64 n m, eq-eqb (length s) (sheet_place size n n) q))

-- ---- a stack that breaks no rule

pub record Whole (size : ℕ) (s : List ℕ) : Type 0 where
  pub counted : 2 ≤ length s
  pub most : sheet_count s ≤ 64
  pub long : length s ≡ sheet_place size (sheet_count s) (sheet_count s)
  pub rooms : (i : ℕ) → i < sheet_count s → room_of s i ≤ 1
  pub offsets : (i : ℕ) → i < sheet_count s → offset_of s i ≡ sheet_place size (sheet_count s) i

module _ (size : ℕ) (s : List ℕ) where
  whole-entry : (n i : ℕ) → entry_broken size n s i ≡ false → (room_of s i ≤ 1) × (offset_of s i ≡ sheet_place size n i)
  unfolding entry_broken
  whole-entry n i e =
      let p = sheet_place size n i in
      let a = or-false (ltb 1 (room_of s i)) (not (eqb (offset_of s i) p)) e in
      (ltb-false 1 (room_of s i) a.0, eqb-true (offset_of s i) p (not-false (eqb (offset_of s i) p) a.1))

  pub whole : stack_broken size s ≡ false → Whole size s
  unfolding stack_broken
  whole e =
      let n = sheet_count s in
      let p = sheet_place size n n in
      let a = or-false (ltb (length s) 2) (ltb 64 n || (not (eqb (length s) p) || entries size s)) e in
      let b = or-false (ltb 64 n) (not (eqb (length s) p) || entries size s) a.1 in
      let c = or-false (not (eqb (length s) p)) (entries size s) b.1 in
      record {
        counted = ltb-false (length s) 2 a.0;
        most = ltb-false 64 n b.0;
        long = eqb-true (length s) p (not-false (eqb (length s) p) c.0);
        rooms = λ i l. (whole-entry n i (any_none n (entry_broken size n s) c.1 i l)).0;
        offsets = λ i l. (whole-entry n i (any_none n (entry_broken size n s) c.1 i l)).1;
      }

  pub whole-passes : Whole size s → stack_broken size s ≡ false
  unfolding entry_broken
  whole-passes W =
      let n = sheet_count s in
      sym (entries-decide size s n refl W.counted W.most W.long)
      ∙ none_any n (entry_broken size n s)
      (λ i l.
      ap₂ ◌||◌ (le-ltb 1 (room_of s i) (W.rooms i l)) (ap not (eq-eqb (offset_of s i) (sheet_place size n i) (W.offsets i l))))

-- ---- two strings with one header

module _ (s t : List ℕ) (same : take (header_end (sheet_count s)) s ≡ take (header_end (sheet_count s)) t) where
  same_byte : (k : ℕ) → k < header_end (sheet_count s) → get_or s k 0 ≡ get_or t k 0
  same_byte k l =
      let h = header_end (sheet_count s) in
      sym (get_or-take h s k 0 l) ∙ ap (λ (x : List ℕ). get_or x k 0) same ∙ get_or-take h t k 0 l

  same-two : (o : ℕ) → o + 1 < header_end (sheet_count s) → u16_at s o ≡ u16_at t o
  unfolding u16_at
  same-two o l = ap₂ (λ (x y : ℕ). x + 256 * y) (same_byte o (omega arith)) (same_byte (o + 1) l)

  pub same_count : sheet_count s ≡ sheet_count t
  unfolding sheet_count header_end
  same_count = same-two 0 (omega arith)

  pub same-room : (i : ℕ) → i < sheet_count s → room_of s i ≡ room_of t i
  unfolding room_of header_end
  same-room i l = same-two (2 + 6 * i) (omega arith)

  pub same-offset : (i : ℕ) → i < sheet_count s → offset_of s i ≡ offset_of t i
  unfolding offset_of header_end u32_at
  same-offset i l = ap₂ (λ (x y : ℕ). x + 65536 * y) (same-two (4 + 6 * i) (omega arith)) (same-two (4 + 6 * i + 2) (omega arith))

  same-entry : (size n i : ℕ) → i < sheet_count s → entry_broken size n s i ≡ entry_broken size n t i
  unfolding entry_broken
  same-entry size n i l = ap₂ (λ (r o : ℕ). ltb 1 r || not (eqb o (sheet_place size n i))) (same-room i l) (same-offset i l)

  pub same-broken : length s ≡ length t → (size : ℕ) → stack_broken size s ≡ stack_broken size t
  same-broken e size =
      let m = sheet_count s in
      as-tests size s m refl
      ∙ ap₂ (λ (k : ℕ) (b : Bool). tests size k m b) e (any-equal m (entry_broken size m s) (entry_broken size m t) (same-entry size m))
      ∙ ap (λ (k : ℕ). tests size (length t) m (any_below k (entry_broken size k t))) same_count
      ∙ sym (as-tests size t m same_count)
