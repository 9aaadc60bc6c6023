-- What is put and taken, in sheet order:
--
--   shown u f t     of the cells f those whose number u is below t, and no others
--   shown-first, shown-next, shown-past, shown-all
--                   none; one cell more; numbers at which all is light passed over; all
--   put_to c x t    the first t cells of the filled sheet, and no others
--   taken_to c s t  the data that stands in the first t cells, and no other
--   put_first, put_next, put-checks, put-run, put_step, put_all
--                   nothing is put; a data cell more; check cells passed over; a run more; up to the cursor's next stand; the filled sheet
--   take-first, take_next, take-checks, take-run, take_step, take_all
--                   the same of the data
--
-- Assumes nothing.
use mathlib.Core.Path.{◌≡◌, refl, sym, ap, ap₂, ◌∙◌}
use mathlib.Core.Bool.{Bool, true, false, cond, xor, ◌&&◌}
use mathlib.Core.List.{List}
use Prim.Native.Nat.{ℕ, zero, suc, ◌+◌, ◌*◌, ◌/◌, ◌%◌, ◌≤◌, ◌<◌}
use native.Mathlib.Numerals.{add-one}
use native.Mathlib.Nat.{add-zero, add-suc}
use native.Mathlib.Decide.{ℕ_discrete, dec_lt}
use native.Mathlib.Omega.{arith}
use borrow.Author.Tests.{eqb-true, eq-eqb, lt-ltb, le-ltb}
use lib.Dec.{eqb, ltb}
use lib.ListN.{replicate}
use Rattle.finite.specs.Search.{bit}
use Rattle.finite.proofs.Truth.{xor-none, xor-light, and_left, and_right, and-true, and-false, not-true, clash}
use Rattle.layout.specs.Cells.{sheet_bytes, cell_of, bytes_of, turned_if}
use Rattle.layout.specs.Stored.{size_in, cell_in, bytes_in, turned_in}
use Rattle.layout.specs.declared.stored.Layout.{Layout}
use Rattle.layout.specs.declared.stored.Layout.TheVariants.{ByRow}
use Rattle.finite.proofs.Digits.{bit-none}
use Rattle.layout.proofs.Layouts.{in-equal, in-zeros, in-turned-bytes}
use Rattle.boxcode.specs.Code.{Code, Formed, cell_number}
use Rattle.boxcode.specs.Syndrome.{Cells}
use Rattle.boxcode.specs.Check.{Bits, check_at, check_index, data_order, data_size, rank, data_cell, fill, data_of}
use Rattle.boxcode.proofs.Check.{number-row, number-column, number-on, data-below, data-free, data-rank, rank-data, rank_below}
use Rattle.position.specs.declared.cursor.Cursor.{Cursor}
use Rattle.position.specs.Walk.{run_length, bit_at, At, Stepped}
use Rattle.position.proofs.Stand.{run-column, run-free, run-bit}
use Rattle.payload.specs.Transfer.{put_run, take_run}

-- ---- cells by their numbers

unfoldable pub shown : (ℕ → ℕ → ℕ) → Cells → ℕ → Cells
shown u f t i j = ltb (u i j) t && f i j

module _ (lay : Layout) (n m : ℕ) (u : ℕ → ℕ → ℕ) (f : Cells) where
  shown-first : replicate (size_in lay n m) 0 ≡ bytes_in lay n m (shown u f 0)
  unfolding shown
  shown-first = in-zeros lay n m (shown u f 0) (λ i j li lj. ap (λ (b : Bool). b && f i j) (le-ltb (u i j) 0 (omega arith)))

  shown-all : (t : ℕ) → ((i j : ℕ) → i < n → j < m → u i j < t) → bytes_in lay n m (shown u f t) ≡ bytes_in lay n m f
  unfolding shown
  shown-all t h = in-equal lay n m (shown u f t) f (λ i j li lj. ap (λ (b : Bool). b && f i j) (lt-ltb (u i j) t (h i j li lj)))

  shown-past : (s t : ℕ) → s ≤ t → ((i j : ℕ) → i < n → j < m → s ≤ u i j → u i j < t → f i j ≡ false)
      → bytes_in lay n m (shown u f s) ≡ bytes_in lay n m (shown u f t)
  unfolding shown
  shown-past s t l light =
      in-equal lay n m (shown u f s) (shown u f t) (λ i j li lj. go (u i j) (f i j) (light i j li lj) (dec_lt (u i j) s) (dec_lt (u i j) t))
    where
      go : (v : ℕ) (b : Bool) → (s ≤ v → v < t → b ≡ false) → Dec (v < s) → Dec (v < t) → (ltb v s && b) ≡ (ltb v t && b)
      go v b e (yes h) d = ap (λ (a : Bool). a && b) (lt-ltb v s h ∙ sym (lt-ltb v t (omega arith)))
      go v b e (no h) (yes g) = ap (λ (a : Bool). a && b) (le-ltb v s (omega arith)) ∙ sym (ap₂ ◌&&◌ (lt-ltb v t g) (e (omega arith) g))
      go v b e (no h) (no g) = ap (λ (a : Bool). a && b) (le-ltb v s (omega arith) ∙ sym (le-ltb v t (omega arith)))

  -- cell (i, j) and no other has number t
  shown-next : (i j t : ℕ) → i < n → j < m → u i j ≡ t → ((a b : ℕ) → a < n → b < m → u a b ≡ t → (i ≡ a) × (j ≡ b))
      → turned_in (f i j) lay n m (bytes_in lay n m (shown u f t)) i j ≡ bytes_in lay n m (shown u f (t + 1))
  unfolding shown
  shown-next i j t li lj here only =
      in-turned-bytes lay n m (f i j) (shown u f t) (shown u f (t + 1)) i j li lj (λ a b la lb. go a b la lb (ℕ_discrete (u a b) t))
    where
      other : (v : ℕ) → (v ≡ t → ⊥) → Dec (v < t) → ltb v t ≡ ltb v (t + 1)
      other v h (yes l) = lt-ltb v t l ∙ sym (lt-ltb v (t + 1) (omega arith))
      other v h (no l) = le-ltb v t (omega arith) ∙ sym (le-ltb v (t + 1) (omega arith))

      go : (a b : ℕ) → a < n → b < m → Dec (u a b ≡ t) → xor (ltb (u a b) t && f a b) (f i j && (eqb i a && eqb j b)) ≡ (ltb (u a b) (t + 1) && f a b)
      go a b la lb (yes q) =
          let w = only a b la lb q in
          ap₂ (λ (x y : Bool). xor (x && f a b) (f i j && y)) (le-ltb (u a b) t (omega arith)) (ap₂ ◌&&◌ (eq-eqb i a w.0) (eq-eqb j b w.1))
          ∙ xor-light (f i j && true) ∙ and-true (f i j) ∙ ap₂ f w.0 w.1
          ∙ ap (λ (x : Bool). x && f a b) (sym (lt-ltb (u a b) (t + 1) (omega arith)))
      go a b la lb (no h) =
          ap₂ (λ (x y : Bool). xor (x && f a b) (f i j && y)) (other (u a b) h (dec_lt (u a b) t))
          (not-true (eqb i a && eqb j b)
          (λ e.
          h
          (sym (ap₂ u (eqb-true i a (and_left (eqb i a) (eqb j b) e)) (eqb-true j b (and_right (eqb i a) (eqb j b) e))) ∙ here)))
          ∙ ap (xor (ltb (u a b) (t + 1) && f a b)) (and-false (f i j))
          ∙ xor-none (ltb (u a b) (t + 1) && f a b)

-- ---- putting and taking

abbrev pub put_to : Code → Bits → ℕ → Cells
put_to c x t = shown (cell_number c) (fill c x 0) t

abbrev pub taken_to : Code → Cells → ℕ → Cells
taken_to c s t = shown (λ i d. data_cell c d) (λ i d. data_of c s d) t

module _ (lay : Layout) (c : Code) (x : Bits) where
  pub put_first : replicate (size_in lay c.n1 c.n2) 0 ≡ bytes_in lay c.n1 c.n2 (put_to c x 0)
  put_first = shown-first lay c.n1 c.n2 (cell_number c) (fill c x 0)

  -- check cells are light
  put-checks : (t u : ℕ) → t ≤ u → ((v : ℕ) → t ≤ v → v < u → check_at c v ≡ true)
      → bytes_in lay c.n1 c.n2 (put_to c x t) ≡ bytes_in lay c.n1 c.n2 (put_to c x u)
  unfolding fill
  put-checks t u l checks =
      shown-past lay c.n1 c.n2 (cell_number c) (fill c x 0) t u l
      (λ i j li lj a b.
      ap (λ (d : Bool). cond d (bit 0 (check_index c (cell_number c i j))) (x (rank c (data_order c (cell_number c i j))))) (checks (cell_number c i j) a b)
      ∙ bit-none (check_index c (cell_number c i j)))

  pub put_all : (t : ℕ) → c.n1 * c.n2 ≤ t → bytes_in lay c.n1 c.n2 (put_to c x t) ≡ bytes_in lay c.n1 c.n2 (fill c x 0)
  put_all t e =
      shown-all lay c.n1 c.n2 (cell_number c) (fill c x 0) t
      (λ i j li lj. let l : cell_number c i j < c.n1 * c.n2 = number-on c i j lj li in omega arith)

module _ (c : Code) (F : Formed c) (s : Cells) where
  pub take-first : replicate (sheet_bytes 1 (data_size c)) 0 ≡ bytes_of 1 (data_size c) (taken_to c s 0)
  take-first = shown-first ByRow 1 (data_size c) (λ i d. data_cell c d) (λ i d. data_of c s d)

  -- no data stands in a check cell
  take-checks : (t u : ℕ) → t ≤ u → ((v : ℕ) → t ≤ v → v < u → check_at c v ≡ true)
      → bytes_of 1 (data_size c) (taken_to c s t) ≡ bytes_of 1 (data_size c) (taken_to c s u)
  take-checks t u l checks =
      shown-past ByRow 1 (data_size c) (λ i d. data_cell c d) (λ i d. data_of c s d) t u l
      (λ i d li ld a b. clash (checks (data_cell c d) a b) (data-free c F d ld))

  pub take_all : (t : ℕ) → c.n1 * c.n2 ≤ t → bytes_of 1 (data_size c) (taken_to c s t) ≡ bytes_of 1 (data_size c) (λ i d. data_of c s d)
  take_all t e =
      shown-all ByRow 1 (data_size c) (λ i d. data_cell c d) (λ i d. data_of c s d) t
      (λ i d li ld. let l : data_cell c d < c.n1 * c.n2 = data-below c F d ld in omega arith)

-- cell (i, j) is a data cell with the number t, and d is the number of its data bit
module _ (c : Code) (i j t d : ℕ) (li : i < c.n1) (lj : j < c.n2) (number : i * c.n2 + j ≡ t) (free : check_at c t ≡ false)
    (bit_is : d ≡ rank c (data_order c t)) where
  put_next : (lay : Layout) (x : Bits)
      → turned_in (x d) lay c.n1 c.n2 (bytes_in lay c.n1 c.n2 (put_to c x t)) i j ≡ bytes_in lay c.n1 c.n2 (put_to c x (t + 1))
  unfolding fill cell_number
  put_next lay x =
      ap (λ (b : Bool). turned_in b lay c.n1 c.n2 (bytes_in lay c.n1 c.n2 (put_to c x t)) i j) (sym filled)
      ∙ shown-next lay c.n1 c.n2 (cell_number c) (fill c x 0) i j t li lj number only
    where
      filled : fill c x 0 i j ≡ x d
      filled =
          ap (λ (t : ℕ). cond (check_at c t) (bit 0 (check_index c t)) (x (rank c (data_order c t)))) number
          ∙ ap (λ (b : Bool). cond b (bit 0 (check_index c t)) (x (rank c (data_order c t)))) free ∙ ap x (sym bit_is)

      only : (a b : ℕ) → a < c.n1 → b < c.n2 → cell_number c a b ≡ t → (i ≡ a) × (j ≡ b)
      only a b la lb e =
          let m : cell_number c i j ≡ cell_number c a b = number ∙ sym e in (
            sym (number-row c i j lj) ∙ ap (λ (t : ℕ). t / c.n2) m ∙ number-row c a b lb,
            sym (number-column c i j lj) ∙ ap (λ (t : ℕ). t % c.n2) m ∙ number-column c a b lb,
          )

  take_next : (F : Formed c) (s : Cells)
      → turned_if (s i j) (data_size c) (bytes_of 1 (data_size c) (taken_to c s t)) 0 d ≡ bytes_of 1 (data_size c) (taken_to c s (t + 1))
  unfolding data_of cell_number
  take_next F s =
      ap (λ (b : Bool). turned_if b (data_size c) (bytes_of 1 (data_size c) (taken_to c s t)) 0 d) (sym held)
      ∙ shown-next ByRow 1 (data_size c) (λ i d. data_cell c d) (λ i d. data_of c s d) 0 d t (omega arith) (rw bit_is (rank_below c F t on free)) there only
    where
      on : t < c.n1 * c.n2
      on = let m : cell_number c i j < c.n1 * c.n2 = number-on c i j lj li in omega arith

      there : data_cell c d ≡ t
      there = ap (data_cell c) bit_is ∙ rank-data c F t on free

      held : data_of c s d ≡ s i j
      held =
          let m : data_cell c d ≡ cell_number c i j = there ∙ sym number in
          ap₂ s (ap (λ (t : ℕ). t / c.n2) m ∙ number-row c i j lj) (ap (λ (t : ℕ). t % c.n2) m ∙ number-column c i j lj)

      only : (a e : ℕ) → a < 1 → e < data_size c → data_cell c e ≡ t → (0 ≡ a) × (d ≡ e)
      only a e la le q = (omega arith, bit_is ∙ ap (λ (t : ℕ). rank c (data_order c t)) (sym q) ∙ data-rank c F e le)

-- ---- a run

module _ (c : Code) (F : Formed c) (r : Cursor) (A : At c r) (l : r.row < c.n1) where
  next-number : (j : ℕ) → r.cell + j + 1 ≡ r.cell + suc j
  next-number j = add-one (r.cell + j) ∙ sym (add-suc r.cell j)

  put-run : (lay : Layout) (x : Bits) (k : ℕ) (bits sheet : List ℕ) → ((d : ℕ) → cell_of k bits 0 d ≡ x d)
      → sheet ≡ bytes_in lay c.n1 c.n2 (put_to c x r.cell)
      → (j : ℕ) → j ≤ run_length c.n2 r → put_run j k bits lay c.n1 c.n2 sheet r ≡ bytes_in lay c.n1 c.n2 (put_to c x (r.cell + j))
  unfolding put_run
  put-run lay x k bits sheet ex e zero b = e ∙ ap (λ (t : ℕ). bytes_in lay c.n1 c.n2 (put_to c x t)) (sym (add-zero r.cell))
  put-run lay x k bits sheet ex e (suc j) b =
      let w = run-column c F r A l in
      ap₂ (λ (d : Bool) (s : List ℕ). turned_in d lay c.n1 c.n2 s r.row (r.column + j)) (ex (bit_at r j))
      (put-run lay x k bits sheet ex e j (omega arith))
      ∙ put_next c r.row (r.column + j) (r.cell + j) (bit_at r j) l (omega arith) (omega (arith, A.number)) (run-free c F r A l j (omega arith))
      (run-bit c F r A l j (omega arith)) lay x
      ∙ ap (λ (t : ℕ). bytes_in lay c.n1 c.n2 (put_to c x t)) (next-number j)

  take-run : (lay : Layout) (s : Cells) (sheet bits : List ℕ) → ((i j : ℕ) → cell_in lay c.n1 c.n2 sheet i j ≡ s i j)
      → bits ≡ bytes_of 1 (data_size c) (taken_to c s r.cell)
      → (j : ℕ) → j ≤ run_length c.n2 r → take_run j lay c.n1 c.n2 sheet (data_size c) bits r ≡ bytes_of 1 (data_size c) (taken_to c s (r.cell + j))
  unfolding take_run
  take-run lay s sheet bits es e zero b = e ∙ ap (λ (t : ℕ). bytes_of 1 (data_size c) (taken_to c s t)) (sym (add-zero r.cell))
  take-run lay s sheet bits es e (suc j) b =
      let w = run-column c F r A l in
      ap₂ (λ (d : Bool) (b : List ℕ). turned_if d (data_size c) b 0 (bit_at r j)) (es r.row (r.column + j)) (take-run lay s sheet bits es e j (omega arith))
      ∙ take_next c r.row (r.column + j) (r.cell + j) (bit_at r j) l (omega arith) (omega (arith, A.number)) (run-free c F r A l j (omega arith))
      (run-bit c F r A l j (omega arith)) F s
      ∙ ap (λ (t : ℕ). bytes_of 1 (data_size c) (taken_to c s t)) (next-number j)

  -- to the cursor's next stand, of the bytes that the code holds
  module _ (r' : Cursor) (S : Stepped c r r') (k n2 len : ℕ) (ek : k ≡ data_size c) (en : n2 ≡ c.n2) (el : len ≡ run_length c.n2 r) where
    pub put_step : (lay : Layout) (bits old new : List ℕ) → old ≡ bytes_in lay c.n1 c.n2 (put_to c (λ d. cell_of (data_size c) bits 0 d) r.cell)
        → new ≡ put_run len k bits lay c.n1 n2 old r → new ≡ bytes_in lay c.n1 c.n2 (put_to c (λ d. cell_of (data_size c) bits 0 d) r'.cell)
    put_step lay bits old new eo e =
        e ∙ rw (en, el) (put-run lay (λ d. cell_of (data_size c) bits 0 d) k bits old (λ d. rw ek) eo (run_length c.n2 r) (omega arith))
        ∙ put-checks lay c (λ d. cell_of (data_size c) bits 0 d) (r.cell + run_length c.n2 r) r'.cell S.past S.checks

    pub take_step : (lay : Layout) (sheet old new : List ℕ) → old ≡ bytes_of 1 (data_size c) (taken_to c (cell_in lay c.n1 c.n2 sheet) r.cell)
        → new ≡ take_run len lay c.n1 n2 sheet k old r → new ≡ bytes_of 1 (data_size c) (taken_to c (cell_in lay c.n1 c.n2 sheet) r'.cell)
    take_step lay sheet old new eo e =
        e ∙ rw (en, el, ek) (take-run lay (cell_in lay c.n1 c.n2 sheet) sheet old (λ i j. refl) eo (run_length c.n2 r) (omega arith))
        ∙ take-checks c F (cell_in lay c.n1 c.n2 sheet) (r.cell + run_length c.n2 r) r'.cell S.past S.checks
