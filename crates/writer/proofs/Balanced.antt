-- Turning over check cells brings a sheet up to date with its data.
--
--   turned_none, turned-next, turned-size   no check cell turned over, one more; the number of bytes is kept
--   turned-written   where their joint entries sum to the joint sum of the sheet, it becomes the sheet written from its data
--   filled-written   a sheet that holds the data, with light check cells, becomes the written sheet
--
-- Assumes nothing.
use mathlib.Core.Path.{◌≡◌, refl, sym, ap, ap₂, ◌∙◌}
use mathlib.Core.Bool.{Bool, true, false, xor, ◌&&◌}
use mathlib.Core.List.{List}
use Prim.Native.Nat.{ℕ, zero, suc, ◌+◌, ◌/◌, ◌%◌, ◌≤◌, ◌<◌}
use native.Mathlib.Numerals.{add-one}
use native.Mathlib.Decide.{ℕ_discrete, dec_lt}
use native.Mathlib.Omega.{arith}
use borrow.Author.Tests.{eqb-true, eq-eqb, ne_eqb, lt-ltb, le-ltb}
use lib.Dec.{eqb, ltb}
use lib.ListN.{length}
use Rattle.finite.specs.Search.{bit}
use Rattle.finite.proofs.Truth.{clash, not-true, same_truth, and-true, and-false, xor-none, xor-light, xor-back, xor_assoc, xor_comm, both_equal, equal-both}
use Rattle.gf2.specs.Sum.{chosen_sum}
use Rattle.layout.specs.Stored.{cell_in, FormIn, bytes_in, turned_in}
use Rattle.layout.specs.declared.stored.Layout.{Layout}
use Rattle.layout.proofs.Layouts.{laws, in-equal, in-turned-form, in-turned-cell, in-turned-length}
use Rattle.boxcode.specs.Code.{Code, Formed, cell_number, check_joint}
use Rattle.boxcode.specs.Condition.{Conditions}
use Rattle.boxcode.specs.Syndrome.{Cells, Belongs}
use Rattle.boxcode.specs.Check.{Bits, check_number, check_at, data_size, data_cell, fill, written, data_of}
use Rattle.boxcode.proofs.Check.{number-cell, row_inside, column-inside, check-listed, check-here, data-below, data-free}
use Rattle.boxcode.proofs.Fill.{check_cell, SameData, data-cells, data-fill}
use Rattle.boxcode.proofs.Written.{balanced}
use Rattle.boxcode.proofs.Theorems.{written-only, written_same}
use Rattle.writer.specs.Steps.{JointSum, turned_to}

pub turned_none : (lay : Layout) (c : Code) (y : ℕ) (s : List ℕ) → s ≡ turned_to lay c y 0 s
unfolding turned_to
turned_none lay c y s = refl

pub turned-next : (lay : Layout) (c : Code) (y n : ℕ) (s old new : List ℕ) → old ≡ turned_to lay c y n s
    → new ≡ turned_in (bit y n) lay c.n1 c.n2 old (c.check_row n) (c.check_column n) → new ≡ turned_to lay c y (n + 1) s
turned-next lay c y n s old new e f =
    f ∙ rw (add-one n) (unfold turned_to in ap (λ (l : List ℕ). turned_in (bit y n) lay c.n1 c.n2 l (c.check_row n) (c.check_column n)) e)

pub turned-size : (lay : Layout) (c : Code) (y n : ℕ) (s : List ℕ) → length (turned_to lay c y n s) ≡ length s
unfolding turned_to
turned-size lay c y zero s = refl
turned-size lay c y (suc n) s =
    in-turned-length (bit y n) lay c.n1 c.n2 (turned_to lay c y n s) (c.check_row n) (c.check_column n) ∙ turned-size lay c y n s

-- digit n is added to the digits below n
digit-more : (n j y : ℕ) → xor (ltb j n && bit y j) (bit y n && eqb n j) ≡ (ltb j (suc n) && bit y j)
digit-more n j y = go (ℕ_discrete j n)
  where
    kept : (j ≡ n → ⊥) → Dec (j < n) → ltb j n ≡ ltb j (suc n)
    kept h (yes l) = lt-ltb j n l ∙ sym (lt-ltb j (suc n) (omega arith))
    kept h (no l) = le-ltb j n (omega arith) ∙ sym (le-ltb j (suc n) (omega arith))

    go : Dec (j ≡ n) → xor (ltb j n && bit y j) (bit y n && eqb n j) ≡ (ltb j (suc n) && bit y j)
    go (yes e) =
        rw (le-ltb j n (omega arith), eq-eqb n j (sym e), lt-ltb j (suc n) (omega arith))
        (xor-light (bit y n && true) ∙ and-true (bit y n) ∙ ap (bit y) (sym e))
    go (no h) =
        ap₂ (λ (a b : Bool). xor (a && bit y j) (bit y n && b)) (kept h (dec_lt j n)) (ne_eqb n j (λ e. h (sym e)))
        ∙ ap (xor (ltb j (suc n) && bit y j)) (and-false (bit y n))
        ∙ xor-none (ltb j (suc n) && bit y j)

module _ (lay : Layout) (c : Code) (F : Formed c) where
  -- check cells are one cell where they are one in the list
  same_check : (k j : ℕ) → k < c.rv + c.rh → j < c.rv + c.rh → (eqb (c.check_row k) (c.check_row j) && eqb (c.check_column k) (c.check_column j)) ≡ eqb k j
  same_check k j lk lj =
      same_truth (eqb (c.check_row k) (c.check_row j) && eqb (c.check_column k) (c.check_column j)) (eqb k j)
      (λ t.
      let w = both_equal (c.check_row k) (c.check_column k) (c.check_row j) (c.check_column j) t in
      eq-eqb k j ((check-listed c F).different k j lk lj (unfold check_number in ap₂ (cell_number c) w.0 w.1)))
      (λ t.
      let e : k ≡ j = eqb-true k j t in
      equal-both (c.check_row k) (c.check_column k) (c.check_row j) (c.check_column j) (ap c.check_row e) (ap c.check_column e))

  -- no check cell holds data
  no-data : (k d : ℕ) → k < c.rv + c.rh → d < data_size c
      → (eqb (c.check_row k) (data_cell c d / c.n2) && eqb (c.check_column k) (data_cell c d % c.n2)) ≡ false
  no-data k d lk ld =
      not-true (eqb (c.check_row k) (data_cell c d / c.n2) && eqb (c.check_column k) (data_cell c d % c.n2))
      (λ t.
      let w = both_equal (c.check_row k) (c.check_column k) (data_cell c d / c.n2) (data_cell c d % c.n2) t in
      let e : check_number c k ≡ data_cell c d = unfold check_number in ap₂ (cell_number c) w.0 w.1 ∙ number-cell c (data_cell c d) in
      clash (sym (ap (check_at c) e) ∙ check-here c F k lk) (data-free c F d ld))

  -- the cells of a sheet
  abbrev cells : List ℕ → Cells
  cells s = cell_in lay c.n1 c.n2 s

  -- so the data is kept where a check cell is turned over
  data-kept : (t : Bool) (k : ℕ) (s : List ℕ) → FormIn lay c.n1 c.n2 s → k < c.rv + c.rh
      → SameData c (cells (turned_in t lay c.n1 c.n2 s (c.check_row k) (c.check_column k))) (cells s)
  unfolding data_of
  data-kept t k s f lk d ld =
      let a = data_cell c d / c.n2 in
      let b = data_cell c d % c.n2 in
      let l = data-below c F d ld in
      in-turned-cell lay c.n1 c.n2 s f (c.check_row k) (c.check_column k) (F.check_rows k lk) (F.check_columns k lk) t a b
      (row_inside c (data_cell c d) l) (column-inside c (data_cell c d) l)
      ∙ ap (λ (e : Bool). xor (cells s a b) (t && e)) (no-data k d lk ld)
      ∙ ap (xor (cells s a b)) (and-false t)
      ∙ xor-none (cells s a b)

  -- ---- those of the first n check cells turned over whose digit of y is 1

  -- what is left of the sheet s: its data, and its check cells turned over
  record TurnedAs (y n : ℕ) (s s' : List ℕ) : Type 0 where
    form : FormIn lay c.n1 c.n2 s'
    same : SameData c (cells s') (cells s)
    checks : (k : ℕ) → k < c.rv + c.rh → check_cell c (cells s') k ≡ xor (check_cell c (cells s) k) (ltb k n && bit y k)

  turned_as : (y n : ℕ) (s : List ℕ) → FormIn lay c.n1 c.n2 s → n ≤ c.rv + c.rh → TurnedAs y n s (turned_to lay c y n s)
  unfolding turned_to
  turned_as y zero s f l = record {
    form = f;
    same = λ d ld. refl;
    checks = λ k lk.
        sym (ap (λ (b : Bool). xor (check_cell c (cells s) k) (b && bit y k)) (le-ltb k 0 (omega arith))
        ∙ xor-none (check_cell c (cells s) k));
  }
  turned_as y (suc n) s f l = go (turned_as y n s f (omega arith))
    where
      u : List ℕ
      u = turned_to lay c y n s

      go : TurnedAs y n s u → TurnedAs y (suc n) s (turned_in (bit y n) lay c.n1 c.n2 u (c.check_row n) (c.check_column n))
      go T = record {
        form = in-turned-form lay c.n1 c.n2 u T.form (c.check_row n) (c.check_column n) (F.check_rows n l) (F.check_columns n l) (bit y n);
        same = λ d ld. data-kept (bit y n) n u T.form l d ld ∙ T.same d ld;
        checks = λ k lk.
            in-turned-cell lay c.n1 c.n2 u T.form (c.check_row n) (c.check_column n) (F.check_rows n l) (F.check_columns n l) (bit y n)
            (c.check_row k) (c.check_column k) (F.check_rows k lk) (F.check_columns k lk)
            ∙ ap₂ (λ (a b : Bool). xor a (bit y n && b)) (T.checks k lk) (same_check n k l lk)
            ∙ xor_assoc (check_cell c (cells s) k) (ltb k n && bit y k) (bit y n && eqb n k)
            ∙ ap (xor (check_cell c (cells s) k)) (digit-more n k y);
      }

  -- ---- digits whose check cells sum to the joint sum of the sheet

  module _ (K : Conditions c) where
    pub turned-written : (sum y : ℕ) (s s' : List ℕ) → FormIn lay c.n1 c.n2 s → JointSum c (cells s) sum
        → chosen_sum (c.rv + c.rh) (bit y) (check_joint c) ≡ sum → s' ≡ turned_to lay c y (c.rv + c.rh) s
        → s' ≡ bytes_in lay c.n1 c.n2 (written c (data_of c (cells s)))
    turned-written sum y s s' f J made turn =
        turn
        ∙ (laws lay c.n1 c.n2).same u (bytes_in lay c.n1 c.n2 w) T.form ((laws lay c.n1 c.n2).form w)
        (λ i j li lj.
        written-only c F K (data_of c (cells s)) (cells u) belongs T.same i j li lj ∙ sym ((laws lay c.n1 c.n2).cell w i j li lj))
      where
        u : List ℕ
        u = turned_to lay c y (c.rv + c.rh) s

        w : Cells
        w = written c (data_of c (cells s))

        T : TurnedAs y (c.rv + c.rh) s u
        T = turned_as y (c.rv + c.rh) s f (omega arith)

        turned : (k : ℕ) → k < c.rv + c.rh → xor (check_cell c (cells u) k) (check_cell c (cells s) k) ≡ bit y k
        turned k l =
            ap (λ (b : Bool). xor b (check_cell c (cells s) k))
            (T.checks k l ∙ xor_comm (check_cell c (cells s) k) (ltb k (c.rv + c.rh) && bit y k))
            ∙ xor-back (ltb k (c.rv + c.rh) && bit y k) (check_cell c (cells s) k)
            ∙ ap (λ (b : Bool). b && bit y k) (lt-ltb k (c.rv + c.rh) l)

        belongs : Belongs c (cells u)
        belongs = balanced c F (cells s) (cells u) y T.same turned (made ∙ J.value)

    -- so the sheet that holds the data, with light check cells, becomes the written sheet
    pub filled-written : (x : Bits) (s s' : List ℕ) → s ≡ bytes_in lay c.n1 c.n2 (fill c x 0)
        → s' ≡ bytes_in lay c.n1 c.n2 (written c (data_of c (cells s))) → s' ≡ bytes_in lay c.n1 c.n2 (written c x)
    filled-written x s s' put done =
        done
        ∙ in-equal lay c.n1 c.n2 (written c (data_of c (cells s))) (written c x)
        (written_same c F K (data_of c (cells s)) x
        (λ d l. rw put (data-cells c F (cells (bytes_in lay c.n1 c.n2 (fill c x 0))) (fill c x 0) ((laws lay c.n1 c.n2).cell (fill c x 0)) d l
        ∙ data-fill c F x 0 d l)))
