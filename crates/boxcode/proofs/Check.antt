-- Check cells and data cells, for any code of the right form:
--
--   number-row, number-column, number-on, number-cell    a cell and its number
--   row_inside, column-inside    the cell with a number on the sheet
--   order_below, order-twice     the two laws of the data's order; no other fact of it is used here
--   column-below, order-cell     a row of the order is that row of the sheet: for position, which walks it
--   check-rise, check-listed     the check cells rise in sheet order, and are different cells of the sheet
--   check-row, check-column      a check cell from its number
--   check-here, check-found, check-index   which numbers are check cells, and their places in the list
--   data_at                       a place of the data's order holds data
--   sheet-cells                  a sheet has at most 512 × 698 cells
--   checks-fit, data-count       the check cells are no more than the cells; so many places hold data as data_size says
--   data-below, data-free, data-rank   data bit d stands on the sheet, in no check cell, and is number d
--   rank_below, rank-data        every other cell holds the data bit of its number
--
-- Assumes nothing.
use mathlib.Core.Path.{◌≡◌, refl, sym, ap, ◌∙◌}
use mathlib.Core.Bool.{Bool, true, false, cond, not}
use Prim.Native.Nat.{ℕ, zero, suc, ◌+◌, ◌-◌, ◌*◌, ◌/◌, ◌%◌, ◌≤◌, ◌<◌}
use native.Mathlib.Nat.{div-add-mod', mul-le-mul, mul-zero, mod-lt, div-lt_iff_lt-mul}
use native.Mathlib.Decide.{ℕ_discrete, dec_lt}
use native.Mathlib.Omega.{arith}
use lib.Dec.{eqb}
use lib.Arith.{digits_lt, digits_div, digits_mod}
use borrow.Author.Tests.{eqb-true, eq-eqb, not-true as unnot}
use Rattle.finite.specs.Search.{any_below, count_below, least}
use Rattle.boxcode.specs.Code.{Code, Formed, cell_number}
use Rattle.boxcode.specs.Check.{check_number, check_at, check_index, runs_down, data_column, data_order, data_size, rank, data_cell}
use Rattle.finite.proofs.Truth.{same_truth}
use Rattle.finite.proofs.Search.{any_found, any_here, any-equal, least-found, least-most}
use Rattle.finite.proofs.Count.{count-equal, count-not, count-rise, select, select-count, select-below, select-holds, select-number}
use Rattle.boxcode.proofs.Image.{Listed, count-image}

-- ---- cells and their numbers

module _ (c : Code) (i j : ℕ) (lj : j < c.n2) where
  pub number-row : cell_number c i j / c.n2 ≡ i
  unfolding cell_number
  number-row = digits_div i lj

  pub number-column : cell_number c i j % c.n2 ≡ j
  unfolding cell_number
  number-column = digits_mod i lj

  pub number-on : i < c.n1 → cell_number c i j < c.n1 * c.n2
  unfolding cell_number
  number-on li = digits_lt li lj

pub number-cell : (c : Code) (t : ℕ) → cell_number c (t / c.n2) (t % c.n2) ≡ t
unfolding cell_number
number-cell c t = div-add-mod' t c.n2

-- ---- the order of the data: its rows and its two laws

module _ (c : Code) where
  module _ (i j : ℕ) (l : j < c.n2) where
    pub column-below : data_column c i j < c.n2
    unfolding data_column
    column-below = go (runs_down i)
      where
        go : (b : Bool) → cond b (c.n2 - 1 - j) j < c.n2
        go true = omega arith
        go false = l

    column-twice : data_column c i (data_column c i j) ≡ j
    unfolding data_column
    column-twice = go (runs_down i)
      where
        go : (b : Bool) → cond b (c.n2 - 1 - cond b (c.n2 - 1 - j) j) (cond b (c.n2 - 1 - j) j) ≡ j
        go true = omega arith
        go false = refl

    -- a row of the data's order is that row of the sheet
    pub order-cell : data_order c (cell_number c i j) ≡ cell_number c i (data_column c i j)
    unfolding data_order
    order-cell = rw (number-row c i j l, number-column c i j l)

  module _ (t : ℕ) (l : t < c.n1 * c.n2) where
    wide : 0 < c.n2
    wide = go (dec_lt 0 c.n2)
      where
        go : Dec (0 < c.n2) → 0 < c.n2
        go (yes h) = h
        go (no h) =
            let z : c.n2 ≡ 0 = omega arith in
            let e : c.n1 * c.n2 ≡ 0 = ap (λ (x : ℕ). c.n1 * x) z ∙ mul-zero c.n1 in
            absurd (omega arith)

    -- the cell with number t is on the sheet
    pub row_inside : t / c.n2 < c.n1
    row_inside = (div-lt_iff_lt-mul wide).1 l

    pub column-inside : t % c.n2 < c.n2
    column-inside = mod-lt t wide

    pub order_below : data_order c t < c.n1 * c.n2
    unfolding data_order
    order_below = number-on c (t / c.n2) (data_column c (t / c.n2) (t % c.n2)) (column-below (t / c.n2) (t % c.n2) column-inside) row_inside

    pub order-twice : data_order c (data_order c t) ≡ t
    order-twice =
        let i = t / c.n2 in
        let j = t % c.n2 in
        ap (data_order c) (ap (data_order c) (sym (number-cell c t)) ∙ order-cell i j column-inside)
        ∙ order-cell i (data_column c i j) (column-below i j column-inside)
        ∙ ap (cell_number c i) (column-twice i j column-inside) ∙ number-cell c t

-- for the bounds of document 01
pub sheet-cells : {n1 n2 : ℕ} → n1 ≤ 512 → n2 ≤ 698 → n1 * n2 ≤ 357376
sheet-cells l u = mul-le-mul l u

-- ---- check cells

module _ (c : Code) (F : Formed c) where
  pub check-rise : (k l : ℕ) → k < l → l < c.rv + c.rh → check_number c k < check_number c l
  unfolding check_number
  check-rise k zero h b = absurd (omega arith)
  check-rise k (suc l) h b = go (ℕ_discrete k l) (check-rise k l)
    where
      go : Dec (k ≡ l) → (k < l → l < c.rv + c.rh → check_number c k < check_number c l) → check_number c k < check_number c (suc l)
      go (yes e) ih =
          let up : check_number c l < check_number c (suc l) = F.check_rising l b in
          let q : check_number c k ≡ check_number c l = ap (check_number c) e in
          omega arith
      go (no ne) ih =
          let up : check_number c l < check_number c (suc l) = F.check_rising l b in
          let q : check_number c k < check_number c l = ih (omega arith) (omega arith) in
          omega arith

  pub check-listed : Listed (c.rv + c.rh) (c.n1 * c.n2) (check_number c)
  check-listed = record { below = below; different = different }
    where
      below : (k : ℕ) → k < c.rv + c.rh → check_number c k < c.n1 * c.n2
      below k l = unfold check_number in number-on c (c.check_row k) (c.check_column k) (F.check_columns k l) (F.check_rows k l)

      different : (k l : ℕ) → k < c.rv + c.rh → l < c.rv + c.rh → check_number c k ≡ check_number c l → k ≡ l
      different k l lk ll e = go (dec_lt k l) (dec_lt l k)
        where
          go : Dec (k < l) → Dec (l < k) → k ≡ l
          go (yes h) d = let q : check_number c k < check_number c l = check-rise k l h ll in absurd (omega arith)
          go (no h) (yes g) = let q : check_number c l < check_number c k = check-rise l k g lk in absurd (omega arith)
          go (no h) (no g) = omega arith

  pub check-row : (k : ℕ) → k < c.rv + c.rh → check_number c k / c.n2 ≡ c.check_row k
  unfolding check_number
  check-row k l = number-row c (c.check_row k) (c.check_column k) (F.check_columns k l)

  pub check-column : (k : ℕ) → k < c.rv + c.rh → check_number c k % c.n2 ≡ c.check_column k
  unfolding check_number
  check-column k l = number-column c (c.check_row k) (c.check_column k) (F.check_columns k l)

  pub check-here : (k : ℕ) → k < c.rv + c.rh → check_at c (check_number c k) ≡ true
  unfolding check_at
  check-here k l =
      any_here (c.rv + c.rh) (λ i. eqb (check_number c i) (check_number c k)) k l (eq-eqb (check_number c k) (check_number c k) refl)

  pub check-found : (t : ℕ) → check_at c t ≡ true → (k : ℕ) × (k < c.rv + c.rh) × (check_number c k ≡ t)
  unfolding check_at
  check-found t e =
      let w = any_found (c.rv + c.rh) (λ k. eqb (check_number c k) t) e in
      (w.0, w.1, eqb-true (check_number c w.0) t w.2)

  pub check-index : (k : ℕ) → k < c.rv + c.rh → check_index c (check_number c k) ≡ k
  unfolding check_index
  check-index k l =
      let t = check_number c k in
      let e : eqb t t ≡ true = eq-eqb t t refl in
      let m : least (c.rv + c.rh) (λ i. eqb (check_number c i) t) ≤ k = least-most (c.rv + c.rh) (λ i. eqb (check_number c i) t) k e in
      let b : least (c.rv + c.rh) (λ i. eqb (check_number c i) t) < c.rv + c.rh = omega arith in
      check-listed.different (check_index c t) k b l
      (eqb-true (check_number c (check_index c t)) t (least-found (c.rv + c.rh) (λ i. eqb (check_number c i) t) b))

-- ---- data cells

-- place u of the data's order holds data
unfoldable pub data_at : Code → ℕ → Bool
data_at c u = not (check_at c (data_order c u))

module _ (c : Code) (F : Formed c) where
  order-listed : Listed (c.rv + c.rh) (c.n1 * c.n2) (λ k. data_order c (check_number c k))
  order-listed = record {
    below = λ k l. order_below c (check_number c k) ((check-listed c F).below k l);
    different = λ k l lk ll e.
        (check-listed c F).different k l lk ll
        (sym (order-twice c (check_number c k) ((check-listed c F).below k lk)) ∙ ap (data_order c) e
        ∙ order-twice c (check_number c l) ((check-listed c F).below l ll));
  }

  -- as many places of the data's order hold check cells as there are check cells
  checks-count : count_below (c.n1 * c.n2) (λ u. check_at c (data_order c u)) ≡ c.rv + c.rh
  unfolding check_at
  checks-count =
      count-equal (c.n1 * c.n2) (λ u. check_at c (data_order c u)) (λ u. any_below (c.rv + c.rh) (λ k. eqb (data_order c (check_number c k)) u))
      (λ u lu. any-equal (c.rv + c.rh) (λ k. eqb (check_number c k) (data_order c u)) (λ k. eqb (data_order c (check_number c k)) u)
      (λ k lk.
      same_truth (eqb (check_number c k) (data_order c u)) (eqb (data_order c (check_number c k)) u)
      (λ t. eq-eqb (data_order c (check_number c k)) u (ap (data_order c) (eqb-true (check_number c k) (data_order c u) t) ∙ order-twice c u lu))
      (λ t.
      eq-eqb (check_number c k) (data_order c u)
      (sym (order-twice c (check_number c k) ((check-listed c F).below k lk)) ∙ ap (data_order c) (eqb-true (data_order c (check_number c k)) u t)))))
      ∙ count-image (c.rv + c.rh) (c.n1 * c.n2) (λ k. data_order c (check_number c k)) order-listed

  -- every place holds a check cell or data
  places : c.rv + c.rh + count_below (c.n1 * c.n2) (data_at c) ≡ c.n1 * c.n2
  unfolding data_at
  places =
      ap (λ (x : ℕ). x + count_below (c.n1 * c.n2) (data_at c)) (sym checks-count)
      ∙ count-not (c.n1 * c.n2) (λ u. check_at c (data_order c u))

  pub checks-fit : c.rv + c.rh ≤ c.n1 * c.n2
  checks-fit = omega (arith, places)

  pub data-count : count_below (c.n1 * c.n2) (data_at c) ≡ data_size c
  unfolding data_size
  data-count = omega (arith, places)

  -- data_cell and rank, over the places that hold data
  cell-is : (d : ℕ) → data_cell c d ≡ data_order c (select (c.n1 * c.n2) (data_at c) d)
  unfolding data_cell select data_at rank
  cell-is d = refl

  rank_is : (u : ℕ) → rank c u ≡ count_below u (data_at c)
  unfolding rank data_at
  rank_is u = refl

  module _ (d : ℕ) (l : d < data_size c) where
    counted : d < count_below (c.n1 * c.n2) (data_at c)
    counted = let e : count_below (c.n1 * c.n2) (data_at c) ≡ data_size c = data-count in omega arith

    place-below : select (c.n1 * c.n2) (data_at c) d < c.n1 * c.n2
    place-below = select-below (c.n1 * c.n2) (data_at c) d counted

    pub data-below : data_cell c d < c.n1 * c.n2
    data-below = rw (cell-is d) (order_below c (select (c.n1 * c.n2) (data_at c) d) place-below)

    pub data-free : check_at c (data_cell c d) ≡ false
    unfolding data_at
    data-free =
        ap (check_at c) (cell-is d)
        ∙ unnot (check_at c (data_order c (select (c.n1 * c.n2) (data_at c) d))) (select-holds (c.n1 * c.n2) (data_at c) d counted)

    pub data-rank : rank c (data_order c (data_cell c d)) ≡ d
    data-rank =
        ap (λ (t : ℕ). rank c (data_order c t)) (cell-is d)
        ∙ ap (rank c) (order-twice c (select (c.n1 * c.n2) (data_at c) d) place-below)
        ∙ rank_is (select (c.n1 * c.n2) (data_at c) d)
        ∙ select-number (c.n1 * c.n2) (data_at c) d counted

  module _ (t : ℕ) (l : t < c.n1 * c.n2) (free : check_at c t ≡ false) where
    holds : data_at c (data_order c t) ≡ true
    unfolding data_at
    holds = ap not (ap (check_at c) (order-twice c t l) ∙ free)

    pub rank_below : rank c (data_order c t) < data_size c
    rank_below =
        let r : count_below (data_order c t) (data_at c) < count_below (c.n1 * c.n2) (data_at c) =
        count-rise (data_order c t) (c.n1 * c.n2) (data_at c) holds (order_below c t l) in
        let e : count_below (c.n1 * c.n2) (data_at c) ≡ data_size c = data-count in
        let f : rank c (data_order c t) ≡ count_below (data_order c t) (data_at c) = rank_is (data_order c t) in
        omega arith

    pub rank-data : data_cell c (rank c (data_order c t)) ≡ t
    rank-data =
        ap (data_cell c) (rank_is (data_order c t))
        ∙ cell-is (count_below (data_order c t) (data_at c))
        ∙ ap (data_order c) (select-count (c.n1 * c.n2) (data_at c) (data_order c t) (order_below c t l) holds)
        ∙ order-twice c t l
