-- Where a cursor stands, its run, and its step:
--
--   at-begin, past_end        the cursor at the first cell, and past the last row
--   at_most, at_ahead         its cell is no further than the end of the sheet, nor than the next check cell
--   run-column, run-next      the run ends where the row ends, or earlier, and at the next check cell, or earlier
--   run-place                 the data cells before a cell of the run
--   run-free, run-bit         a cell of the run is no check cell, and its data bit is the one that bit_at tells
--   run_room, run_on, run-below   the bit is one of the row's, the cell one of the sheet's, the bit one of the data's
--   past-most, place-most                 past the run one is still on the sheet
--   row-start, row-checks, step_row       past the run, where the row ends
--   at_next, check-left, step-check       past the run, where the row goes on: the run ends at a check cell
--
-- Assumes nothing.
use mathlib.Core.Path.{◌≡◌, refl, sym, ap, ◌∙◌}
use mathlib.Core.Bool.{Bool, true, false, cond, not}
use Prim.Native.Nat.{ℕ, ◌+◌, ◌-◌, ◌*◌, ◌≤◌, ◌<◌}
use native.Mathlib.Nat.{mul-le-mul_right, zero-mul}
use native.Mathlib.Omega.{arith}
use Rattle.finite.specs.Search.{count_below}
use Rattle.finite.proofs.Count.{count-rise}
use Rattle.boxcode.specs.Code.{Code, Formed}
use Rattle.boxcode.specs.Check.{check_at, runs_down, data_order, data_size, rank}
use Rattle.boxcode.proofs.Check.{rank_below}
use Rattle.position.specs.declared.cursor.Cursor.{Cursor}
use Rattle.position.specs.Walk.{checks_before, data_before, next_check, row_ends, run_length, data_bit, bit_at, At, Stepped}
use Rattle.position.proofs.Size.{rows_next}
use Rattle.position.proofs.Before.{both-before, next-ahead, next-kept, next-free, next-left, next-check, next-passed}
use Rattle.position.proofs.Order.{rank_up, rank_down}

pub at-begin : (c : Code) (next ends : ℕ) → next ≡ next_check c 0 → ends ≡ row_ends c 0
    → At c (record { cell = 0; row = 0; column = 0; place = 0; check = 0; next = next; ends = ends })
unfolding checks_before data_before count_below
at-begin c next ends en ee = record {
  row_most = omega arith;
  column_most = omega arith;
  number = let z : 0 * c.n2 ≡ 0 = zero-mul c.n2 in omega arith;
  place_is = refl;
  check_is = refl;
  next_is = en;
  ends_is = ee;
}

-- past the last row no cell is left
pub past_end : (c : Code) (r : Cursor) → At c r → c.n1 ≤ r.row → c.n1 * c.n2 ≤ r.cell
past_end c r A l = let m : c.n1 * c.n2 ≤ r.row * c.n2 = mul-le-mul_right c.n2 l in omega (arith, A.number)

module _ (c : Code) (F : Formed c) (r : Cursor) (A : At c r) (l : r.row < c.n1) where
  row-cells : (r.row + 1) * c.n2 ≤ c.n1 * c.n2
  row-cells = mul-le-mul_right c.n2 (omega arith)

  pub at_most : r.cell ≤ c.n1 * c.n2
  at_most = let m = row-cells in let n = rows_next r.row c.n2 in omega (arith, A.number, A.column_most)

  pub at_ahead : r.cell ≤ r.next
  at_ahead = rw A.next_is (next-ahead c F r.cell r.check A.check_is at_most)

  pub run-column : r.column + run_length c.n2 r ≤ c.n2
  unfolding run_length
  run-column = omega (arith, A.column_most)

  pub run-next : r.cell + run_length c.n2 r ≤ r.next
  unfolding run_length
  run-next = let a = at_ahead in omega arith

  module _ (j : ℕ) (b : j ≤ run_length c.n2 r) where
    near : r.cell + j ≤ next_check c r.check
    near = let e = run-next in let n = A.next_is in omega arith

    run-check : r.check ≡ checks_before c (r.cell + j)
    run-check = next-kept c F r.cell r.check A.check_is (r.cell + j) (omega arith) near

    run-place : r.place + j ≡ data_before c (r.cell + j)
    run-place =
        let e = run-check in
        let s = both-before c r.cell in
        let t = both-before c (r.cell + j) in
        omega (arith, A.check_is, A.place_is)

  -- ---- a cell of the run

  module _ (j : ℕ) (b : j < run_length c.n2 r) where
    pub run-free : check_at c (r.cell + j) ≡ false
    run-free =
        let e = run-next in
        let n = A.next_is in
        next-free c F r.cell r.check A.check_is (r.cell + j) (omega arith) (omega arith)

    inside : r.column + j < c.n2
    inside = let m = run-column in omega arith

    -- by row and column
    same : r.row * c.n2 + (r.column + j) ≡ r.cell + j
    same = omega (arith, A.number)

    free : check_at c (r.row * c.n2 + (r.column + j)) ≡ false
    free = ap (check_at c) same ∙ run-free

    before : r.place + j ≡ data_before c (r.row * c.n2 + (r.column + j))
    before = run-place j (omega arith) ∙ ap (data_before c) (sym same)

    pub run_room : r.place + j < r.ends
    unfolding row_ends data_before
    run_room =
        let t = r.row * c.n2 + (r.column + j) in
        let n = rows_next r.row c.n2 in
        let i = inside in
        let u : data_before c t < data_before c ((r.row + 1) * c.n2) =
        count-rise t ((r.row + 1) * c.n2) (λ u. not (check_at c u)) (ap not free) (omega arith) in
        let p = before in
        omega (arith, A.ends_is)

    pub run-bit : bit_at r j ≡ rank c (data_order c (r.cell + j))
    unfolding data_bit
    run-bit = go (runs_down r.row) refl ∙ ap (λ (t : ℕ). rank c (data_order c t)) same
      where
        go : (b : Bool) → runs_down r.row ≡ b
            → cond b (r.ends - (r.place + j + 1)) (r.place + j) ≡ rank c (data_order c (r.row * c.n2 + (r.column + j)))
        go true o =
            let e = rank_down c r.row (r.column + j) inside o free in
            let p = before in
            omega (arith, A.ends_is)
        go false o = before ∙ sym (rank_up c r.row (r.column + j) inside o)

    run_on : r.cell + j < c.n1 * c.n2
    run_on = let m = row-cells in let n = rows_next r.row c.n2 in let i = inside in omega (arith, A.number)

    pub run-below : bit_at r j < data_size c
    run-below =
        let e = run-bit in
        let b : rank c (data_order c (r.cell + j)) < data_size c = rank_below c F (r.cell + j) run_on run-free in
        omega arith

  -- ---- past the run

  module _ (len : ℕ) (el : len ≡ run_length c.n2 r) where
    past-check : r.check ≡ checks_before c (r.cell + len)
    past-check = run-check len (omega arith)

    past-place : r.place + len ≡ data_before c (r.cell + len)
    past-place = run-place len (omega arith)

    pub past-most : r.cell + len ≤ c.n1 * c.n2
    past-most = let d = run-column in let m = row-cells in let n = rows_next r.row c.n2 in omega (arith, A.number)

    pub place-most : r.place + len ≤ c.n1 * c.n2
    place-most = let m = past-most in let p = past-place in let s = both-before c (r.cell + len) in omega arith

    row-start : r.column + len ≡ c.n2 → r.cell + len ≡ (r.row + 1) * c.n2
    row-start e = let n = rows_next r.row c.n2 in omega (arith, A.number)

    pub row-checks : r.column + len ≡ c.n2 → r.check ≡ checks_before c ((r.row + 1) * c.n2)
    row-checks e = past-check ∙ ap (checks_before c) (row-start e)

    pub step_row : (ends : ℕ) → r.column + len ≡ c.n2 → ends ≡ row_ends c (r.row + 1)
        → Stepped c r
        (record { cell = r.cell + len; row = r.row + 1; column = 0; place = r.place + len; check = r.check; next = r.next; ends = ends })
    step_row ends e ee = record {
      at = record {
        row_most = omega arith;
        column_most = omega arith;
        number = let s = row-start e in omega arith;
        place_is = past-place;
        check_is = past-check;
        next_is = A.next_is;
        ends_is = ee;
      };
      on = omega arith;
      past = omega arith;
      checks = λ t u v. absurd (omega arith);
    }

    -- where the row goes on, the run ends at the next check cell
    module _ (ne : r.column + len ≡ c.n2 → ⊥) where
      pub at_next : r.cell + len ≡ r.next
      unfolding run_length
      at_next = let a = at_ahead in omega (arith, A.column_most)

      next-on : r.next < c.n1 * c.n2
      next-on =
          let e = at_next in
          let d = run-column in
          let m = row-cells in
          let n = rows_next r.row c.n2 in
          omega (arith, A.number)

      pub check-left : r.check < c.rv + c.rh
      check-left = next-left c F r.check r.next A.next_is next-on

      pub step-check : (next : ℕ) → next ≡ next_check c (r.check + 1)
          → Stepped c r (record {
            cell = r.next + 1;
            row = r.row;
            column = r.column + len + 1;
            place = r.place + len;
            check = r.check + 1;
            next = next;
            ends = r.ends;
          })
      step-check next en =
          let e = at_next in
          let d = run-column in
          let k : r.check + 1 ≡ checks_before c (r.next + 1) =
          next-passed c F r.check r.next A.next_is next-on (past-check ∙ ap (checks_before c) e) in
          let s = both-before c (r.cell + len) in
          let t = both-before c (r.next + 1) in
          let p = past-place in
          let q = past-check in
          record {
            at = record {
              row_most = omega arith;
              column_most = omega arith;
              number = omega (arith, A.number);
              place_is = omega arith;
              check_is = k;
              next_is = en;
              ends_is = A.ends_is;
            };
            on = omega arith;
            past = omega arith;
            checks = λ t u v.
                let z : t ≡ r.next = omega arith in
                ap (check_at c) z ∙ next-check c F r.check r.next A.next_is next-on;
          }
