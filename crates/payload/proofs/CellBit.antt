-- The data bit that a cell holds:
--
--   held-check      a cell at which the next check cell stands is one, and holds no data bit
--   held-follows    any other holds one, and so many data cells stand before it
--   held-room, held_below, held-bit   its number, from the row's ends
--   held-turned     the data of a sheet with one cell turned over: the data with that cell's bit turned over
--   held-turned-if  the same where the cell is turned over only if b holds
--
-- Assumes nothing.
use mathlib.Core.Path.{◌≡◌, refl, sym, ap, ap₂, ◌∙◌}
use mathlib.Core.Bool.{Bool, true, false, cond, xor}
use mathlib.Core.List.{List}
use Prim.Native.Nat.{ℕ, ◌-◌, ◌*◌, ◌/◌, ◌%◌, ◌<◌}
use native.Mathlib.Omega.{arith}
use borrow.Author.Tests.{eq-eqb}
use Rattle.finite.proofs.Truth.{xor-none}
use Rattle.layout.specs.Cells.{cell_of, RightForm, turned, turned_if}
use Rattle.layout.proofs.Form.{bytes-equal}
use Rattle.layout.proofs.Turned.{turned-cell, turned-bytes}
use Rattle.boxcode.specs.Code.{Code, Formed, cell_number}
use Rattle.boxcode.specs.Syndrome.{Cells, flip}
use Rattle.boxcode.specs.Check.{check_at, data_order, data_size, rank, data_cell, data_of}
use Rattle.boxcode.proofs.Check.{number-row, number-column, number-on, rank_below, rank-data}
use Rattle.boxcode.proofs.Fill.{data-cells}
use Rattle.boxcode.proofs.One.{one_cell, check-data, turned-data}
use Rattle.position.specs.Walk.{checks_before, next_check, row_ends, data_bit}
use Rattle.position.specs.Placed.{Follows}
use Rattle.position.proofs.Before.{both-before, next-ahead, next-check, next-free}
use Rattle.position.proofs.Placed.{bit-room, bit_below, bit-rank}
use Rattle.payload.specs.Packed.{packed_data}
use Rattle.payload.specs.Held.{bit_turned, bit_turned_if}

module _ (c : Code) (F : Formed c) (i j : ℕ) (li : i < c.n1) (lj : j < c.n2) where
  -- the number of the cell in sheet order
  abbrev t : ℕ
  t = cell_number c i j

  -- ---- found from the check list

  module _ (check next : ℕ) (p : check ≡ checks_before c t) (e : next ≡ next_check c check) where
    pub held-check : next ≡ t → (bits : List ℕ) → bits ≡ bit_turned c i j bits
    unfolding bit_turned
    held-check h bits = rw (next-check c F check t (sym h ∙ e) (number-on c i j lj li))

    module _ (h : next ≡ t → ⊥) where
      held-follows : Follows c (t - check) t
      held-follows =
          let on = number-on c i j lj li in
          let a = next-ahead c F t check p (omega arith) in
          record { on = on; free = next-free c F t check p t (omega arith) (omega arith); before = omega (arith, both-before c t) }

      row : t / c.n2 ≡ i
      row = number-row c i j lj

      pub held-room : t - check < row_ends c i
      held-room = rw row at (bit-room c F (t - check) t held-follows)

      pub held_below : data_bit i (t - check) (row_ends c i) < data_size c
      held_below = rw row at (bit_below c F (t - check) t held-follows)

      pub held-bit : (d : ℕ) → d ≡ data_bit i (t - check) (row_ends c i) → (bits : List ℕ) → turned (data_size c) bits 0 d ≡ bit_turned c i j bits
      unfolding bit_turned
      held-bit d q bits =
          rw held-follows.free (ap (turned (data_size c) bits 0) (q ∙ rw row at (bit-rank c F (t - check) t held-follows)))

  -- ---- the data of a sheet with the cell turned over

  held-turned : (s : List ℕ) → RightForm c.n1 c.n2 s
      → packed_data c (cell_of c.n2 (turned c.n2 s i j)) ≡ bit_turned c i j (packed_data c (cell_of c.n2 s))
  unfolding bit_turned data_of xor
  held-turned s f = go (check_at c t) refl
    where
      before : Cells
      before = cell_of c.n2 s

      after : Cells
      after = cell_of c.n2 (turned c.n2 s i j)

      turns : (d : ℕ) → d < data_size c → data_of c after d ≡ data_of c (flip before (one_cell i j)) d
      turns d l = data-cells c F after (flip before (one_cell i j)) (turned-cell c.n1 c.n2 s f i j li lj) d l

      go : (b : Bool) → check_at c t ≡ b
          → packed_data c after ≡ cond b (packed_data c before) (turned (data_size c) (packed_data c before) 0 (rank c (data_order c t)))
      go true h =
          bytes-equal 1 (data_size c) (λ a d. data_of c after d) (λ a d. data_of c before d)
          (λ a d la ld. turns d ld ∙ ap (xor (data_of c before d)) (check-data c F i j h d ld) ∙ xor-none (data_of c before d))
      go false h =
          sym
          (turned-bytes 1 (data_size c) (λ a d. data_of c before d) (λ a d. data_of c after d) 0 e (omega arith) l
          (λ a d la ld.
          let z : 0 ≡ a = omega arith in
          rw (eq-eqb 0 a z)
          (sym (turned-data c F e l before d ld) ∙ ap₂ (λ (x y : ℕ). data_of c (flip before (one_cell x y)) d) row column ∙ sym (turns d ld))))
        where
          on : t < c.n1 * c.n2
          on = number-on c i j lj li

          e : ℕ
          e = rank c (data_order c t)

          l : e < data_size c
          l = rank_below c F t on h

          row : data_cell c e / c.n2 ≡ i
          row = ap (λ (x : ℕ). x / c.n2) (rank-data c F t on h) ∙ number-row c i j lj

          column : data_cell c e % c.n2 ≡ j
          column = ap (λ (x : ℕ). x % c.n2) (rank-data c F t on h) ∙ number-column c i j lj

  pub held-turned-if : (b : Bool) (s : List ℕ) → RightForm c.n1 c.n2 s
      → packed_data c (cell_of c.n2 (turned_if b c.n2 s i j)) ≡ bit_turned_if b c i j (packed_data c (cell_of c.n2 s))
  held-turned-if true s f = held-turned s f
  held-turned-if false s f = refl
