-- `payload::held::turn_bit` meets its contract: the bit is found from the check cells before the cell and before its row. Assumes nothing.
use mathlib.Core.Path.{◌∙◌}
use native.Mathlib.Omega.{arith}
use Rattle.boxcode.specs.Code.{cell_number}
use Rattle.boxcode.specs.Check.{data_size}
use Rattle.boxcode.proofs.Check.{sheet-cells, checks-fit}
use Rattle.position.proofs.Size.{pair-most}
use Rattle.position.proofs.Before.{passed, checks-most}
use Rattle.payload.proofs.Size.{place_inside}
use Rattle.payload.proofs.CellBit.{held-check, held-room, held_below, held-bit}
use Rattle.payload.proofs.held.turn_bit.Goals as goal

pub overflow_mul-first : goal.overflow_mul-first
overflow_mul-first c = let m = c.args.view.framed.small in omega (arith, pair-most _ m c.args.i (omega arith))

pub overflow_add-t : goal.overflow_add-t
overflow_add-t c = let m = c.args.view.framed.small in omega (arith, pair-most _ m c.args.i (omega arith))

pub next_check-requires : goal.next_check-requires
next_check-requires c =
    let p = c.requires in
    record { q_bound = rw c.checks_before-check.ensures (passed _ p.formed _).most }

pub returns-then-next_check-t : goal.returns-then-next_check-t
unfolding cell_number
returns-then-next_check-t c =
    let p = c.requires in
    held-check _ p.formed _ _ p.i_lt_n1.0 p.i_lt_n1.1 _ _ c.checks_before-check.ensures c.next_check.ensures
    c.if-next_check-t.true _

pub row_ends-ends-requires : goal.row_ends-ends-requires
row_ends-ends-requires c =
    let p = c.requires in
    record { formed = p.formed; row_le_n1 = omega (arith, p.i_lt_n1.0); check_value = c.checks_before.ensures }

pub overflow_sub-t : goal.overflow_sub-t
overflow_sub-t c = checks-most _ _ _ c.checks_before-check.ensures

pub bit-d-requires : goal.bit-d-requires
unfolding cell_number
bit-d-requires c =
    let p = c.requires in
    rw c.row_ends-ends.ensures
    (held-room _ p.formed _ _ p.i_lt_n1.0 p.i_lt_n1.1 _ _ c.checks_before-check.ensures c.next_check.ensures
    c.if-next_check-t.false)

pub overflow_mul-h : goal.overflow_mul-h
overflow_mul-h c =
    let s = c.args.view.framed.small in
    omega (arith, sheet-cells s.n1_most s.n2_most)

pub overflow_sub-h : goal.overflow_sub-h
overflow_sub-h c = checks-fit _ c.requires.formed

pub turn-requires : goal.turn-requires
unfolding cell_number data_size
turn-requires c =
    let p = c.requires in
    let s = c.args.view.framed.small in
    let l = held_below _ p.formed _ _ p.i_lt_n1.0 p.i_lt_n1.1 _ _ c.checks_before-check.ensures c.next_check.ensures
    c.if-next_check-t.false in
    (omega (arith, sheet-cells s.n1_most s.n2_most), place_inside _ _ _ p.bits_len (rw (c.bit-d.ensures, c.row_ends-ends.ensures) l))

pub returns : goal.returns
unfolding cell_number data_size
returns c =
    let p = c.requires in
    c.turn.ensures
    ∙ held-bit _ p.formed _ _ p.i_lt_n1.0 p.i_lt_n1.1 _ _ c.checks_before-check.ensures c.next_check.ensures
    c.if-next_check-t.false _ (rw (← c.row_ends-ends.ensures) c.bit-d.ensures) _
