-- `syndrome::columns::part_sums` meets its contract: the part of the column is a byte, and its sums are those of the byte, exchanged.
-- Assumes nothing.
use Prim.Native.Nat.{◌+◌, ◌*◌, ◌≤◌, ◌<◌}
use native.Mathlib.Omega.{arith}
use lib.ListN.{length}
use Rattle.layout.specs.Cells.{row_bytes}
use Rattle.syndrome.proofs.Block.{byte_inside, own-inside, part-words, part-done}
use Rattle.syndrome.proofs.columns.part_sums.Goals as goal

pub overflow_mul-from : goal.overflow_mul-from
overflow_mul-from c =
    let inside : ((c.args.j * c.args.h.b1 + c.args.h.b1 ≤ c.args.h.n2 * c.args.h.b1) × (c.args.j * row_bytes c.args.h.n1 + c.args.b < length c.args.sheet.now)) = let p = c.requires in
    (own-inside _ _ _ p.tables _ p.j_lt_n2, byte_inside _ _ _ _ _ p.sheet_len p.b_bound p.j_lt_n2) in
    let w = inside in omega arith

pub overflow_add-past : goal.overflow_add-past
overflow_add-past c =
    let inside : ((c.args.j * c.args.h.b1 + c.args.h.b1 ≤ c.args.h.n2 * c.args.h.b1) × (c.args.j * row_bytes c.args.h.n1 + c.args.b < length c.args.sheet.now)) = let p = c.requires in
    (own-inside _ _ _ p.tables _ p.j_lt_n2, byte_inside _ _ _ _ _ p.sheet_len p.b_bound p.j_lt_n2) in
    let w = inside in omega arith

pub overflow_mul-x : goal.overflow_mul-x
overflow_mul-x c =
    let inside : ((c.args.j * c.args.h.b1 + c.args.h.b1 ≤ c.args.h.n2 * c.args.h.b1) × (c.args.j * row_bytes c.args.h.n1 + c.args.b < length c.args.sheet.now)) = let p = c.requires in
    (own-inside _ _ _ p.tables _ p.j_lt_n2, byte_inside _ _ _ _ _ p.sheet_len p.b_bound p.j_lt_n2) in
    let w = inside in rw c.row_bytes.ensures (omega arith)

pub overflow_add-x : goal.overflow_add-x
overflow_add-x c =
    let inside : ((c.args.j * c.args.h.b1 + c.args.h.b1 ≤ c.args.h.n2 * c.args.h.b1) × (c.args.j * row_bytes c.args.h.n1 + c.args.b < length c.args.sheet.now)) = let p = c.requires in
    (own-inside _ _ _ p.tables _ p.j_lt_n2, byte_inside _ _ _ _ _ p.sheet_len p.b_bound p.j_lt_n2) in
    let w = inside in rw c.row_bytes.ensures (omega arith)

pub bounds-sheet-j : goal.bounds-sheet-j
bounds-sheet-j c =
    let inside : ((c.args.j * c.args.h.b1 + c.args.h.b1 ≤ c.args.h.n2 * c.args.h.b1) × (c.args.j * row_bytes c.args.h.n1 + c.args.b < length c.args.sheet.now)) = let p = c.requires in
    (own-inside _ _ _ p.tables _ p.j_lt_n2, byte_inside _ _ _ _ _ p.sheet_len p.b_bound p.j_lt_n2) in
    rw c.row_bytes.ensures inside.1

pub overflow_mul-b : goal.overflow_mul-b
unfolding row_bytes
overflow_mul-b c = omega arith

pub offset_bounds-columns-from : goal.offset_bounds-columns-from
offset_bounds-columns-from c =
    let inside : ((c.args.j * c.args.h.b1 + c.args.h.b1 ≤ c.args.h.n2 * c.args.h.b1) × (c.args.j * row_bytes c.args.h.n1 + c.args.b < length c.args.sheet.now)) = let p = c.requires in
    (own-inside _ _ _ p.tables _ p.j_lt_n2, byte_inside _ _ _ _ _ p.sheet_len p.b_bound p.j_lt_n2) in
    let w = inside in omega arith

pub slice_bounds-byte_sums-end : goal.slice_bounds-byte_sums-end
slice_bounds-byte_sums-end c =
    let inside : ((c.args.j * c.args.h.b1 + c.args.h.b1 ≤ c.args.h.n2 * c.args.h.b1) × (c.args.j * row_bytes c.args.h.n1 + c.args.b < length c.args.sheet.now)) = let p = c.requires in
    (own-inside _ _ _ p.tables _ p.j_lt_n2, byte_inside _ _ _ _ _ p.sheet_len p.b_bound p.j_lt_n2) in
    let w = inside in omega arith

pub byte_sums-s-requires : goal.byte_sums-s-requires
unfolding row_bytes
byte_sums-s-requires c =
    let p = c.requires in
    record { words = rw p.q_value (part-words _ _ _ p.tables _ p.j_lt_n2); j_lt_n2 = omega arith }

pub returns : goal.returns
returns c =
    let p = c.requires in
    part-done _ _ _ p.tables _ p.j_lt_n2 _ _ c.byte_sums-s.result
    (rw (c.row_bytes.ensures, p.q_value) at c.byte_sums-s.ensures)
