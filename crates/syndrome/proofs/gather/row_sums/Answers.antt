use mathlib.Core.Path.{◌≡◌}
use Prim.Native.Nat.{ℕ, ◌+◌, ◌-◌, ◌*◌, ◌<◌}
use native.Mathlib.Omega.{arith}
use lib.ListN.{length-take}
use lib.Seq.{get_or-drop, get_or-take}
use Rattle.layout.specs.Cells.{row_bytes}
use Rattle.syndrome.proofs.Line.{row_inside, cell-in-byte, line_first, line-next, line-done}
use Rattle.syndrome.proofs.gather.row_sums.Goals as goal

pub overflow_mul-from : goal.overflow_mul-from
overflow_mul-from c =
    let p = c.requires in
    let inside = row_inside _ _ c.args.i _ _ c.row_bytes-size.ensures p.sheet_len p.i_lt_n1 in omega (arith, inside)

pub overflow_add-x-items : goal.overflow_add-x-items
overflow_add-x-items c =
    let p = c.requires in
    let inside = row_inside _ _ c.args.i _ _ c.row_bytes-size.ensures p.sheet_len p.i_lt_n1 in omega (arith, inside)

pub slice_bounds-x-items-end : goal.slice_bounds-x-items-end
slice_bounds-x-items-end c =
    let p = c.requires in
    let inside = row_inside _ _ c.args.i _ _ c.row_bytes-size.ensures p.sheet_len p.i_lt_n1 in omega (arith, inside)

pub loop-b-init : goal.loop-b-init
loop-b-init c = line_first _ _ _ _

pub overflow_mul-b : goal.overflow_mul-b
unfolding row_bytes
overflow_mul-b c = omega (arith, length-take {A = ℕ})

pub byte_sums-requires-clause-j_lt_n2 : goal.byte_sums-requires-clause-j_lt_n2
unfolding row_bytes
byte_sums-requires-clause-j_lt_n2 c = omega (arith, length-take {A = ℕ})

pub loop-b-preserved : goal.loop-b-preserved
unfolding row_bytes
loop-b-preserved c =
    let b = c.loop-b.b in
    let size = c.row_bytes-size.result in
    let l : b < c.args.i * size + size - c.args.i * size = omega (arith, length-take {A = ℕ}) in
    let s = simp (get_or-take, get_or-drop) at c.byte_sums.ensures in
    rw c.bitxor-held.ensures
    (line-next _ _ _ _ _ _ b _ _ c.loop-b.invariant (omega (arith, l)) (λ t lt. rw c.row_bytes-size.ensures (cell-in-byte _ _ _ b t lt)) s)

pub returns : goal.returns
returns c =
    let e : c.loop-b.b ≡ row_bytes c.args.view.header.n2 = omega (arith, length-take {A = ℕ}) in
    let p = c.requires in
    line-done _ _ c.args.view.framed _ p.unpacked _ p.i_lt_n1 _ c.row_words-words.ensures _ _ _ _ e (rw p.q_value at c.loop-b.invariant)
