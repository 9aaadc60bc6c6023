-- `maker::taking::joint` meets its contract: both entries lie in their tables. Assumes nothing.
use mathlib.Core.Path.{◌∙◌}
use Prim.Native.Nat.{◌+◌, ◌*◌, ◌<◌}
use native.Mathlib.Omega.{arith}
use Rattle.boxcode.specs.Code.{row_weight, column_weight, joint_weight}
use Rattle.plan.proofs.Framing.{position-fits}
use Rattle.maker.proofs.taking.joint.Goals as goal

pub overflow_mul-v : goal.overflow_mul-v
overflow_mul-v c =
    let row-place : let a = c.args in a.i * a.h.b2 + a.along < a.h.n1 * a.h.b2 = let a = c.args in
    let p = c.requires.i_lt_n1 in
    rw p.3 (position-fits a.i a.j a.h.b2 a.h.n1 p.0 c.requires.small.b2_pos) in
    omega (arith, row-place, c.requires.small.row_positions)

pub overflow_add-v : goal.overflow_add-v
overflow_add-v c =
    let row-place : let a = c.args in a.i * a.h.b2 + a.along < a.h.n1 * a.h.b2 = let a = c.args in
    let p = c.requires.i_lt_n1 in
    rw p.3 (position-fits a.i a.j a.h.b2 a.h.n1 p.0 c.requires.small.b2_pos) in
    omega (arith, row-place, c.requires.small.row_positions)

pub offset_bounds-rows-i : goal.offset_bounds-rows-i
offset_bounds-rows-i c =
    let row-place : let a = c.args in a.i * a.h.b2 + a.along < a.h.n1 * a.h.b2 = let a = c.args in
    let p = c.requires.i_lt_n1 in
    rw p.3 (position-fits a.i a.j a.h.b2 a.h.n1 p.0 c.requires.small.b2_pos) in
    omega (arith, row-place, c.requires.small.row_positions)

pub bounds-rows-i : goal.bounds-rows-i
bounds-rows-i c =
    let row-place : let a = c.args in a.i * a.h.b2 + a.along < a.h.n1 * a.h.b2 = let a = c.args in
    let p = c.requires.i_lt_n1 in
    rw p.3 (position-fits a.i a.j a.h.b2 a.h.n1 p.0 c.requires.small.b2_pos) in
    omega (arith, row-place, c.requires.small.row_positions, c.requires.tables.rows_size)

pub overflow_mul-w : goal.overflow_mul-w
overflow_mul-w c =
    let column-place : let a = c.args in a.j * a.h.b1 + a.down < a.h.n2 * a.h.b1 = let a = c.args in
    let p = c.requires.i_lt_n1 in
    rw p.2 (position-fits a.j a.i a.h.b1 a.h.n2 p.1 c.requires.small.b1_pos) in
    omega (arith, column-place, c.requires.small.column_positions)

pub overflow_add-w : goal.overflow_add-w
overflow_add-w c =
    let column-place : let a = c.args in a.j * a.h.b1 + a.down < a.h.n2 * a.h.b1 = let a = c.args in
    let p = c.requires.i_lt_n1 in
    rw p.2 (position-fits a.j a.i a.h.b1 a.h.n2 p.1 c.requires.small.b1_pos) in
    omega (arith, column-place, c.requires.small.column_positions)

pub offset_bounds-columns-j : goal.offset_bounds-columns-j
offset_bounds-columns-j c =
    let column-place : let a = c.args in a.j * a.h.b1 + a.down < a.h.n2 * a.h.b1 = let a = c.args in
    let p = c.requires.i_lt_n1 in
    rw p.2 (position-fits a.j a.i a.h.b1 a.h.n2 p.1 c.requires.small.b1_pos) in
    omega (arith, column-place, c.requires.small.column_positions)

pub bounds-columns-j : goal.bounds-columns-j
bounds-columns-j c =
    let column-place : let a = c.args in a.j * a.h.b1 + a.down < a.h.n2 * a.h.b1 = let a = c.args in
    let p = c.requires.i_lt_n1 in
    rw p.2 (position-fits a.j a.i a.h.b1 a.h.n2 p.1 c.requires.small.b1_pos) in
    omega (arith, column-place, c.requires.small.column_positions, c.requires.tables.columns_size)

pub joined-requires : goal.joined-requires
joined-requires c =
    let row-place : let a = c.args in a.i * a.h.b2 + a.along < a.h.n1 * a.h.b2 = let a = c.args in
    let p = c.requires.i_lt_n1 in
    rw p.3 (position-fits a.i a.j a.h.b2 a.h.n1 p.0 c.requires.small.b2_pos) in
    let column-place : let a = c.args in a.j * a.h.b1 + a.down < a.h.n2 * a.h.b1 = let a = c.args in
    let p = c.requires.i_lt_n1 in
    rw p.2 (position-fits a.j a.i a.h.b1 a.h.n2 p.1 c.requires.small.b1_pos) in
    let t = c.requires.tables in
    (c.requires.small.rv_most, t.rows_below _ row-place, t.columns_below _ column-place)

pub returns : goal.returns
unfolding column_weight joint_weight row_weight
returns c =
    let p = c.requires.i_lt_n1 in
    c.joined.ensures ∙ rw (p.2, p.3)
