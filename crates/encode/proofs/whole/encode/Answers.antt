-- `encode::whole::encode` meets its contract: the four parts stand one after the other, and fill the plan. Assumes nothing.
use mathlib.Core.Path.{◌∙◌}
use Prim.Native.Nat.{◌/◌, ◌%◌}
use native.Mathlib.Omega.{arith}
use Rattle.plan.specs.Table.{word_at}
use Rattle.encode.proofs.Pieces.{length-kept}
use Rattle.encode.proofs.Encoded.{placed, plan-written}
use Rattle.encode.proofs.whole.encode.Goals as goal

pub put_table-requires-2 : goal.put_table-requires-2
put_table-requires-2 c =
    let h = c.args.h in
    let p = c.requires in
    let e = placed h p.h_value in
    let l = length-kept _ _ _ _ c.put_table.ensures ∙ length-kept _ _ _ _ c.put_header.ensures ∙ p.plan_len in
    record { count_in_bounds = omega (arith, p.small.column_positions); count_in_bounds_2 = omega arith }

pub overflow_add-h : goal.overflow_add-h
overflow_add-h c =
    let p = c.requires in
    omega (arith, p.small.rv_most, p.small.rh_most)

pub put_list-requires : goal.put_list-requires
put_list-requires c =
    let h = c.args.h in
    let p = c.requires in
    let e = placed h p.h_value in
    let l =
    length-kept _ _ _ _ c.put_table-2.ensures
    ∙ length-kept _ _ _ _ c.put_table.ensures
    ∙ length-kept _ _ _ _ c.put_header.ensures
    ∙ p.plan_len in
    record { n2_nonzero = omega (arith, p.small.b2_pos, p.small.n2_least); count_in_bounds = omega (arith, p.small.rv_most, p.small.rh_most); count_in_bounds_2 = omega arith }

pub returns : goal.returns
returns c =
    let h = c.args.h in
    let p = c.requires in
    let cell = word_at c.args.cells.now in
    plan-written h (word_at c.args.rows.now) (word_at c.args.columns.now) (λ k. cell k / h.n2) (λ k. cell k % h.n2)
    _ _ _ _ _ p.h_value p.plan_len c.put_header.ensures c.put_table.ensures c.put_table-2.ensures c.put_list.ensures
