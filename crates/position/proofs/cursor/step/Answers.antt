-- `position::cursor::step` meets its contract: into the next row, or past a check cell. Assumes nothing.
use mathlib.Core.Path.{◌≡◌}
use Prim.Native.Nat.{◌+◌}
use native.Mathlib.Omega.{arith}
use Rattle.boxcode.proofs.Check.{sheet-cells}
use Rattle.position.proofs.Stand.{run-column, past-most, place-most, row-checks, step_row, at_next, check-left, step-check}
use Rattle.position.proofs.cursor.step.Goals as goal

pub overflow_add-at : goal.overflow_add-at
overflow_add-at c =
    let p = c.requires in
    let d = run-column _ p.formed _ p.at p.row_lt_n1 in
    omega (arith, c.args.view.framed.small)

pub overflow_add-result : goal.overflow_add-result
overflow_add-result c =
    let p = c.requires in
    let m = sheet-cells c.args.view.framed.small.n1_most c.args.view.framed.small.n2_most in
    let d = past-most _ p.formed _ p.at p.row_lt_n1 _ p.len_value in
    omega arith

pub overflow_add-result-then-at-len-2 : goal.overflow_add-result-then-at-len-2
overflow_add-result-then-at-len-2 c =
    let p = c.requires in
    let m = sheet-cells c.args.view.framed.small.n1_most c.args.view.framed.small.n2_most in
    let d = place-most _ p.formed _ p.at p.row_lt_n1 _ p.len_value in
    omega arith

pub row_ends-requires : goal.row_ends-requires
row_ends-requires c =
    let p = c.requires in
    record { formed = p.formed; row_le_n1 = omega arith; check_value = row-checks _ p.formed _ p.at p.row_lt_n1 _ p.len_value (omega arith) }

pub returns-then-at-len : goal.returns-then-at-len
returns-then-at-len c =
    let p = c.requires in
    step_row _ p.formed _ p.at p.row_lt_n1 _ p.len_value _ (omega arith) c.row_ends.ensures

pub overflow_add-check : goal.overflow_add-check
overflow_add-check c =
    let p = c.requires in
    let ne : c.args.at.column + c.args.len ≡ c.args.view.header.n2 → ⊥ = c.if-at-len.false in
    let d = check-left _ p.formed _ p.at p.row_lt_n1 _ p.len_value ne in
    omega (arith, c.args.view.framed.small)

pub overflow_add-result-2 : goal.overflow_add-result-2
overflow_add-result-2 c =
    let p = c.requires in
    let m = sheet-cells c.args.view.framed.small.n1_most c.args.view.framed.small.n2_most in
    let ne : c.args.at.column + c.args.len ≡ c.args.view.header.n2 → ⊥ = c.if-at-len.false in
    let d = at_next _ p.formed _ p.at p.row_lt_n1 _ p.len_value ne in
    let e = past-most _ p.formed _ p.at p.row_lt_n1 _ p.len_value in
    omega arith

pub overflow_add-result-3 : goal.overflow_add-result-3
overflow_add-result-3 c =
    let p = c.requires in
    let d = run-column _ p.formed _ p.at p.row_lt_n1 in
    omega (arith, c.args.view.framed.small)

pub overflow_add-result-4 : goal.overflow_add-result-4
overflow_add-result-4 c =
    let p = c.requires in
    let d = run-column _ p.formed _ p.at p.row_lt_n1 in
    omega (arith, c.args.view.framed.small)

pub overflow_add-result-5 : goal.overflow_add-result-5
overflow_add-result-5 c =
    let p = c.requires in
    let m = sheet-cells c.args.view.framed.small.n1_most c.args.view.framed.small.n2_most in
    let d = place-most _ p.formed _ p.at p.row_lt_n1 _ p.len_value in
    omega arith

pub next_check-requires : goal.next_check-requires
next_check-requires c =
    let p = c.requires in
    let ne : c.args.at.column + c.args.len ≡ c.args.view.header.n2 → ⊥ = c.if-at-len.false in
    let d = check-left _ p.formed _ p.at p.row_lt_n1 _ p.len_value ne in
    record { q_bound = omega arith }

pub returns : goal.returns
returns c =
    let p = c.requires in
    let ne : c.args.at.column + c.args.len ≡ c.args.view.header.n2 → ⊥ = c.if-at-len.false in
    step-check _ p.formed _ p.at p.row_lt_n1 _ p.len_value ne _ c.next_check.ensures
