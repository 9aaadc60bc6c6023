-- `position::cursor::next_check` meets its contract. Assumes nothing.
use mathlib.Core.Path.{sym}
use native.Mathlib.Omega.{arith}
use Rattle.boxcode.specs.Code.{cell_number}
use Rattle.boxcode.specs.Check.{check_number}
use Rattle.boxcode.proofs.Check.{sheet-cells}
use Rattle.position.proofs.Size.{pair-most}
use Rattle.position.proofs.Before.{next_here, next_past}
use Rattle.position.proofs.cursor.next_check.Goals as goal

pub overflow_mul-result : goal.overflow_mul-result
overflow_mul-result c = let s = c.args.view.framed.small in omega (arith, sheet-cells s.n1_most s.n2_most)

pub returns-then-q-h : goal.returns-then-q-h
returns-then-q-h c = sym (next_past _ _ (omega arith))

pub overflow_mul-result-2 : goal.overflow_mul-result-2
overflow_mul-result-2 c =
    let m = pair-most _ c.args.view.framed.small _ c.check_cell-cell.ensures.row_below in
    omega arith

pub overflow_add-result : goal.overflow_add-result
overflow_add-result c =
    let m = pair-most _ c.args.view.framed.small _ c.check_cell-cell.ensures.row_below in
    omega (arith, c.check_cell-cell.ensures)

pub returns : goal.returns
unfolding cell_number check_number
returns c = rw c.check_cell-cell.ensures.value (sym (next_here _ _ (omega arith)))
