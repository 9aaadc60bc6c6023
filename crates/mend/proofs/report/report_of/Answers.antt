-- `mend::report::report_of` meets its contract. Assumes nothing.
use mathlib.Core.Path.{sym, ◌∙◌}
use native.Mathlib.Omega.{arith}
use Rattle.mend.proofs.Rectangle.{first_past, lines_none, lines-report}
use Rattle.mend.proofs.report.report_of.Goals as goal

pub returns-then-cells-eq0 : goal.returns-then-cells-eq0
returns-then-cells-eq0 c = lines_none _ _ _ _ _ (sym c.count_digits-cells.ensures ∙ c.if-cells-eq0.true)

pub overflow_sub-height : goal.overflow_sub-height
overflow_sub-height c = (first_past _ _ _ _ c.first_line-row.ensures c.past_line-past_row.ensures).0

pub overflow_sub-width : goal.overflow_sub-width
overflow_sub-width c = (first_past _ _ _ _ c.first_line-column.ensures c.past_line-past_column.ensures).0

pub overflow_add-result : goal.overflow_add-result
overflow_add-result c = omega (arith, first_past _ _ _ _ c.first_line-row.ensures c.past_line-past_row.ensures)

pub overflow_add-result-2 : goal.overflow_add-result-2
overflow_add-result-2 c = omega (arith, first_past _ _ _ _ c.first_line-column.ensures c.past_line-past_column.ensures)

pub part_number-requires : goal.part_number-requires
part_number-requires c =
    let rows = first_past _ _ _ _ c.first_line-row.ensures c.past_line-past_row.ensures in
    let columns = first_past _ _ _ _ c.first_line-column.ensures c.past_line-past_column.ensures in
    record {
      columns_most = c.requires.burst_size.b2_most;
      rows_in = omega (arith, rows);
      columns_in = omega (arith, columns);
    }

pub returns : goal.returns
returns c =
    lines-report _ _ _ _ _ _ _ _ _ _ _ c.count_digits-cells.ensures c.if-cells-eq0.false
    c.first_line-row.ensures c.first_line-column.ensures c.past_line-past_row.ensures c.past_line-past_column.ensures
    c.part_number.ensures
