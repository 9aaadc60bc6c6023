-- Every case of the table holds: the definitions are run on each, and the table of what comes of it is the table itself.
--
--   run         a case with what the definitions answer in place of what the table says
--   cases-hold  running changes nothing
--   t-accepted  the second case by itself: the plan T is accepted
--
-- Assumes nothing.
use mathlib.Core.Path.{◌≡◌, refl, ap}
use mathlib.Core.List.{List, [], ◌∷◌, map}
use Rattle.accept.specs.Verdict.{plan_verdict, conditions_verdict, rows_verdict, columns_verdict, checks_verdict}
use Rattle.accept.specs.Pairs.{in_row, from_row, first_failing}
use Rattle.plan.specs.declared.verdict.Verdict.{Verdict}
use Rattle.plan.specs.Verdict.{accepted, ◌or_else◌}
use Rattle.plan.specs.Header.{header_of}
use Rattle.plan.specs.Bytes.{code_of}
use Rattle.plan.specs.Form.{bad_burst, bad_sheet, bad_widths, bad_cells, bad_offsets, sizes_verdict, offsets_verdict, fields_verdict, header_verdict}
use Rattle.plan.specs.Form.{first_large, entries_verdict, rises, bad_pair, list_verdict, form_verdict}
use Rattle.layout.specs.Number.{u16_at, u32_at}
use Rattle.finite.specs.Search.{least, within, place}
use Rattle.gf2.specs.Xor.{◌⊕◌}
use Rattle.gf2.specs.Independence.{spanned, free}
use Rattle.boxcode.specs.Code.{row_weight, column_weight, joint_weight, check_joint}
use Rattle.boxcode.specs.Condition.{row_member, column_member, column_difference, strip_entry, row_pair_free, column_pair_free}
use Rattle.cases.specs.Plans.{S, T, plan_s, plan_t, plan_bytes}
use Rattle.finite.specs.Search.{bit, number_of, any_below, count_below, few, first_of, past_of}
use Rattle.gf2.specs.Xor.{pick}
use Rattle.gf2.specs.Sum.{xor_sum}
use Rattle.layout.specs.Cells.{row_bytes, sheet_bytes, byte_of, cell_of, used_bits, unused_at, first_unused, tabulate, byte_from, bytes_of}
use Rattle.boxcode.specs.Code.{cell_number}
use Rattle.boxcode.specs.Syndrome.{weight_sum, row_syndrome, column_syndrome}
use Rattle.boxcode.specs.Burst.{cell_count, box_cells, box_number, patterns, lefts, trials, trial_cells, tried, has_burst, burst_for}
use Rattle.boxcode.specs.Check.{check_number, check_at, check_index, runs_down, data_column, data_order, data_size, rank, data_cell, fill, belongs, written, data_of}
use Rattle.boxcode.specs.Reader.{change, mended, row_touched, column_touched, report_of}
use Rattle.buffers.specs.Buffers.{length_verdict, unused_verdict, sheet_checks, length_checks, write_checks, read_checks}
use Rattle.writer.specs.Write.{written_in, write_in, write}
use Rattle.mend.specs.Found.{first_burst}
use Rattle.reader.specs.Read.{burst_in, read_verdict, sheet_read, bits_read, report_read, read_in, read_outcome}
use mathlib.Core.Bool.{xor}
use Rattle.cases.specs.Table.{Case, testing, writing, reading, table}

abbrev pub run : Case → Case
run (testing plan v) = testing plan (plan_verdict plan)
run (writing plan bits sheet o) = writing plan bits sheet (write plan bits sheet)
run (reading plan sheet bits o) = reading plan sheet bits (read_outcome plan sheet bits)

pub cases-hold : map run table ≡ table
unfolding table S T plan_s plan_t plan_bytes plan_verdict conditions_verdict rows_verdict columns_verdict checks_verdict in_row from_row
    first_failing ◌or_else◌ header_of code_of bad_burst bad_sheet bad_widths bad_cells bad_offsets sizes_verdict offsets_verdict fields_verdict header_verdict
    first_large entries_verdict rises bad_pair list_verdict form_verdict u16_at u32_at least within place ◌⊕◌ spanned free row_weight column_weight joint_weight
    check_joint row_member column_member column_difference strip_entry row_pair_free column_pair_free bit number_of any_below count_below few first_of past_of
    pick xor_sum row_bytes sheet_bytes byte_of cell_of used_bits unused_at first_unused tabulate byte_from bytes_of cell_number weight_sum row_syndrome
    column_syndrome box_cells box_number patterns lefts trials trial_cells tried has_burst burst_for check_number check_at check_index runs_down data_column data_order
    data_size rank data_cell fill belongs written data_of change mended cell_count row_touched column_touched report_of length_verdict unused_verdict
    sheet_checks length_checks write_checks read_checks written_in write_in first_burst burst_in read_verdict sheet_read bits_read report_read read_in xor
cases-hold = refl

told : Case → Verdict
told (testing plan v) = v
told (writing plan bits sheet o) = o.verdict
told (reading plan sheet bits o) = o.verdict

second : List Case → Verdict
second [] = accepted
second (a ∷ []) = accepted
second (a ∷ b ∷ rest) = told b

pub t-accepted : plan_verdict T ≡ accepted
unfolding table told second
t-accepted = ap second cases-hold
