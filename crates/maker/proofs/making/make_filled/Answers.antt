-- `maker::making::make_filled` meets its contract: the words hold the tables of the plan, so what they give is its outcome. Assumes nothing.
use mathlib.Core.List.{List}
use mathlib.Core.Path.{◌≡◌, refl, sym, ap, ap₂, ◌∙◌}
use Prim.Native.Nat.{ℕ}
use lib.ListN.{length}
use Rattle.plan.specs.declared.table.Table.TheVariants.{Rows, Columns}
use Rattle.plan.specs.Header.{Small, ruled}
use Rattle.plan.specs.Table.{word_at}
use Rattle.plan.proofs.Sequence.{refused, hands-on}
use Rattle.plan.specs.Verdict.{◌or_else◌}
use Rattle.accept.specs.Windows.{table_verdict}
use Rattle.accept.specs.Verdict.{rows_verdict, columns_verdict}
use Rattle.maker.specs.declared.parameters.Parameters.{Parameters}
use Rattle.maker.specs.Steps.{PowerTables}
use Rattle.maker.specs.Taken.{bare_code, Tables}
use Rattle.maker.specs.Make.{header_for, row_table, column_table}
use Rattle.maker.proofs.Given.{Good, given-good, small-numbers, ruled-twice}
use Rattle.maker.proofs.Outcomes.{make-tables, make-taken}
use Rattle.maker.proofs.Tabled.{power-tables, made-equal, row-condition, column-condition}
use Rattle.maker.proofs.making.make_filled.Goals as goal

-- checks 8 and 9 of tables of powers are those of the code
tables-tested : (g : Parameters) → Small (header_for g) → (rows columns : List ℕ) → PowerTables g (header_for g) rows columns
    → let d = bare_code (header_for g) (row_table g) (column_table g) in
    (table_verdict (header_for g) Rows (word_at rows) or_else table_verdict (header_for g) Columns (word_at columns))
    ≡ (rows_verdict d or_else columns_verdict d)
tables-tested g p rows columns t = ap₂ ◌or_else◌ (row-condition g (header_for g) p _ _ t) (column-condition g (header_for g) p _ _ t)

pub ruled-h-requires : goal.ruled-h-requires
ruled-h-requires c =
    let good : Good c.args.g (length c.args.plan.now) = given-good _ _ c.requires.plan_value in
    rw c.numbers.ensures (small-numbers c.args.g good.small)

pub tables_verdict-requires : goal.tables_verdict-requires
tables_verdict-requires c =
    let good : Good c.args.g (length c.args.plan.now) = given-good _ _ c.requires.plan_value in
    let tables : Tables (header_for c.args.g) c.args.rows.now c.args.columns.now = power-tables c.args.g (header_for c.args.g) _ _ good.degrees c.requires.power_tables in
    let header : c.ruled-h.result ≡ header_for c.args.g = c.ruled-h.ensures ∙ ap ruled c.numbers.ensures in
    rw header (record { small = good.small; tables = tables })

pub returns-in_err-tables_verdict : goal.returns-in_err-tables_verdict
returns-in_err-tables_verdict c =
    let g = c.args.g in
    let s = c.from_residual.ensures.1 in
    let good : Good g (length c.args.plan.now) = given-good _ _ c.requires.plan_value in
    let header : c.ruled-h.result ≡ header_for g = c.ruled-h.ensures ∙ ap ruled c.numbers.ensures in
    make-tables _ _ c.requires.plan_value
    (hands-on _ _ s ((rw header at c.in_err-tables_verdict.ensures) ∙ tables-tested g good.small _ _ c.requires.power_tables)) (refused _ _ s)

pub finish-requires : goal.finish-requires
finish-requires c =
    let good : Good c.args.g (length c.args.plan.now) = given-good _ _ c.requires.plan_value in
    let tables : Tables (header_for c.args.g) c.args.rows.now c.args.columns.now = power-tables c.args.g (header_for c.args.g) _ _ good.degrees c.requires.power_tables in
    let header : c.ruled-h.result ≡ header_for c.args.g = c.ruled-h.ensures ∙ ap ruled c.numbers.ensures in
    rw header (record { small = good.small; h_value = ruled-twice c.args.g; tables = tables; plan_len = good.long })

pub returns : goal.returns
returns c =
    let g = c.args.g in
    let good : Good g (length c.args.plan.now) = given-good _ _ c.requires.plan_value in
    let header : c.ruled-h.result ≡ header_for g = c.ruled-h.ensures ∙ ap ruled c.numbers.ensures in
    let h = header_for g in
    let t = c.requires.power_tables in
    let tested = (rw header at c.in_ok-tables_verdict.ensures) ∙ tables-tested g good.small _ _ t in
    (rw header at c.finish.ensures)
    ∙ made-equal h good.small _ _ _ _ t.row t.column c.args.plan.now
    ∙ sym (make-taken _ _ c.requires.plan_value tested refl)
