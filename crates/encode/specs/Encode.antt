-- The bytes of a plan (document 01, "Plan bytes"): numbers of 16 and 32 bits, low byte first.
--
--   header_bytes h              the eleven numbers of a header, 16 bits each
--   table_bytes n f             n entries of a table, 32 bits each
--   list_bytes n row column     n pairs of the check list, row then column, 16 bits each
--   plan_bytes h c              the header h, and the row table, the column table and the check list of the code c
use Rattle.std.specs.Prelude.{ℕ, ◌+◌, ◌*◌, List, ◌++◌}
use Rattle.layout.specs.Number.{low_bytes}
use Rattle.layout.specs.Joined.{joined}
use Rattle.boxcode.specs.Code.{Code}
use Rattle.plan.specs.declared.header.Header.{Header}

unfoldable pub header_bytes : Header → List ℕ
header_bytes h =
    low_bytes 2 h.n1
    ++ (low_bytes 2 h.n2
    ++ (low_bytes 2 h.b1
    ++ (low_bytes 2 h.b2
    ++ (low_bytes 2 h.rv
    ++ (low_bytes 2 h.rh
    ++ (low_bytes 2 h.rows
    ++ (low_bytes 2 h.columns
    ++ (low_bytes 2 h.checks
    ++ (low_bytes 2 h.total
    ++ low_bytes 2 h.t)))))))))

unfoldable pub table_bytes : ℕ → (ℕ → ℕ) → List ℕ
table_bytes n f = joined n (λ k. low_bytes 4 (f k))

unfoldable pub list_bytes : ℕ → (ℕ → ℕ) → (ℕ → ℕ) → List ℕ
list_bytes n row column = joined n (λ k. low_bytes 2 (row k) ++ low_bytes 2 (column k))

unfoldable pub plan_bytes : Header → Code → List ℕ
plan_bytes h c =
    header_bytes h
    ++ (table_bytes (c.n1 * c.b2) c.row_entry
    ++ (table_bytes (c.n2 * c.b1) c.column_entry
    ++ list_bytes (c.rv + c.rh) c.check_row c.check_column))
