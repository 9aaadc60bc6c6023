-- The row where two scans of one film first differ (document 02, request g).
--
--   row_differs c first second i    some cell of row i differs
--   differing_row c first second    the first row in which a cell differs, or n1 where none does
--   row_part n2 i                   the part that the bytes of row i are
--   no_part                         an empty part
--   difference plan first second    the part of that row, where the checks pass and a row differs; else the empty part
--   part_of p s                     the bytes of s from the start of the part up to but not including its end
use Rattle.std.specs.Prelude.{ℕ, ◌+◌, ◌-◌, ◌*◌, Bool, cond, ◌&&◌, List, eqb, ltb, take, drop}
use Rattle.std.specs.Bool.{xor}
use Rattle.finite.specs.Search.{any_below, least}
use Rattle.layout.specs.Cells.{row_bytes, cell_of}
use Rattle.boxcode.specs.Code.{Code}
use Rattle.plan.specs.Bytes.{code_of}
use Rattle.buffers.specs.Buffers.{scans_checks}
use Rattle.difference.specs.declared.Part.{Part}

unfoldable pub row_differs : Code → (first second : List ℕ) → ℕ → Bool
row_differs c first second i = any_below c.n2 (λ j. xor (cell_of c.n2 first i j) (cell_of c.n2 second i j))

unfoldable pub differing_row : Code → (first second : List ℕ) → ℕ
differing_row c first second = least c.n1 (row_differs c first second)

unfoldable pub row_part : ℕ → ℕ → Part
row_part n2 i = record { start = i * row_bytes n2; end = (i + 1) * row_bytes n2 }

abbrev pub no_part : Part
no_part = record { start = 0; end = 0 }

unfoldable pub difference : (plan first second : List ℕ) → Part
difference plan first second =
    let c = code_of plan in
    let i = differing_row c first second in
    cond (eqb (scans_checks plan first second).number 0 && ltb i c.n1) (row_part c.n2 i) no_part

unfoldable pub part_of : Part → List ℕ → List ℕ
part_of p s = take (p.end - p.start) (drop p.start s)
