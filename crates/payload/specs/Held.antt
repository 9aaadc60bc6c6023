-- The data bit that a cell holds, turned over.
--
--   bit_turned c i j bits       a string of data with the bit that cell (i, j) holds turned over; a check cell holds none
--   bit_turned_if b c i j bits  the same if b holds, else the data as it was
use Rattle.std.specs.Prelude.{ℕ, Bool, cond, List}
use Rattle.layout.specs.Cells.{turned}
use Rattle.boxcode.specs.Code.{Code, cell_number}
use Rattle.boxcode.specs.Check.{check_at, data_order, data_size, rank}

unfoldable pub bit_turned : Code → ℕ → ℕ → List ℕ → List ℕ
bit_turned c i j bits =
    let t = cell_number c i j in
    cond (check_at c t) bits (turned (data_size c) bits 0 (rank c (data_order c t)))

abbrev pub bit_turned_if : Bool → Code → ℕ → ℕ → List ℕ → List ℕ
bit_turned_if b c i j bits = cond b (bit_turned c i j bits) bits
