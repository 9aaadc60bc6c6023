-- Check cells, the order of the data, and the sheet written from a string of data (document 01, "Sheet and data"; the order: 02 c).
--
--   check_at        number t in sheet order is a check cell
--   check_index     the place in the check list of the check cell with number t
--   runs_down       the data of row i runs from the highest column down: in odd rows
--   data_column     the column of the cell at place j of row i, in the order in which data runs
--   data_order      from the place in the order in which data runs to the number in sheet order
--   data_size       k, the number of data bits
--   rank            how many data cells come before the place t of the data's order
--   data_cell       the number in sheet order of the cell that holds data bit d
--   fill            the sheet that holds data x in its data cells and digit k of y in check cell k
--   written         the sheet written from data x: with the first y that makes both sums 0
--   data_of         the data that a sheet holds
use Rattle.std.specs.Prelude.{ℕ, ◌+◌, ◌-◌, ◌*◌, ◌/◌, ◌%◌, ◌^◌, Bool, cond, not, ◌&&◌, eqb}
use Rattle.finite.specs.Search.{bit, any_below, count_below, least}
use Rattle.boxcode.specs.Code.{Code, cell_number}
use Rattle.boxcode.specs.Syndrome.{Cells, row_syndrome, column_syndrome}

-- a string of bits
abbrev pub Bits : Type 0
Bits = ℕ → Bool

unfoldable pub check_number : Code → ℕ → ℕ
check_number c k = cell_number c (c.check_row k) (c.check_column k)

unfoldable pub check_at : Code → ℕ → Bool
check_at c t = any_below (c.rv + c.rh) (λ k. eqb (check_number c k) t)

unfoldable pub check_index : Code → ℕ → ℕ
check_index c t = least (c.rv + c.rh) (λ k. eqb (check_number c k) t)

unfoldable pub runs_down : ℕ → Bool
runs_down i = eqb (i % 2) 1

unfoldable pub data_column : Code → ℕ → ℕ → ℕ
data_column c i j = cond (runs_down i) (c.n2 - 1 - j) j

unfoldable pub data_order : Code → ℕ → ℕ
data_order c t = cell_number c (t / c.n2) (data_column c (t / c.n2) (t % c.n2))

unfoldable pub data_size : Code → ℕ
data_size c = c.n1 * c.n2 - (c.rv + c.rh)

unfoldable pub rank : Code → ℕ → ℕ
rank c t = count_below t (λ u. not (check_at c (data_order c u)))

unfoldable pub data_cell : Code → ℕ → ℕ
data_cell c d =
    data_order c (least (c.n1 * c.n2) (λ t. not (check_at c (data_order c t)) && eqb (rank c t) d))

-- data_order is its own inverse, so it also gives the place in the data's order of a number in sheet order
unfoldable pub fill : Code → Bits → ℕ → Cells
fill c x y i j =
    cond (check_at c (cell_number c i j)) (bit y (check_index c (cell_number c i j)))
    (x (rank c (data_order c (cell_number c i j))))

unfoldable pub belongs : Code → Cells → Bool
belongs c s = eqb (row_syndrome c s) 0 && eqb (column_syndrome c s) 0

unfoldable pub written : Code → Bits → Cells
written c x = fill c x (least (2 ^ (c.rv + c.rh)) (λ y. belongs c (fill c x y)))

unfoldable pub data_of : Code → Cells → Bits
data_of c s d = s (data_cell c d / c.n2) (data_cell c d % c.n2)
