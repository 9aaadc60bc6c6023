-- Where a data bit stands.
--
--   Follows c n t   t is the number in sheet order of a data cell that has n data cells before it
--   Holds c d r     r is the cell that holds data bit d
use Rattle.std.specs.Prelude.{ℕ, ◌*◌, ◌/◌, ◌%◌, ◌<◌, ◌≡◌, false}
use Rattle.boxcode.specs.Code.{Code}
use Rattle.boxcode.specs.Check.{check_at, data_cell}
use Rattle.plan.specs.declared.view.Cell.{Cell}
use Rattle.position.specs.Walk.{data_before}

pub record Follows (c : Code) (n t : ℕ) : Type 0 where
  pub on : t < c.n1 * c.n2
  pub free : check_at c t ≡ false
  pub before : data_before c t ≡ n

pub record Holds (c : Code) (d : ℕ) (r : Cell) : Type 0 where
  pub row : r.row ≡ data_cell c d / c.n2
  pub column : r.column ≡ data_cell c d % c.n2
