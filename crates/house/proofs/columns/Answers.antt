-- `house::columns` meets its contract: the rule of the table is a test that the checker computes over all of its entries. Assumes nothing.
use mathlib.Core.Path.{refl}
use Rattle.gf2.specs.Xor.{◌⊕◌}
use Rattle.gf2.specs.Powers.{times_z, polynomial}
use Rattle.gf2.proofs.PowerTable.{followed}
use Rattle.house.specs.House.{house_polynomial, house_columns}
use Rattle.house.proofs.columns.Goals as goal

pub returns : goal.returns
unfolding house_columns house_polynomial polynomial times_z ◌⊕◌
returns c = followed house_polynomial 1 _ refl
