-- `house::lay_columns` meets its contract. The invariant: the first k words are the first k powers. Assumes nothing.
use Rattle.gf2.specs.Powers.{PowersIn}
use Rattle.house.specs.House.{house_polynomial}
use Rattle.house.proofs.lay_columns.Given as goal

abbrev pub invariant-loop-k : goal.invariant-loop-k
invariant-loop-k l = PowersIn house_polynomial l.k l.initial.words l.words
