-- `gf2::powers::times_z` meets its contract: 32 digits have room to be doubled. Assumes nothing.
use Rattle.gf2.specs.Xor.{◌⊕◌}
use Rattle.gf2.specs.Powers.{times_z}
use Rattle.gf2.proofs.powers.times_z.Goals as goal

pub returns : goal.returns
unfolding times_z ◌⊕◌
returns c = c.min.ensures
