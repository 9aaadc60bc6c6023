-- `gf2::empty_basis` meets its contract: 64 zeros. Assumes nothing.
use mathlib.Core.Path.{refl}
use Rattle.gf2.specs.Basis.{empty_words}
use Rattle.gf2.proofs.empty_basis.Goals as goal

pub returns : goal.returns
unfolding empty_words
returns c = refl
