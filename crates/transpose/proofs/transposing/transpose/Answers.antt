use Rattle.transpose.proofs.Transposed.{begun_all}
use Rattle.transpose.proofs.transposing.transpose.Goals as goal

pub returns : goal.returns
returns c = begun_all _ _ _ _ _ c.loop-j.invariant c.loop-j-test.false
