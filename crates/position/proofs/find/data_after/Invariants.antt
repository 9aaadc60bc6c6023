-- `position::find::data_after` meets its contract. The invariant: the first q check cells stand before number count + q. Assumes nothing.
use Prim.Native.Nat.{◌+◌}
use Rattle.plan.specs.Bytes.{code_with}
use Rattle.position.proofs.Before.{UpTo}
use Rattle.position.proofs.find.data_after.Given as goal

abbrev pub invariant-loop-q : goal.invariant-loop-q
invariant-loop-q l = UpTo (code_with l.view.plan.now l.view.header) (l.count + l.q) l.q
