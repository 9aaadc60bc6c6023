-- `position::cursor::checks_before` meets its contract. The invariant: the first q check cells stand before number t. Assumes nothing.
use Rattle.plan.specs.Bytes.{code_with}
use Rattle.position.proofs.Before.{UpTo}
use Rattle.position.proofs.cursor.checks_before.Given as goal

abbrev pub invariant-loop-q : goal.invariant-loop-q
invariant-loop-q l = UpTo (code_with l.view.plan.now l.view.header) l.t l.q
