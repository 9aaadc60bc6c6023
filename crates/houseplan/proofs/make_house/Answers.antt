-- `houseplan::make_house` meets its contract: nothing is made before the buffer's length is known to be right. Assumes nothing.
use Rattle.plan.proofs.Sequence.{passed, refused, hands-on}
use Rattle.maker.proofs.Outcomes.{make-given}
use Rattle.houseplan.proofs.make_house.Goals as goal

pub returns-in_err-given_checks : goal.returns-in_err-given_checks
returns-in_err-given_checks c =
    let s = c.from_residual.ensures.1 in
    make-given _ _ (hands-on _ _ s (rw c.parameters.ensures at c.in_err-given_checks.ensures)) (refused _ _ s)

pub make_checked-requires : goal.make_checked-requires
make_checked-requires c = passed (rw c.parameters.ensures at c.in_ok-given_checks.ensures)
