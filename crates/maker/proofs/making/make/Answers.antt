-- `maker::making::make` meets its contract: nothing is made before the numbers are good. Assumes nothing.
use Rattle.plan.proofs.Sequence.{passed, refused, hands-on}
use Rattle.maker.proofs.Outcomes.{make-given}
use Rattle.maker.proofs.making.make.Goals as goal

pub returns-in_err-given_checks : goal.returns-in_err-given_checks
returns-in_err-given_checks c =
    let s = c.from_residual.ensures.1 in make-given _ _ (hands-on _ _ s c.in_err-given_checks.ensures) (refused _ _ s)

pub make_checked-requires : goal.make_checked-requires
make_checked-requires c = passed c.in_ok-given_checks.ensures
