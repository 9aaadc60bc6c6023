-- `stack::checks::room_checks` meets its contract. Assumes nothing.
use Rattle.boxcode.proofs.Check.{checks-fit}
use Rattle.boxcode.specs.Check.{data_size}
use Rattle.plan.proofs.Sequence.{stops, goes-on}
use Rattle.stack.proofs.checks.room_checks.Goals as goal

pub returns-in_err-numbers_length : goal.returns-in_err-numbers_length
returns-in_err-numbers_length c = stops _ _ _ c.from_residual.ensures.1 c.in_err-numbers_length.ensures

pub data_lengths-requires : goal.data_lengths-requires
data_lengths-requires c =
    let p = c.requires in
    record { small = c.args.accepted.accepted.framed.small; rh_bound = checks-fit _ c.args.accepted.accepted.formed; count_bound = p.count_bound }

pub returns : goal.returns
unfolding data_size
returns c = goes-on c.in_ok-numbers_length.ensures c.data_lengths.ensures
