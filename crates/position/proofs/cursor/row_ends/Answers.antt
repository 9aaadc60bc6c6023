-- `position::cursor::row_ends` meets its contract. Assumes nothing.
use Prim.Native.Nat.{◌+◌}
use native.Mathlib.Omega.{arith}
use Rattle.position.proofs.Size.{pair-most}
use Rattle.position.proofs.Before.{ends-are, checks-most, checks-rise}
use Rattle.position.proofs.cursor.row_ends.Goals as goal

pub overflow_mul-next : goal.overflow_mul-next
overflow_mul-next c = let m = c.args.view.framed.small in omega (arith, pair-most _ m (c.args.row + 1) (omega arith))

pub checks_before-past-requires : goal.checks_before-past-requires
checks_before-past-requires c =
    let p = c.requires in
    record { formed = p.formed; known_bound = checks-rise _ _ _ p.check_value }

pub overflow_mul-result : goal.overflow_mul-result
overflow_mul-result c =
    let m = c.args.view.framed.small in
    omega (arith, pair-most _ m c.args.row (omega arith))

pub overflow_sub-result : goal.overflow_sub-result
overflow_sub-result c = checks-most _ _ _ c.requires.check_value

pub overflow_sub-result-2 : goal.overflow_sub-result-2
overflow_sub-result-2 c = checks-most _ _ _ c.checks_before-past.ensures

pub overflow_add-result : goal.overflow_add-result
overflow_add-result c =
    let m = c.args.view.framed.small in
    omega (arith, pair-most _ m c.args.row (omega arith), pair-most _ m (c.args.row + 1) (omega arith))

pub returns : goal.returns
returns c = ends-are _ _ _ _ c.requires.check_value c.checks_before-past.ensures
