-- `stackform::place` meets its contract: no product of its numbers is over 64 million. Assumes nothing.
use mathlib.Core.Path.{refl}
use Prim.Native.Nat.{◌*◌, ◌≤◌}
use native.Mathlib.Nat.{mul-le-mul}
use native.Mathlib.Omega.{arith}
use Rattle.stackform.specs.Stack.{header_end, sheet_place}
use Rattle.stackform.proofs.place.Goals as goal

pub overflow_mul-result-2 : goal.overflow_mul-result-2
overflow_mul-result-2 c = let m : c.args.i * c.args.size ≤ 64 * 1000000 = mul-le-mul c.requires.2 c.requires.0 in omega arith

pub overflow_add-result-2 : goal.overflow_add-result-2
overflow_add-result-2 c = let m : c.args.i * c.args.size ≤ 64 * 1000000 = mul-le-mul c.requires.2 c.requires.0 in omega arith

pub returns : goal.returns
unfolding header_end sheet_place
returns c = refl
