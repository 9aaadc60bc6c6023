-- `accept::checks::joined` meets its contract: the two numbers stand in digits of their own, and fit a word. Assumes nothing.
use mathlib.Core.Path.{◌≡◌}
use Prim.Native.Nat.{◌*◌, ◌%◌, ◌^◌}
use native.Mathlib.Omega.{arith}
use Rattle.accept.proofs.JointEntries.{shift-exact, joined-fits}
use Rattle.accept.proofs.checks.joined.Goals as goal

pub overflow_mul-result : goal.overflow_mul-result
overflow_mul-result c =
    let exact : 1 * 2 ^ c.args.rv % 18446744073709551616 ≡ 2 ^ c.args.rv = shift-exact c.args.rv c.requires.0 in
    let p = c.requires in rw exact (omega (arith, joined-fits _ _ _ p.0 p.1 p.2))

pub overflow_add-result : goal.overflow_add-result
overflow_add-result c =
    let exact : 1 * 2 ^ c.args.rv % 18446744073709551616 ≡ 2 ^ c.args.rv = shift-exact c.args.rv c.requires.0 in
    let p = c.requires in rw exact (omega (arith, joined-fits _ _ _ p.0 p.1 p.2))

pub returns : goal.returns
returns c =
    let exact : 1 * 2 ^ c.args.rv % 18446744073709551616 ≡ 2 ^ c.args.rv = shift-exact c.args.rv c.requires.0 in
    rw exact
