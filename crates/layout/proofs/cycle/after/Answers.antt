-- `layout::cycle::after` meets its contract. Assumes nothing.
use mathlib.Core.Path.{sym, ap, ◌∙◌}
use Prim.Native.Nat.{ℕ, ◌+◌, ◌%◌, ◌<◌}
use native.Mathlib.Nat.{mod_self, mod-eq_of_lt}
use native.Mathlib.Omega.{arith}
use Rattle.layout.proofs.cycle.after.Goals as goal

pub returns-then-next-b : goal.returns-then-next-b
returns-then-next-b c = sym (ap (λ (n : ℕ). n % c.args.b) c.if-next-b.true ∙ mod_self c.args.b)

pub returns-else-next-b : goal.returns-else-next-b
returns-else-next-b c =
    let a = c.args in
    let l : a.k + 1 < a.b = (let n = c.if-next-b.false in omega arith) in
    sym (mod-eq_of_lt l)
