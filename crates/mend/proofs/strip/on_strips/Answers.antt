-- `mend::strip::on_strips` meets its contract. Assumes nothing.
use Prim.Native.Nat.{◌+◌, ◌-◌}
use native.Mathlib.Omega.{arith}
use borrow.Author.Tests.{lt-ltb, le-ltb}
use Rattle.mend.specs.Strip.{on_strips}
use Rattle.mend.proofs.strip.on_strips.Goals as goal

pub returns-then-h-a : goal.returns-then-h-a
unfolding on_strips
returns-then-h-a c =
    let f = c.first_strip-a in
    let h = c.args.h in
    rw (← f.ensures, le-ltb f.result (h.n2 - h.b2 + 1) (omega arith))

pub returns : goal.returns
unfolding on_strips
returns c =
    let f = c.first_strip-a in
    let h = c.args.h in
    rw (← f.ensures, lt-ltb f.result (h.n2 - h.b2 + 1) (omega arith), c.box_pattern.ensures)
