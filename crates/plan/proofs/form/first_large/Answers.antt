use Rattle.std.proofs.Common.{◌≤◌, ◌^◌, sym, arith}
use borrow.Author.Tests.{le-leb}
use Rattle.std.proofs.lemmas.Nat.{one_shl}
use Rattle.finite.proofs.Search.{search-finds, least-none}
use Rattle.plan.specs.Table.{entry_of}
use Rattle.plan.specs.Form.{first_large}
use Rattle.plan.proofs.form.first_large.Goals as goal

pub returns-then-limit-entry : goal.returns-then-limit-entry
unfolding first_large
returns-then-limit-entry c =
    let a = c.args in
    let l : 2 ^ a.width ≤ entry_of a.view.plan.now a.view.header a.t c.loop-k.k = omega (arith, one_shl a.width 64 (omega arith)) in
    search-finds _ _ _ c.loop-k-test.true c.loop-k.invariant (le-leb _ _ l)

pub returns : goal.returns
unfolding first_large
returns c = sym (least-none _ _ (λ j l. c.loop-k.invariant j (omega arith)))
