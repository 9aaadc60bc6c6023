-- `accept::conditions::failing` meets its contract: t is 0, or it is not. Assumes nothing.
use mathlib.Core.Path.{sym, ap, ◌∙◌}
use mathlib.Core.Bool.{Bool}
use Prim.Native.Nat.{ℕ}
use lib.ListN.{length}
use Rattle.plan.specs.Table.{word_at}
use Rattle.accept.specs.Pairs.{first_failing}
use Rattle.accept.specs.Windows.{start_of}
use Rattle.accept.proofs.Tables.{pass-any, pass-few}
use Rattle.accept.proofs.conditions.failing.Goals as goal

pub returns-then-most-eq0 : goal.returns-then-most-eq0
returns-then-most-eq0 c =
    let a = c.args in
    c.first_failing.ensures
    ∙ sym (ap (λ (ok : ℕ → ℕ → Bool). first_failing ok (start_of a.t) a.count)
    (pass-any a.t (word_at a.words.now) a.most (length a.words.now) a.step a.size c.if-most-eq0.true))

pub returns : goal.returns
returns c =
    let a = c.args in
    c.few_failing.ensures
    ∙ sym (ap (λ (ok : ℕ → ℕ → Bool). first_failing ok (start_of a.t) a.count)
    (pass-few a.t (word_at a.words.now) a.most (length a.words.now) a.step a.size c.if-most-eq0.false))
