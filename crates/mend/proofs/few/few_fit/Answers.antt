-- `mend::few::few_fit` meets its contract: no word, one, or two. Assumes nothing.
use native.Mathlib.Omega.{arith}
use lib.ListN.{length}
use Rattle.plan.specs.Table.{word_at}
use Rattle.mend.proofs.FewFits.{shifted, none-fits, one-fits, nothing-fits, pair-few}
use Rattle.mend.proofs.few.few_fit.Goals as goal

pub returns-then-v-eq0 : goal.returns-then-v-eq0
returns-then-v-eq0 c = rw c.if-v-eq0.true (none-fits c.args.t c.requires.1 (word_at c.args.words.now) (length c.args.words.now))

pub returns-in-Some : goal.returns-in-Some
returns-in-Some c =
    let words = c.args.words.now in
    let k = c.in-Some.k in
    let e = c.in-Some.ensures in
    rw (shifted k (omega (arith, e.0, c.requires.0))) (one-fits c.args.t c.requires.1 (word_at words) (length words) k c.args.v e.0 e.1)

pub returns-then-t-ne2 : goal.returns-then-t-ne2
returns-then-t-ne2 c =
    let words = c.args.words.now in
    nothing-fits c.args.t c.requires.1 (word_at words) (length words) c.requires.2 c.args.v c.if-v-eq0.false c.in_default.ensures
    (λ e. absurd (c.if-t-ne2.true e))

pub returns : goal.returns
returns c =
    let words = c.args.words.now in
    pair-few c.args.t (word_at words) (length words) c.args.v c.if-t-ne2.false c.if-v-eq0.false c.in_default.ensures c.pair_fit.result c.pair_fit.ensures
