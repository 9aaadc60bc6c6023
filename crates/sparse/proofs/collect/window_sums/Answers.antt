use Rattle.std.proofs.Common.{◌≡◌, ◌∙◌, length, rules}
use Rattle.plan.specs.Table.{word_at}
use Rattle.sparse.proofs.Windows.{begun-start, begun-next, begun-stops}
use Rattle.sparse.proofs.collect.window_sums.Goals as goal

pub loop-k-init : goal.loop-k-init
loop-k-init c =
    let z = c.only_zero-count in
    let e : length z.new.sums ≡ length c.args.sums.now = search rules in
    begun-start c.args.t (word_at c.args.words.now) c.args.first (e ∙ c.requires.long) z.ensures

pub returns-in_err-count : goal.returns-in_err-count
returns-in_err-count c =
    rw c.from_residual.ensures (begun-stops c.loop-k.invariant c.args.size c.loop-k-test.true c.in_err-count.ensures)

pub loop-k-preserved : goal.loop-k-preserved
loop-k-preserved c = begun-next c.loop-k.invariant c.in_ok-count.ensures
