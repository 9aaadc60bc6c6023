use Rattle.std.proofs.Common.{◌≡◌, ℕ, Bool, ◌||◌, length, nat_eq, refl, ap, ◌∙◌, arith}
use Rattle.finite.specs.Search.{any_below}
use Rattle.plan.specs.Table.{word_at}
use Rattle.sparse.specs.Sets.{one_of}
use Rattle.sparse.proofs.Marks.{any_last}
use Rattle.sparse.proofs.sums.among.Goals as goal

pub loop-sum-init : goal.loop-sum-init
unfolding any_below
loop-sum-init c = refl

pub loop-sum-preserved : goal.loop-sum-preserved
loop-sum-preserved c =
    let l = c.loop-sum in
    let p : ℕ → Bool = λ e. nat_eq (word_at c.args.sums.now e) c.args.x in
    ap (λ (b : Bool). b || p l.sum-index) l.invariant ∙ any_last l.sum-index p

pub returns : goal.returns
unfolding one_of
returns c =
    let a = c.args in
    let e : c.loop-sum.sum-index ≡ length a.sums.now = omega arith in
    rw e at c.loop-sum.invariant
