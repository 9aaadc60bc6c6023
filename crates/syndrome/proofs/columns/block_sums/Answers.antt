use mathlib.Core.Path.{◌≡◌, sym, ap, ◌∙◌}
use Prim.Native.Nat.{ℕ, ◌+◌, ◌%◌}
use native.Mathlib.Nat.{zero-mod, mod-add-mod}
use native.Mathlib.Omega.{arith}
use Rattle.syndrome.proofs.Block.{passed_none, passed-next, passed-all}
use Rattle.syndrome.proofs.columns.block_sums.Goals as goal

pub loop-j-init : goal.loop-j-init
loop-j-init c = (sym (zero-mod _), passed_none _ _ _)

pub loop-j-preserved : goal.loop-j-preserved
loop-j-preserved c =
    let b2 = c.args.h.b2 in
    let l = c.loop-j in
    let q : c.after-q.result ≡ (l.j + 1) % b2 = c.after-q.ensures ∙ ap (λ (y : ℕ). (y + 1) % b2) l.invariant.0 ∙ mod-add-mod l.j b2 1 in
    (q, rw c.bitxor-held.ensures (passed-next _ _ _ _ _ _ l.invariant.1 c.part_sums.ensures))

pub returns : goal.returns
returns c =
    let e : c.loop-j.j ≡ c.args.h.n2 = omega arith in
    passed-all _ _ _ _ (rw e at c.loop-j.invariant.1)
