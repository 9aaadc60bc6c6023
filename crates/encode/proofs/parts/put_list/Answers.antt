use Prim.Native.Nat.{ℕ, ◌/◌, ◌%◌, ◌<◌}
use native.Mathlib.Omega.{arith}
use lib.ListN.{length-take}
use lib.Seq.{get_or-take}
use Rattle.plan.specs.Table.{word_at}
use Rattle.encode.proofs.Pieces.{list-none, list-next}
use Rattle.encode.proofs.parts.put_list.Goals as goal

pub loop-k-init : goal.loop-k-init
loop-k-init c = list-none _ _ _ _

pub loop-k-preserved : goal.loop-k-preserved
loop-k-preserved c =
    let a = c.args in
    let cell = word_at a.cells.now in
    let l : c.loop-k.k < a.count = omega (arith, length-take {A = ℕ}) in
    list-next (λ k. cell k / a.n2) (λ k. cell k % a.n2) _ _ _ _ _ c.loop-k.invariant (simp get_or-take at c.put_pair.ensures)
