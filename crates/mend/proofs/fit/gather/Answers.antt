use mathlib.Core.Path.{◌≡◌}
use Prim.Native.Nat.{ℕ, ◌*◌}
use native.Mathlib.Omega.{arith}
use lib.ListN.{length}
use Rattle.std.proofs.lemmas.List.{length-take}
use Rattle.plan.specs.Bytes.{code_with}
use Rattle.mend.proofs.Turns.{small-burst, box-size}
use Rattle.mend.proofs.Window.{rows_fit, gathered}
use Rattle.mend.proofs.fit.gather.Goals as goal

pub row_entry-requires : goal.row_entry-requires
row_entry-requires c =
    let h = c.args.view.header in
    omega (arith, rows_fit c.args.i h.b1 h.n1 h.b2 c.requires.b1_bound, length-take {A = ℕ})

pub returns : goal.returns
returns c =
    let h = c.args.view.header in
    let most = box-size (small-burst c.args.view.framed.small) in
    let size : length c.loop-k.word-items ≡ h.b1 * h.b2 = omega (arith, most, length-take {A = ℕ}) in
    gathered (code_with c.args.view.plan.now h) c.args.i c.loop-k.word-items most size (λ k l. c.loop-k.invariant k (omega arith))
