-- `line::choice::search_for` meets its contract: what it hands on is the plan's part of the bytes. Assumes nothing.
use mathlib.Core.Path.{sym, ap, ◌∙◌}
use Prim.Native.Nat.{ℕ, ◌≤◌}
use native.Mathlib.Omega.{arith}
use lib.ListN.{length, take}
use lib.Seq.{length-take-le}
use Rattle.line.specs.Line.{plan_part}
use Rattle.line.specs.Choice.{search_for}
use Rattle.line.proofs.Lines.{parts-fit}
use Rattle.line.proofs.choice.search_for.Goals as goal

pub returns : goal.returns
unfolding plan_part
returns c = c.search_under.ensures ∙ ap (λ (n : ℕ). search_for (take n c.args.input.now)) c.plan_size-n.ensures

pub slice_bounds-search_under-end : goal.slice_bounds-search_under-end
slice_bounds-search_under-end c =
    let f = parts-fit c.args.input.now in
    let h : c.plan_size-n.result ≤ length c.args.input.now = omega (arith, c.plan_size-n.ensures) in
    sym (length-take-le _ _ h)
