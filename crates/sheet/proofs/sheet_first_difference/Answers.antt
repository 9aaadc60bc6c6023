-- `sheet::sheet_first_difference` meets its contract: the part, its start and its length packed. Assumes nothing.
use mathlib.Core.Path.{◌≡◌, ap, ◌∙◌}
use Prim.Native.Nat.{◌-◌}
use native.Mathlib.Omega.{arith}
use Rattle.answer.specs.Answer.{packed_part}
use Rattle.difference.specs.declared.Part.{Part}
use Rattle.sheet.specs.Calls.{difference_answer}
use Rattle.sheet.proofs.Ranges.{PartFits, part-range}
use Rattle.sheet.proofs.sheet_first_difference.Goals as goal

pub overflow_sub-part : goal.overflow_sub-part
overflow_sub-part c =
    let fits : PartFits c.differing_part-part.result = rw c.differing_part-part.ensures (part-range _ _ _) in
    fits.ordered

pub pack_part-requires : goal.pack_part-requires
pack_part-requires c =
    let fits : PartFits c.differing_part-part.result = rw c.differing_part-part.ensures (part-range _ _ _) in
    let f = fits in (omega arith, omega arith)

pub returns : goal.returns
unfolding difference_answer
returns c =
    let part = c.differing_part-part.result in
    let e : c.pack_part.result ≡ packed_part part.start (part.end - part.start) = c.pack_part.ensures in
    e ∙ ap (λ (p : Part). packed_part p.start (p.end - p.start)) c.differing_part-part.ensures
