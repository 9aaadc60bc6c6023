-- `difference::first_difference` meets its contract: the bytes of the part. Assumes nothing.
use mathlib.Core.Path.{ap}
use lib.ListN.{length}
use Rattle.difference.specs.declared.Part.{Part}
use Rattle.difference.specs.Difference.{part_of}
use Rattle.difference.proofs.Outcomes.{Inside, part-inside}
use Rattle.difference.proofs.first_difference.Goals as goal

pub returns : goal.returns
unfolding part_of
returns c = ap (λ (p : Part). part_of p c.args.second.now) c.differing_part-part.ensures

pub slice_bounds-result-count : goal.slice_bounds-result-count
slice_bounds-result-count c =
    let inside : Inside c.differing_part-part.result (length c.args.second.now) = rw c.differing_part-part.ensures (part-inside _ _ _) in
    inside.ordered

pub slice_bounds-result-start : goal.slice_bounds-result-start
slice_bounds-result-start c =
    let inside : Inside c.differing_part-part.result (length c.args.second.now) = rw c.differing_part-part.ensures (part-inside _ _ _) in
    inside.ordered

pub slice_bounds-result-end : goal.slice_bounds-result-end
slice_bounds-result-end c =
    let inside : Inside c.differing_part-part.result (length c.args.second.now) = rw c.differing_part-part.ensures (part-inside _ _ _) in
    inside.within
