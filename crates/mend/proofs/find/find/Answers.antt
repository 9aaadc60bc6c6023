-- `mend::find::find` meets its contract. Assumes nothing.
use Rattle.std.specs.Prelude.{Some, None}
use Rattle.plan.specs.Bytes.{code_with}
use Rattle.mend.specs.Found.{burst_at}
use Rattle.mend.proofs.First.{found-for}
use Rattle.mend.proofs.Decision.{zero-burst, zero-none, search-decides}
use Rattle.mend.proofs.find.find.Goals as goal

pub returns-then-v-ne0 : goal.returns-then-v-ne0
returns-then-v-ne0 c = rw c.search.ensures (search-decides _ _ _ c.args.accepted.accepted c.requires.unpacked _ _)

pub returns-then-s-ne0 : goal.returns-then-s-ne0
returns-then-s-ne0 c =
    let k = code_with c.args.accepted.view.plan.now c.args.accepted.view.header in
    let A = c.args.accepted.accepted in
    rw c.if-v-ne0.false (found-for k _ _ None (zero-none k A.formed A.conditions _ c.if-s-ne0.true))

pub returns : goal.returns
returns c =
    let k = code_with c.args.accepted.view.plan.now c.args.accepted.view.header in
    let A = c.args.accepted.accepted in
    rw (c.if-v-ne0.false, c.if-s-ne0.false) (found-for k _ _ (Some (burst_at 0 0 0)) (zero-burst k A.formed A.conditions))
