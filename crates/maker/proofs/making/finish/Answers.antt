-- `maker::making::finish` meets its contract: a refusal leaves the buffer, and where enough cells are taken all of it is written.
-- Assumes nothing.
use mathlib.Core.Path.{◌≡◌, refl, ◌∙◌}
use Rattle.plan.specs.Table.{word_at}
use Rattle.plan.specs.Verdict.{accepted}
use Rattle.plan.proofs.Sequence.{passed, refused, hands-on}
use Rattle.maker.specs.Make.{taken_verdict}
use Rattle.maker.proofs.Outcomes.{outcome-refused, outcome-done}
use Rattle.maker.proofs.Tabled.{few-taken, held_bytes}
use Rattle.maker.proofs.making.finish.Goals as goal

pub returns-in_err-refuse_if : goal.returns-in_err-refuse_if
returns-in_err-refuse_if c =
    let a = c.args in
    let s = c.from_residual.ensures.1 in
    let few = c.in_err-refuse_if.ensures ∙ few-taken a.h a.rows.now a.columns.now _ c.take_cells-taken.ensures in
    outcome-refused _ _ (hands-on _ _ s few) (refused _ _ s)

pub encode-requires : goal.encode-requires
encode-requires c =
    let p = c.requires in
    record { small = p.small; h_value = p.h_value; plan_len = p.plan_len }

pub returns : goal.returns
returns c =
    let a = c.args in
    let few : accepted ≡ taken_verdict a.h (word_at a.rows.now) (word_at a.columns.now) =
    c.in_ok-refuse_if.ensures ∙ few-taken a.h a.rows.now a.columns.now _ c.take_cells-taken.ensures in
    let h = held_bytes a.h a.rows.now a.columns.now _ c.take_cells-taken.ensures (passed few) in
    outcome-done _ _ few refl (c.encode.ensures ∙ h)
