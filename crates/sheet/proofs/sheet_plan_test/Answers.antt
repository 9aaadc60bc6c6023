-- `sheet::sheet_plan_test` meets its contract: the number and places fit their fields. Assumes nothing.
use native.Mathlib.Omega.{arith}
use Rattle.answer.specs.Answer.{InRange}
use Rattle.sheet.specs.Calls.{verdict_fields, plan_answer}
use Rattle.sheet.proofs.Ranges.{plan-range}
use Rattle.sheet.proofs.sheet_plan_test.Goals as goal

pub pack_told-requires : goal.pack_told-requires
pack_told-requires c =
    let t = c.test in
    rw t.ensures.checked.verdict (plan-range c.args.plan.now)

pub returns : goal.returns
unfolding plan_answer
returns c = rw (← c.test.ensures.checked.verdict) c.pack_told.ensures
