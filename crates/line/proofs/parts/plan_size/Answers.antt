-- `line::parts::plan_size` meets its contract: under 22 bytes, all are the plan. Assumes nothing.
use native.Mathlib.Omega.{arith}
use Rattle.line.specs.Line.{plan_size}
use Rattle.line.proofs.parts.plan_size.Goals as goal

pub returns-then-input-lt-LENGTH : goal.returns-then-input-lt-LENGTH
unfolding plan_size
returns-then-input-lt-LENGTH c = omega arith

pub returns : goal.returns
unfolding plan_size
returns c = omega (arith, c.u16_at.ensures.value)
