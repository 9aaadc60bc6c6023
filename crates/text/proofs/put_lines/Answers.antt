use native.Mathlib.Omega.{arith}
use Rattle.text.specs.Text.{each, line_bytes, lines_text}
use Rattle.text.proofs.Putting.{put-none, each_put}
use Rattle.text.proofs.put_lines.Goals as goal

pub loop-x-init : goal.loop-x-init
unfolding each lines_text
loop-x-init c = (omega arith, put-none _ _)

pub loop-x-preserved : goal.loop-x-preserved
unfolding lines_text
loop-x-preserved c =
    let p = c.put_line-m.ensures in
    (omega (arith, p.upper_bound), each_put line_bytes _ _ c.loop-x-test.true c.loop-x.invariant.1 p.put)
