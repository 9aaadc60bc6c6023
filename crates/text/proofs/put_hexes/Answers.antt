use native.Mathlib.Omega.{arith}
use Rattle.text.specs.Text.{each, hex_text, hex_bytes}
use Rattle.text.proofs.Putting.{put-none, each_put}
use Rattle.text.proofs.put_hexes.Goals as goal

pub loop-b-init : goal.loop-b-init
unfolding each hex_text
loop-b-init c = (omega arith, put-none _ _)

pub loop-b-preserved : goal.loop-b-preserved
unfolding hex_bytes hex_text
loop-b-preserved c =
    let p = c.put_hex-m.ensures in
    (omega (arith, p.past), each_put hex_bytes _ _ c.loop-b-test.true c.loop-b.invariant.1 p)
