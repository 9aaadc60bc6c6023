-- `text::put_line` meets its contract: a number has at most 20 digits. Assumes nothing.
use native.Mathlib.Omega.{arith}
use Rattle.text.specs.Text.{line_bytes}
use Rattle.text.proofs.Putting.{put-more, put-length, decimal-most}
use Rattle.text.proofs.put_line.Goals as goal

pub put_byte-requires : goal.put_byte-requires
put_byte-requires c =
    let p = c.put_decimal-m.ensures in
    let m = decimal-most 19 c.args.x (omega arith) in
    omega (arith, p.past, put-length p)

pub returns : goal.returns
unfolding line_bytes
returns c =
    let p = c.put_decimal-m.ensures in
    let q = c.put_byte.ensures in
    let m = decimal-most 19 c.args.x (omega arith) in
    record { put = put-more p q; upper_bound = omega (arith, p.past, q.past) }
