-- `text::put_field` meets its contract. Assumes nothing.
use native.Mathlib.Omega.{arith}
use Rattle.text.specs.Text.{field}
use Rattle.text.proofs.Putting.{put-more, decimal-most}
use Rattle.text.proofs.put_field.Goals as goal

pub returns : goal.returns
unfolding field
returns c =
    let p = c.put_byte-m.ensures in
    let q = c.put_decimal.ensures in
    let m = decimal-most 19 c.args.x (omega arith) in
    record { put = put-more p q; upper_bound = omega (arith, p.past, q.past) }
