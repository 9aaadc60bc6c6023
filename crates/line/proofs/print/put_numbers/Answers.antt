-- `line::print::put_numbers` meets its contract. Assumes nothing.
use native.Mathlib.Omega.{arith}
use Rattle.line.specs.Line.{numbers}
use Rattle.text.proofs.Putting.{put-more}
use Rattle.line.proofs.print.put_numbers.Goals as goal

pub returns : goal.returns
unfolding numbers
returns c =
    -- after each field, from the last to the first
    let cells = put-more c.put_field-a.ensures.put c.put_field-b.ensures.put in
    let corner = put-more cells c.put_field-c.ensures.put in
    let sizes = put-more (put-more corner c.put_field-d.ensures.put) c.put_field-e.ensures.put in
    record { put = put-more sizes c.put_field.ensures.put; upper_bound = omega arith }
