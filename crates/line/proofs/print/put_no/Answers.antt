-- `line::print::put_no` meets its contract. Assumes nothing.
use native.Mathlib.Omega.{arith}
use Rattle.line.specs.Line.{no_line}
use Rattle.text.proofs.Putting.{put-more}
use Rattle.line.proofs.print.put_no.Goals as goal

pub returns : goal.returns
unfolding no_line
returns c =
    -- after each field, from the last to the first
    let number = put-more c.put_word-a.ensures c.put_field-b.ensures.put in
    let places = put-more (put-more number c.put_field-c.ensures.put) c.put_field-d.ensures.put in
    record { put = put-more places c.put_byte.ensures; upper_bound = omega arith }
