-- `line::print::put_ok` meets its contract. Assumes nothing.
use native.Mathlib.Omega.{arith}
use Rattle.line.specs.Line.{ok_line}
use Rattle.text.proofs.Putting.{put-more}
use Rattle.line.proofs.print.put_ok.Goals as goal

pub returns : goal.returns
unfolding ok_line
returns c =
    let word = c.put_word-a.ensures in
    let six = c.put_numbers-b.ensures.put in
    let bits = c.put_data-c.ensures.put in
    let last = c.put_byte.ensures in
    record { put = put-more (put-more (put-more word six) bits) last; upper_bound = omega arith }
