-- `stack::reading::read_sheet` meets its contract: what is told of the sheet is what its read answers. Assumes nothing.
use mathlib.Core.Path.{ap, ◌∙◌}
use Rattle.stack.specs.ReadStack.{number_bytes, lent}
use Rattle.stack.proofs.reading.read_sheet.Goals as goal

pub read_lent-read-requires : goal.read_lent-read-requires
read_lent-read-requires c =
    let p = c.requires in
    record { unpacked = p.unpacked; sheet_len = p.sheet_len; bits_len = p.bits_len }

pub returns : goal.returns
unfolding number_bytes
returns c =
    let p = rw c.tell.ensures at c.put_numbers.ensures in
    let e = c.read_lent-read.ensures in
    let n = p ∙ ap number_bytes e in
    λ k. lent (e k).sheet (n k) (e k).bits
