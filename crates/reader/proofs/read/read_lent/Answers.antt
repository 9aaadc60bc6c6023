-- `reader::read::read_lent` meets its contract: only a sheet of the right form goes on to the mend. Assumes nothing.
use mathlib.Core.Path.{◌∙◌}
use Rattle.plan.proofs.Sequence.{passed, turned-back}
use Rattle.buffers.proofs.Passing.{unused-right}
use Rattle.reader.proofs.Outcome.{told-refusal, unused-refuses, unused-mends}
use Rattle.reader.proofs.read.read_lent.Goals as goal

pub returns-in_err-sheet_unused : goal.returns-in_err-sheet_unused
returns-in_err-sheet_unused c =
    let p = c.requires in
    let e = c.in_err-sheet_unused.ensures in
    rw (told-refusal _ _ c.from_residual.ensures.1, e)
    (unused-refuses _ _ _ _ c.args.accepted.view.header c.args.accepted.accepted p.sheet_len p.bits_len (turned-back _ e))

pub mend_sheet-requires : goal.mend_sheet-requires
mend_sheet-requires c =
    let p = c.requires in
    record {
      unpacked = p.unpacked;
      form_in = unused-right _ _ _ _ p.sheet_len (passed c.in_ok-sheet_unused.ensures);
      bits_len = p.bits_len;
    }

pub returns : goal.returns
returns c =
    let p = c.requires in
    c.mend_sheet.ensures
    ∙ unused-mends _ _ _ _ c.args.accepted.view.header c.args.accepted.accepted p.sheet_len p.bits_len (passed c.in_ok-sheet_unused.ensures)
