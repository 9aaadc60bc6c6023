-- `line::whole::read_line` meets its contract: the line goes by whether there is a report. Assumes nothing.
use mathlib.Core.Path.{refl, ap, ◌∙◌}
use Rattle.plan.proofs.Sequence.{turned-back}
use Rattle.line.specs.Line.{line_from}
use Rattle.text.proofs.Putting.{put_as}
use Rattle.line.proofs.Lines.{no-from, ok_from}
use Rattle.line.proofs.whole.read_line.Goals as goal

pub returns-in-Ok : goal.returns-in-Ok
returns-in-Ok c =
    let p = c.put_ok.ensures in
    record { put = put_as p.put (ok_from _ refl ∙ ap line_from c.in-Ok.ensures); upper_bound = p.upper_bound }

pub returns-in-Err : goal.returns-in-Err
returns-in-Err c =
    let p = rw c.told.ensures at c.put_no.ensures in
    record { put = put_as p.put (no-from _ (turned-back c.in-Err.refusal refl) ∙ ap line_from c.in-Err.ensures); upper_bound = p.upper_bound }
