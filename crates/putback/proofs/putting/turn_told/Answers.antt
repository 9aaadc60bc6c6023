-- `putback::putting::turn_told` meets its contract: the cells told are those of the pattern in the rectangle. Assumes nothing.
use mathlib.Core.Path.{◌≡◌}
use Rattle.layout.specs.declared.stored.Layout.TheVariants.{ByRow}
use Rattle.plan.specs.Bytes.{code_with}
use Rattle.reader.specs.Turn.{box_turned}
use Rattle.putback.proofs.Told.{told-burst}
use Rattle.putback.proofs.Made.{Taken, taken_out}
use Rattle.putback.proofs.Passing.{back_none, turn-needs, back-turned}
use Rattle.putback.proofs.putting.turn_told.Goals as goal

pub returns-then-answer-eq0 : goal.returns-then-answer-eq0
returns-then-answer-eq0 c = rw c.if-answer-eq0.true (back_none (code_with c.args.accepted.view.plan.now c.args.accepted.view.header) _ c.requires.right_form)

pub returns : goal.returns
returns c =
    let fields : Taken c.args.answer c.unpack-told.result = taken_out c.unpack-told.ensures in
    let a = c.unpack-told.result in
    let e : c.turn_box.new.sheet
    ≡ box_turned ByRow c.args.accepted.view.header.n1 c.args.accepted.view.header.n2 c.args.sheet.now a.top a.left a.height a.width a.pattern = c.turn_box.ensures in
    back-turned _ c.args.sheet.now c.requires.right_form c.args.accepted.accepted.formed _ (told-burst _ _ c.requires.answer_value) c.if-answer-eq0.false fields e

pub turn_box-requires : goal.turn_box-requires
turn_box-requires c =
    let fields : Taken c.args.answer c.unpack-told.result = taken_out c.unpack-told.ensures in
    let f = c.requires.right_form in
    let n = turn-needs _ c.args.sheet.now f c.args.accepted.accepted.formed _ (told-burst _ _ c.requires.answer_value) c.if-answer-eq0.false fields in
    record { burst_size = n.0; rectangle = n.1; sheet_len = f.size }
