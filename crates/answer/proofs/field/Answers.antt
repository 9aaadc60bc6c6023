-- `answer::field` meets its contract: the unit and the size are not 0, so both divisions are good. Assumes nothing.
use Rattle.answer.proofs.field.Goals as goal

pub returns-then-told : goal.returns-then-told
returns-then-told c = simp c.if-told.true
