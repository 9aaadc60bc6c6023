-- `answer::above` meets its contract: it takes the report of a success, and else the places. Assumes nothing.
use borrow.Author.Tests.{eq-eqb, ne_eqb}
use Rattle.answer.proofs.above.Goals as goal

pub returns-then-a-eq0 : goal.returns-then-a-eq0
returns-then-a-eq0 c = simp (c.report_bits-report.ensures, eq-eqb _ _ c.if-a-eq0.true)

pub returns-else-a-eq0 : goal.returns-else-a-eq0
returns-else-a-eq0 c = simp (c.place_bits-places.ensures, ne_eqb _ _ c.if-a-eq0.false)
