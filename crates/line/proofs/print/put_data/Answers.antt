-- `line::print::put_data` meets its contract: no data, no space. Assumes nothing.
use mathlib.Core.Path.{sym}
use native.Mathlib.Omega.{arith}
use borrow.Author.Tests.{eqb-true, eqb-false}
use Rattle.text.proofs.Putting.{put-none, put-more, put_as, hex-length}
use Rattle.line.proofs.Lines.{data-none, data-some}
use Rattle.line.proofs.print.put_data.Goals as goal

pub returns-then-is_empty-clause-put : goal.returns-then-is_empty-clause-put
returns-then-is_empty-clause-put c = put_as (put-none _ _) (sym (data-none _ (eqb-true _ _ (sym c.if-is_empty.ensures))))

pub returns-clause-put : goal.returns-clause-put
returns-clause-put c =
    put_as (put-more c.put_byte-m.ensures c.put_hexes.ensures) (data-some _ (eqb-false _ _ (sym c.if-is_empty.ensures)))

pub returns-clause-upper_bound : goal.returns-clause-upper_bound
returns-clause-upper_bound c =
    omega (arith, c.put_byte-m.ensures.past, c.put_hexes.ensures.past, hex-length c.args.bits.now)
