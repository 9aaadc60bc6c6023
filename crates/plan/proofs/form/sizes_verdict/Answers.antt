-- `plan::form::sizes_verdict` meets its contract: the first check that fails answers. Assumes nothing.
use Rattle.plan.specs.Form.{sizes_verdict}
use Rattle.plan.proofs.Sequence.{stops, goes-on}
use Rattle.plan.proofs.form.sizes_verdict.Goals as goal

pub returns-in_err-refuse_if : goal.returns-in_err-refuse_if
unfolding sizes_verdict
returns-in_err-refuse_if c = rw (← c.bad_burst.ensures) (stops _ _ _ c.from_residual.ensures.1 c.in_err-refuse_if.ensures)

pub returns-in_err-refuse_if-2 : goal.returns-in_err-refuse_if-2
unfolding sizes_verdict
returns-in_err-refuse_if-2 c =
    let s = c.from_residual-in_err-refuse_if-2.ensures.1 in
    rw (← c.bad_burst.ensures, ← c.bad_sheet.ensures)
    (goes-on c.in_ok-refuse_if.ensures (stops _ _ _ s c.in_err-refuse_if-2.ensures))

pub returns-in_err-refuse_if-3 : goal.returns-in_err-refuse_if-3
unfolding sizes_verdict
returns-in_err-refuse_if-3 c =
    let s = c.from_residual-in_err-refuse_if-3.ensures.1 in
    rw (← c.bad_burst.ensures, ← c.bad_sheet.ensures, ← c.bad_widths.ensures)
    (goes-on c.in_ok-refuse_if.ensures (goes-on c.in_ok-refuse_if-2.ensures (stops _ _ _ s c.in_err-refuse_if-3.ensures)))

pub returns : goal.returns
unfolding sizes_verdict
returns c =
    rw (← c.bad_burst.ensures, ← c.bad_sheet.ensures, ← c.bad_widths.ensures, ← c.bad_cells.ensures)
    (goes-on c.in_ok-refuse_if.ensures (goes-on c.in_ok-refuse_if-2.ensures (goes-on c.in_ok-refuse_if-3.ensures c.refuse_if-4.ensures)))
