-- `trial::pattern::fits` meets its contract: where the sums are others, the cells are not counted. Assumes nothing.
use mathlib.Core.Path.{refl, sym, ap, ◌∙◌}
use Prim.Native.Nat.{ℕ}
use Rattle.finite.specs.Search.{bit, count_below, few}
use Rattle.trial.specs.Trial.{fits_few}
use Rattle.trial.proofs.pattern.fits.Goals as goal

pub returns-then-not-has_sums : goal.returns-then-not-has_sums
unfolding fits_few
returns-then-not-has_sums c = let e = sym c.has_sums.ensures ∙ c.if-not-has_sums.true in rw e refl

pub returns : goal.returns
unfolding fits_few
returns c =
    let a = c.args in
    let e = sym c.has_sums.ensures ∙ c.if-not-has_sums.false in
    rw e (c.has_few.ensures ∙ ap (λ (z : ℕ). few a.t (count_below a.n (bit z))) c.from.ensures)
