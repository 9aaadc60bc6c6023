-- `maker::parameters::given_checks` meets its contract: each check is asked for only where those before it passed. Assumes nothing.
use mathlib.Core.Path.{◌≡◌, ap, ◌∙◌}
use Rattle.plan.specs.Header.{ruled}
use Rattle.plan.specs.Form.{sizes_verdict, offsets_verdict}
use Rattle.plan.proofs.Sequence.{passed, refused, hands-on}
use Rattle.plan.proofs.Framing.{sizes-small}
use Rattle.maker.specs.Make.{numbers_of, header_for, polynomials_verdict}
use Rattle.maker.proofs.Given.{sizes-good, at-sizes, at-offsets, at-polynomials}
use Rattle.maker.proofs.parameters.given_checks.Goals as goal

pub returns-in_err-sizes_verdict : goal.returns-in_err-sizes_verdict
returns-in_err-sizes_verdict c =
    let s = c.from_residual.ensures.1 in
    at-sizes _ _ (hands-on _ _ s (c.in_err-sizes_verdict.ensures ∙ ap sizes_verdict c.numbers-h.ensures)) (refused _ _ s)

pub ruled-requires : goal.ruled-requires
ruled-requires c = sizes-small _ (passed c.in_ok-sizes_verdict.ensures)

pub offsets_verdict-requires : goal.offsets_verdict-requires
offsets_verdict-requires c =
    rw (c.ruled.ensures, c.numbers-h.ensures) (sizes-good c.args.g (passed (rw c.numbers-h.ensures at c.in_ok-sizes_verdict.ensures)))

pub returns-in_err-offsets_verdict : goal.returns-in_err-offsets_verdict
returns-in_err-offsets_verdict c =
    let s = c.from_residual-in_err-offsets_verdict.ensures.1 in
    let sized = passed (rw c.numbers-h.ensures at c.in_ok-sizes_verdict.ensures) in
    let h : c.ruled.result ≡ header_for c.args.g = c.ruled.ensures ∙ ap ruled c.numbers-h.ensures in
    at-offsets _ _ sized (hands-on _ _ s (rw h at c.in_err-offsets_verdict.ensures)) (refused _ _ s)

pub bad_polynomial-requires : goal.bad_polynomial-requires
unfolding ruled
bad_polynomial-requires c =
    (sizes-good c.args.g (passed (rw c.numbers-h.ensures at c.in_ok-sizes_verdict.ensures))).rv_most

pub bad_polynomial-requires-2 : goal.bad_polynomial-requires-2
unfolding ruled
bad_polynomial-requires-2 c =
    (sizes-good c.args.g (passed (rw c.numbers-h.ensures at c.in_ok-sizes_verdict.ensures))).rh_most

pub returns : goal.returns
unfolding polynomials_verdict
returns c =
    let sized = passed (rw c.numbers-h.ensures at c.in_ok-sizes_verdict.ensures) in
    let h : c.ruled.result ≡ header_for c.args.g = c.ruled.ensures ∙ ap ruled c.numbers-h.ensures in
    rw (c.refuse_if.ensures, c.bad_polynomial.ensures, c.bad_polynomial-2.ensures)
    (at-polynomials _ _ sized (passed (rw h at c.in_ok-offsets_verdict.ensures)))
