use Rattle.std.proofs.Common.{◌≡◌, ◌-◌, sym, ◌∙◌, refl, arith, rules}
use Rattle.accept.specs.Pairs.{first_failing}
use Rattle.accept.proofs.Pairing.{rows_next, rows_end, row-then, row_told}
use Rattle.accept.proofs.few.all_pairs.Goals as goal

pub loop-i-init : goal.loop-i-init
loop-i-init c =
    let z : c.args.count - 0 ≡ c.args.count = omega arith in
    (c.requires.rest_len, rw z (unfold first_failing in refl))

pub loop-i-preserved : goal.loop-i-preserved
loop-i-preserved c =
    let l = c.loop-i in (
      search rules,
      l.invariant.1 ∙ rows_next _ _ _ l.i c.loop-i-test.true ∙ row-then _ _ _ _ _ (sym c.pairs_of.ensures ∙ c.in_default.is),
    )

pub returns-in-Some : goal.returns-in-Some
returns-in-Some c =
    let l = c.loop-i in
    sym (l.invariant.1 ∙ rows_next _ _ _ l.i c.loop-i-test.true ∙ row_told _ _ _ _ _ _ (sym c.pairs_of.ensures ∙ c.in-Some.is))

pub returns : goal.returns
returns c = sym (c.loop-i.invariant.1 ∙ rows_end _ _ _ c.loop-i.i c.loop-i-test.false)
