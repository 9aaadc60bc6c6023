use mathlib.Core.List.{[]}
use mathlib.Core.Path.{◌≡◌, sym, ◌∙◌}
use native.Mathlib.Numerals.{add-one}
use native.Mathlib.Omega.{arith}
use borrow.Author.Rules.{rules}
use lib.ListN.{length, length-set}
use lib.Seq.{take-suc-set}
use Rattle.gf2.specs.Xor.{◌⊕◌}
use Rattle.gf2.proofs.Keeping.{keeping_start, keeping-next, keeping-stop, keeping-end, last-start, last-next, swept-last}
use Rattle.gf2.proofs.keep.Goals as goal

pub loop-i-init : goal.loop-i-init
loop-i-init c = (omega arith, search rules, last-start [], keeping_start _)

pub returns-then-residue-eq0 : goal.returns-then-residue-eq0
unfolding ◌⊕◌
returns-then-residue-eq0 c =
    let a = c.loop-i in
    let e = swept-last a.kept a.older a.last a.i _ a.invariant.2 c.sweep_pairs-swept.ensures c.min-residue.ensures in
    record {
      size = a.invariant.1;
      count = sym (keeping-stop _ _ a.i a.invariant.3 (omega arith) (sym e ∙ c.if-residue-eq0.true));
      words = a.invariant.3.words;
    }

pub loop-i-preserved : goal.loop-i-preserved
unfolding ◌⊕◌
loop-i-preserved c =
    let a = c.loop-i in
    let left = c.min-residue.result in
    let e = swept-last a.kept a.older a.last a.i _ a.invariant.2 c.sweep_pairs-swept.ensures c.min-residue.ensures in
    let k = keeping-next _ _ a.i a.invariant.3 (omega arith) (λ z. c.if-residue-eq0.false (e ∙ z)) in (
      omega arith,
      length-set a.kept a.i left ∙ a.invariant.1,
      last-next a.kept a.i left (omega arith),
      rw (add-one, take-suc-set a.kept a.i left (omega arith), e) k,
    )

pub returns : goal.returns
returns c =
    let a = c.loop-i in
    let e : a.i ≡ length c.args.members.now = omega arith in
    rw (← e)
    (record {
      size = a.invariant.1;
      count = sym (keeping-end _ _ a.i a.invariant.3 (omega arith));
      words = a.invariant.3.words;
    })
