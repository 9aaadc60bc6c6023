-- `accept::test::test` meets its contract: the conditions are asked for only where the rules of form hold. Assumes nothing.
use Rattle.plan.specs.Bytes.{code_of}
use Rattle.plan.proofs.Framing.{same-code, same-header}
use Rattle.plan.proofs.Forming.{formed}
use Rattle.plan.proofs.Sequence.{passed, refused, hands-on, stops, goes-on}
use Rattle.accept.proofs.Acceptance.{accepted-plan, accepted-with}
use Rattle.accept.specs.Verdict.{plan_verdict}
use Rattle.accept.proofs.test.test.Goals as goal

pub returns-in_err-view-clause-checked : goal.returns-in_err-view-clause-checked
unfolding plan_verdict
returns-in_err-view-clause-checked c =
    let s = c.from_residual.ensures.1 in
    record { verdict = stops _ _ _ s c.in_err-view.ensures.told; unpacked = λ z. absurd (refused _ _ s z) }

pub conditions_verdict-requires : goal.conditions_verdict-requires
conditions_verdict-requires c =
    rw (same-code c.in_ok-view.view.framed c.in_ok-view.ensures.view) (formed c.args.plan.now (passed c.in_ok-view.ensures.told)).1

pub returns-in_err-conditions_verdict-clause-checked : goal.returns-in_err-conditions_verdict-clause-checked
unfolding plan_verdict
returns-in_err-conditions_verdict-clause-checked c =
    let s = c.from_residual-in_err-conditions_verdict.ensures.1 in
    let e = same-code c.in_ok-view.view.framed c.in_ok-view.ensures.view in
    record {
      verdict = goes-on c.in_ok-view.ensures.told (rw (← e) (hands-on _ _ s c.in_err-conditions_verdict.ensures.told));
      unpacked = λ z. absurd (refused _ _ s z);
    }

pub invariant_of-result : goal.invariant_of-result
unfolding plan_verdict
invariant_of-result c =
    let v = c.in_ok-view.view in
    let e = c.in_ok-view.ensures.view in
    let t = goes-on c.in_ok-view.ensures.told (rw (← same-code v.framed e) c.in_ok-conditions_verdict.ensures.told) in
    record { accepted = accepted-with _ _ v.framed.is (rw e (accepted-plan _ (passed t))) }

pub returns-clause-checked : goal.returns-clause-checked
unfolding plan_verdict
returns-clause-checked c =
    let v = c.in_ok-view.view in
    let e = same-code v.framed c.in_ok-view.ensures.view in
    record {
      verdict = goes-on c.in_ok-view.ensures.told (rw (← e) c.in_ok-conditions_verdict.ensures.told);
      unpacked = λ _. rw (← same-header v.framed c.in_ok-view.ensures.view, ← c.in_ok-view.ensures.view) c.in_ok-conditions_verdict.ensures.words;
    }
