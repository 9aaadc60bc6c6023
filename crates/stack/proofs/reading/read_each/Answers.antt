use mathlib.Core.Path.{◌≡◌, sym, ap, ◌∙◌}
use mathlib.Core.List.{List}
use Prim.Native.Nat.{ℕ, suc, ◌<◌}
use native.Mathlib.Numerals.{add-one}
use native.Mathlib.Omega.{arith}
use Rattle.plan.specs.declared.header.Header.{Header}
use Rattle.plan.specs.Header.{Framed}
use Rattle.plan.specs.Bytes.{code_of, code_with}
use Rattle.plan.proofs.Framing.{framed-code}
use Rattle.stackform.specs.Stack.{sheet_count}
use Rattle.stack.specs.ReadStack.{Lent, each_read}
use Rattle.stack.specs.Step.{Sized, stepped, partly}
use Rattle.stack.proofs.Steps.{partly_none, partly-next, partly-all}
use Rattle.stack.proofs.reading.read_each.Goals as goal

-- the steps over what the function was given
module _ (plan : List ℕ) (h : Header) (count : ℕ) (given : Lent) (framed : Framed plan h) (sized : Sized (code_with plan h) count given) where
  abbrev done : ℕ → Lent
  done i = partly plan (code_with plan h) count i given

  is : code_with plan h ≡ code_of plan
  is = framed-code _ _ framed

  first : given ≡ done 0
  first = partly_none plan (code_with plan h) is count given sized

  next : (i : ℕ) → i < count → stepped plan (code_with plan h) count i (done i) ≡ done (suc i)
  next = partly-next plan (code_with plan h) is count given sized

  all : count ≡ sheet_count given.stack → done count ≡ each_read plan given.stack given.bits
  all = partly-all plan (code_with plan h) is count given sized

pub loop-i-init : goal.loop-i-init
loop-i-init c =
    let p = c.requires in
    first c.args.accepted.view.plan.now c.args.accepted.view.header c.args.count _ c.args.accepted.accepted.framed p.sized

pub loop-i-preserved : goal.loop-i-preserved
loop-i-preserved c =
    let o = c.loop-i in
    let p = c.requires in
    let a = c.args in
    c.read_at.ensures
    ∙ ap (stepped a.accepted.view.plan.now (code_with a.accepted.view.plan.now a.accepted.view.header) a.count o.i) o.invariant
    ∙ next a.accepted.view.plan.now a.accepted.view.header a.count _ c.args.accepted.accepted.framed p.sized o.i (omega arith)
    ∙ ap (done a.accepted.view.plan.now a.accepted.view.header a.count _ c.args.accepted.accepted.framed p.sized) (sym (add-one o.i))

pub returns : goal.returns
returns c =
    let o = c.loop-i in
    let p = c.requires in
    let a = c.args in
    let e : o.i ≡ a.count = omega arith in
    o.invariant ∙ ap (done a.accepted.view.plan.now a.accepted.view.header a.count _ c.args.accepted.accepted.framed p.sized) e
    ∙ all a.accepted.view.plan.now a.accepted.view.header a.count _ c.args.accepted.accepted.framed p.sized p.count_bound.1
