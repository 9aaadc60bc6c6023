-- `accept::conditions::lines_verdict` meets its contract: a search on the first words is one on the words. Assumes nothing.
use mathlib.Core.Path.{sym, ap, ◌∙◌}
use Prim.Native.Nat.{ℕ, ◌+◌, ◌-◌, ◌*◌}
use native.Mathlib.Nat.{mul-le-mul_right, suc-mul, zero-mul}
use native.Mathlib.Omega.{arith}
use lib.ListN.{take}
use lib.Seq.{length-take-le, get_or-take}
use Rattle.plan.specs.Table.{word_at}
use Rattle.accept.specs.Pairs.{first_failing, pair_verdict}
use Rattle.accept.specs.Windows.{table_pass, start_of, condition_number}
use Rattle.accept.proofs.Tables.{taken-small, windows-equal}
use Rattle.accept.proofs.conditions.lines_verdict.Goals as goal

pub slice_bounds-failing-end : goal.slice_bounds-failing-end
slice_bounds-failing-end c =
    let w = c.requires.le_burst.2 in
    sym (length-take-le _ _ (omega arith))

pub slice_bounds-failing-end-3 : goal.slice_bounds-failing-end-3
slice_bounds-failing-end-3 c =
    let w = c.requires.le_burst.2 in
    sym (length-take-le _ _ (omega arith))

pub failing-requires : goal.failing-requires
failing-requires c =
    let w = c.requires.le_burst.2 in
    let long = length-take-le (c.args.lines * c.args.step) c.args.words.now (omega (arith, w.few)) in
    let one = mul-le-mul_right c.args.step c.requires.le_burst.0 in record { windows = (rw long w, length-take-le _ _ (omega (arith, w.few)) ∙ sym long); step_le_size = (omega (arith, one, suc-mul 0 c.args.step, zero-mul c.args.step), c.requires.le_burst.3, taken-small _ _ (omega (arith, w.few)) c.requires.entries32) }

pub returns : goal.returns
returns c =
    let a = c.args in
    let n = a.lines * a.step in
    c.pair_refusal.ensures
    ∙ ap (pair_verdict (condition_number a.t))
    (c.failing.ensures
    ∙ ap (λ (x : ℕ). first_failing (table_pass a.t (word_at (take n a.words.now)) a.most x a.step (a.burst * a.step)) (start_of a.t)
    (a.lines - a.burst + 1))
    (length-take-le n a.words.now (omega (arith, c.requires.le_burst.2.few)))
    ∙ windows-equal (word_at (take n a.words.now)) (word_at a.words.now) n (λ k l. get_or-take n a.words.now k 0 l) a.t a.most a.step
    (a.burst * a.step) (a.lines - a.burst + 1) c.requires.le_burst.2)
