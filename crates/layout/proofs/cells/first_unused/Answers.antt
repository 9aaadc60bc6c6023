use Rattle.std.proofs.Common.{◌≡◌, ℕ, ◌+◌, ◌-◌, ◌*◌, length, sym, ap, ◌∙◌, arith}
use native.Mathlib.Nat.{mul-zero}
use Rattle.std.proofs.lemmas.Nat.{one_shl}
use Rattle.finite.proofs.Search.{search-finds, search-ends}
use Rattle.layout.specs.Cells.{row_bytes, sheet_bytes, first_unused}
use Rattle.layout.proofs.Unused.{last-inside, last-bad, last-good, row_before, row_done}
use Rattle.layout.proofs.cells.first_unused.Goals as goal

pub returns-then-size-eq0 : goal.returns-then-size-eq0
unfolding first_unused sheet_bytes
returns-then-size-eq0 c =
    let a = c.args in
    let e : row_bytes a.n2 ≡ 0 = sym c.row_bytes-size.ensures ∙ c.if-size-eq0.true in
    let z : a.n1 * row_bytes a.n2 ≡ 0 = ap (λ (x : ℕ). a.n1 * x) e ∙ mul-zero a.n1 in
    search-ends _ _ 0 (omega arith) (omega arith) (λ k l. absurd (omega arith))

pub overflow_mul-limit : goal.overflow_mul-limit
unfolding row_bytes
overflow_mul-limit c = omega arith

pub overflow_sub-limit : goal.overflow_sub-limit
unfolding row_bytes
overflow_sub-limit c = omega arith

pub overflow_shl-limit : goal.overflow_shl-limit
unfolding row_bytes
overflow_shl-limit c = omega arith

pub overflow_mul-k : goal.overflow_mul-k
overflow_mul-k c = omega (arith, last-inside _ _ c.row_bytes-size.ensures (omega arith) _ _ c.loop-i-test.true)

pub overflow_add-k : goal.overflow_add-k
overflow_add-k c = omega (arith, last-inside _ _ c.row_bytes-size.ensures (omega arith) _ _ c.loop-i-test.true)

pub bounds-s-k : goal.bounds-s-k
bounds-s-k c = omega (arith, last-inside _ _ c.row_bytes-size.ensures (omega arith) _ _ c.loop-i-test.true)

pub returns-then-limit-from : goal.returns-then-limit-from
unfolding first_unused row_bytes
returns-then-limit-from c =
    let e = c.row_bytes-size.ensures in
    let l = c.loop-i in
    search-finds _ _ _ (last-inside _ _ e (omega arith) _ _ c.loop-i-test.true)
    (row_before _ _ e (omega arith) _ (λ k. (c.type_inv.s k).fits) l.i l.invariant)
    (last-bad _ _ e (omega arith) _ l.i (omega (arith, one_shl (c.args.n2 + 8 - 8 * c.row_bytes-size.result) 64 (omega arith))))

pub loop-i-preserved : goal.loop-i-preserved
unfolding row_bytes
loop-i-preserved c =
    let e = c.row_bytes-size.ensures in
    let l = c.loop-i in
    row_done _ _ e (omega arith) _ (λ k. (c.type_inv.s k).fits) l.i l.invariant
    (last-good _ _ e (omega arith) _ l.i (omega (arith, one_shl (c.args.n2 + 8 - 8 * c.row_bytes-size.result) 64 (omega arith))))

pub returns : goal.returns
unfolding first_unused sheet_bytes
returns c =
    let i : c.loop-i.i ≡ c.args.n1 = omega arith in
    let f : length c.args.s.now ≡ c.loop-i.i * c.row_bytes-size.result = rw (i, c.row_bytes-size.ensures) c.requires.1 in
    search-ends _ _ _ (omega arith) (omega arith) (λ k l. c.loop-i.invariant k (omega arith))
