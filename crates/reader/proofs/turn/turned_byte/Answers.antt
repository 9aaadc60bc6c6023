use mathlib.Core.Path.{◌≡◌, refl, ap, ◌∙◌}
use Prim.Native.Nat.{ℕ, ◌+◌, ◌*◌}
use native.Mathlib.Omega.{arith}
use lib.ListN.{get_or}
use Rattle.finite.specs.Search.{bit}
use Rattle.layout.specs.declared.stored.Layout.TheVariants.{ByRow}
use Rattle.reader.specs.Turn.{digits_turned, box_turned}
use Rattle.reader.proofs.Turned.{digit-byte, rows-most, byte-none, byte_next, byte_above, byte-below}
use Rattle.reader.proofs.turn.turned_byte.Goals as goal

pub overflow_mul-top : goal.overflow_mul-top
overflow_mul-top c =
    let p = c.requires in
    omega (arith, rows-most _ _ _ _ _ _ p.burst_size.b2_pos p.rectangle c.args.top _ c.row_bytes-size.ensures (omega arith))

pub returns-then-k-top : goal.returns-then-k-top
returns-then-k-top c =
    let p = c.requires in
    byte_above _ _ _ _ _ _ _ _ _ p.burst_size.b2_pos p.rectangle p.k_in_bounds (rw (← c.row_bytes-size.ensures) c.if-k-top.true)

pub overflow_mul-top-2 : goal.overflow_mul-top-2
overflow_mul-top-2 c =
    let p = c.requires in
    omega (arith, rows-most _ _ _ _ _ _ p.burst_size.b2_pos p.rectangle (c.args.top + c.args.b1) _ c.row_bytes-size.ensures (omega arith))

pub returns-then-top-b1 : goal.returns-then-top-b1
returns-then-top-b1 c =
    let p = c.requires in
    byte-below _ _ _ _ _ _ _ _ _ p.burst_size.b2_pos p.rectangle p.k_in_bounds (rw (← c.row_bytes-size.ensures) c.if-top-b1.true)

pub loop-m-init : goal.loop-m-init
loop-m-init c = byte-none _ _ _ _ _ _ _ _

pub byte_turned-y-requires : goal.byte_turned-y-requires
byte_turned-y-requires c =
    let a = c.args in
    let p = c.requires in
    let b = digit-byte _ _ _ _ _ _ p.burst_size.b2_pos p.rectangle c.loop-m.m c.loop-m-test.true in
    let q = rows-most _ _ _ _ _ _ p.burst_size.b2_pos p.rectangle (a.top + a.b1) _ refl (omega arith) in
    let m = p.rectangle.n2_most in
    (omega arith, omega arith)

pub loop-m-preserved : goal.loop-m-preserved
unfolding bit
loop-m-preserved c = byte_next _ _ _ _ _ _ _ _ c.requires.k_in_bounds _ _ _ c.loop-m.invariant c.byte_turned-y.ensures

pub returns : goal.returns
unfolding box_turned
returns c =
    let a = c.args in
    let e : c.loop-m.m ≡ a.b1 * a.b2 = omega arith in
    c.loop-m.invariant ∙ ap (λ (n : ℕ). get_or (digits_turned ByRow a.n1 a.n2 a.sheet.now a.top a.left a.b2 a.x n) a.k 0) e
