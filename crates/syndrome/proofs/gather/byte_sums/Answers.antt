use mathlib.Core.Path.{◌≡◌, sym}
use Prim.Native.Nat.{◌+◌, ◌-◌, ◌≤◌, min}
use native.Mathlib.Omega.{arith}
use Rattle.syndrome.specs.Gather.{byte_sum, rows_at, columns_at}
use Rattle.syndrome.proofs.Part.{byte-light, byte-below, row-weight, column-weight, walk_first, walk-next, walk_here}
use Rattle.syndrome.proofs.gather.byte_sums.Goals as goal

pub returns-then-x-eq0 : goal.returns-then-x-eq0
returns-then-x-eq0 c =
    let e = c.if-x-eq0.true in
    record {
      row = rw e (sym (byte-light _ _ _));
      column = rw e (sym (byte-light _ _ _));
      row_below = omega arith;
      column_below = omega arith;
    }

pub loop-t-init : goal.loop-t-init
loop-t-init c = rw c.from-rest.ensures (walk_first _ _ _ _ _ _ _)

pub bounds-columns-k : goal.bounds-columns-k
bounds-columns-k c =
    let here = walk_here _ _ _ _ _ _ _ _ _ _ _ _ _ _ c.requires.words c.loop-t.invariant (omega arith) in omega (arith, here)

pub loop-t-preserved : goal.loop-t-preserved
loop-t-preserved c = walk-next _ _ _ _ _ _ _ _ _ _ _ _ _ _ c.loop-t.invariant c.after-place.ensures

pub returns : goal.returns
returns c =
    let v = c.loop-t.invariant in
    let a = c.args in
    let W = c.requires.words in
    let n = min 8 (a.n2 - a.j) in
    let e : c.loop-t._t ≡ n = omega arith in
    let l : a.j + n ≤ a.n2 = omega arith in
    let row : c.loop-t.row ≡ byte_sum (rows_at a.b2 a.rows.now) a.x a.j n = rw (← e) v.row_is in
    let column : c.loop-t.column ≡ byte_sum (columns_at a.b1 a.q a.columns.now) a.x a.j n = rw (← e) v.column_is in
    record {
      row = row;
      column = column;
      row_below = rw row (byte-below _ _ _ 32 n (λ t lt. row-weight _ _ _ _ _ _ W _));
      column_below = rw column (byte-below _ _ _ 32 n (λ t lt. column-weight _ _ _ _ _ _ W _ (omega arith)));
    }
