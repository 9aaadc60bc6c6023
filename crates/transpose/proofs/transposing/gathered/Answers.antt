use mathlib.Core.Path.{◌≡◌, refl, ap, ap₂, ◌∙◌}
use Prim.Native.Nat.{ℕ, ◌+◌, ◌<◌}
use native.Mathlib.Omega.{arith}
use Rattle.finite.specs.Search.{number_of}
use Rattle.layout.specs.Cells.{sheet_bytes, byte_of}
use Rattle.layout.proofs.Form.{byte_inside}
use Rattle.transpose.proofs.Transposed.{gathered-more, gathered-fits, byte_next, byte_fits}
use Rattle.transpose.proofs.transposing.gathered.Goals as goal

pub loop-t-init : goal.loop-t-init
unfolding number_of
loop-t-init c =
    let a = c.args in
    let e : a.i ≡ a.i + 0 = omega arith in
    (refl, c.byte_of-k.ensures ∙ ap (λ (x : ℕ). byte_of a.n2 x a.j) e)

pub loop-t-preserved : goal.loop-t-preserved
loop-t-preserved c =
    let a = c.args in
    let l = c.loop-t in (
      gathered-more a.n2 a.source.now a.i a.j l.t l.k l.number l.invariant.0 l.invariant.1 (omega arith),
      ap₂ ◌+◌ l.invariant.1 c.row_bytes-size.ensures ∙ byte_next _ _ _ _,
    )

pub byte_of-k-requires : goal.byte_of-k-requires
byte_of-k-requires c = (omega arith, byte_fits _ _ _ (omega arith) (omega arith) (omega arith))

pub bounds-source-k : goal.bounds-source-k
bounds-source-k c =
    let a = c.args in
    let t = c.loop-t.t in
    let l : byte_of a.n2 (a.i + t) a.j < sheet_bytes (a.i + a.count) a.n2 = byte_inside _ _ (omega arith) _ _ (omega arith) in
    omega arith

pub overflow_add-number : goal.overflow_add-number
overflow_add-number c =
    let a = c.args in
    let l = c.loop-t in
    record { fits = gathered-fits a.n2 a.source.now a.i a.j l.t l.k l.number l.invariant.0 l.invariant.1 (omega arith) }

pub overflow_add-k : goal.overflow_add-k
overflow_add-k c =
    let a = c.args in
    let t = c.loop-t.t in
    let e = byte_next a.n2 a.i t a.j in
    let l = byte_fits a.n2 (a.i + (t + 1)) a.j (omega arith) (omega arith) (omega arith) in
    omega arith
