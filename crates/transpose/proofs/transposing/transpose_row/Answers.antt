use mathlib.Core.Path.{◌≡◌, ap, ◌∙◌}
use Prim.Native.Nat.{ℕ, ◌+◌, ◌-◌, ◌*◌, min}
use native.Mathlib.Omega.{arith}
use Rattle.finite.specs.Search.{number_of}
use Rattle.layout.specs.Cells.{row_bytes, cell_of}
use Rattle.transpose.proofs.Transposed.{rows-within, row-end, begun_more}
use Rattle.transpose.proofs.transposing.transpose_row.Goals as goal

pub loop-b-preserved : goal.loop-b-preserved
loop-b-preserved c =
    let a = c.args in
    let l = c.loop-b in
    let column : ℕ → ℕ = λ n. number_of n (λ u. cell_of a.n2 a.source.now (8 * l.b + u) a.j) in
    let gathers : c.gathered.result ≡ column c.min.result = c.gathered.ensures in
    let cells : c.min.result ≡ min 8 (a.n1 - 8 * l.b) = omega arith in
    rw c.row_bytes-size.ensures (begun_more _ _ _ _ _ _ _ l.invariant (gathers ∙ ap column cells) (omega arith) (omega arith))

-- row j of the target ends in the target, so its bytes have places that fit
pub overflow_mul-first : goal.overflow_mul-first
overflow_mul-first c =
    let a = c.args in
    let l = row-end a.n1 a.n2 a.j (omega arith) in
    rw c.row_bytes-size.ensures (omega arith)

pub overflow_mul-i : goal.overflow_mul-i
unfolding row_bytes
overflow_mul-i c = omega arith

pub overflow_sub-n1 : goal.overflow_sub-n1
unfolding row_bytes
overflow_sub-n1 c = omega arith

pub gathered-requires : goal.gathered-requires
unfolding row_bytes
gathered-requires c =
    let a = c.args in
    let all = rows-within a.n2 (8 * c.loop-b.b + c.min.result) a.n1 (omega arith) in
    record { n2_bound = (omega arith, omega arith, omega arith, omega arith); n2_in_bounds = omega arith }

pub overflow_add-target : goal.overflow_add-target
overflow_add-target c =
    let a = c.args in
    let l = row-end a.n1 a.n2 a.j (omega arith) in
    rw c.row_bytes-size.ensures (omega arith)

pub bounds-target-first : goal.bounds-target-first
bounds-target-first c =
    let a = c.args in
    let l = row-end a.n1 a.n2 a.j (omega arith) in
    rw c.row_bytes-size.ensures (omega arith)
