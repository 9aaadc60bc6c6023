-- `answer::pack` meets its contract: the fields are in range, so the sum does not wrap. Assumes nothing.
use mathlib.Core.Path.{◌≡◌, ap}
use mathlib.Core.Bool.{cond}
use Prim.Native.Nat.{ℕ, ◌+◌, ◌*◌}
use native.Mathlib.Omega.{arith}
use lib.Dec.{eqb}
use Rattle.answer.specs.Answer.{Fields, fields_of, place_bits, report_bits, packed}
use Rattle.answer.proofs.Fields.{packed-below}
use Rattle.answer.proofs.pack.Goals as goal

-- the number, and what stands above it
joined : (f : Fields) (above : ℕ) → above ≡ cond (eqb f.number 0) (report_bits f) (place_bits f) → f.number + 32 * above ≡ packed f
unfolding packed
joined f above e = ap (λ (x : ℕ). f.number + 32 * x) e

pub overflow_mul-result : goal.overflow_mul-result
overflow_mul-result c =
    let f = fields_of c.args.a in
    omega (arith, joined f _ c.above.ensures, packed-below f c.requires)

pub overflow_add-result : goal.overflow_add-result
overflow_add-result c =
    let f = fields_of c.args.a in
    omega (arith, joined f _ c.above.ensures, packed-below f c.requires)

pub returns : goal.returns
returns c = joined (fields_of c.args.a) _ c.above.ensures
