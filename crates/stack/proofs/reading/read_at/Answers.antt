-- `stack::reading::read_at` meets its contract: the three places of sheet i lie in their buffers, and only they are written. Assumes nothing.
use mathlib.Core.Path.{◌≡◌, refl, ap, ◌∙◌}
use Prim.Native.Nat.{ℕ, ◌+◌, ◌*◌, ◌≤◌}
use native.Mathlib.Nat.{mul-le-mul}
use native.Mathlib.Omega.{arith}
use lib.ListN.{length}
use Rattle.stackform.specs.Stack.{header_end, sheet_place}
use Rattle.stackform.proofs.Parts.{part_length}
use Rattle.boxcode.proofs.Check.{checks-fit}
use Rattle.boxcode.specs.Check.{data_size}
use Rattle.plan.specs.Bytes.{code_with}
use Rattle.plan.proofs.Framing.{framed-code}
use Rattle.buffers.specs.Buffers.{numbers_size}
use Rattle.stack.specs.ReadStack.{sheet_size, data_bytes, lent}
use Rattle.stack.proofs.Steps.{sheet-inside, bits_inside}
use Rattle.stack.proofs.Places.{cut-part, step-taken}
use Rattle.stack.proofs.reading.read_at.Goals as goal

-- before the bounds, which a wrong place may keep: what is written where
pub returns : goal.returns
unfolding data_size
returns c =
    let place_is : let a = c.args in c.place-start.result ≡ sheet_place (sheet_size ((code_with c.args.accepted.view.plan.now c.args.accepted.view.header))) a.count a.i = let a = c.args in
    let e : c.place-start.result ≡ sheet_place c.sheet_bytes-size.result a.count a.i = c.place-start.ensures in
    e ∙ ap (λ (k : ℕ). sheet_place k a.count a.i) c.sheet_bytes-size.ensures.0 in
    let a = c.args in
    step-taken a.accepted.view.plan.now ((code_with c.args.accepted.view.plan.now c.args.accepted.view.header)) a.count a.i a.stack.now a.numbers.now a.bits.now _ _ _ place_is
    c.sheet_bytes-size.ensures.0 c.data_bytes-length.ensures.0 _ c.read_sheet.ensures

pub slice_bounds-read_sheet-end : goal.slice_bounds-read_sheet-end
slice_bounds-read_sheet-end c =
    let place_is : let a = c.args in c.place-start.result ≡ sheet_place (sheet_size ((code_with c.args.accepted.view.plan.now c.args.accepted.view.header))) a.count a.i = let a = c.args in
    let e : c.place-start.result ≡ sheet_place c.sheet_bytes-size.result a.count a.i = c.place-start.ensures in
    e ∙ ap (λ (k : ℕ). sheet_place k a.count a.i) c.sheet_bytes-size.ensures.0 in
    let sheet-in : sheet_place (sheet_size ((code_with c.args.accepted.view.plan.now c.args.accepted.view.header))) c.args.count c.args.i + sheet_size ((code_with c.args.accepted.view.plan.now c.args.accepted.view.header)) ≤ length c.args.stack.now = let p = c.requires in
    sheet-inside c.args.accepted.view.plan.now ((code_with c.args.accepted.view.plan.now c.args.accepted.view.header)) (framed-code _ _ c.args.accepted.accepted.framed) c.args.count ((lent c.args.stack.now c.args.numbers.now c.args.bits.now)) p.sized c.args.i p.count_bound.1 in
    let e : c.place-start.result + c.sheet_bytes-size.result ≤ length c.args.stack.now =
    (let s = sheet-in in omega (arith, place_is, c.sheet_bytes-size.ensures.0)) in
    e

pub slice_bounds-read_sheet-end-3 : goal.slice_bounds-read_sheet-end-3
unfolding data_size
slice_bounds-read_sheet-end-3 c =
    let bits_in : c.args.i * data_bytes ((code_with c.args.accepted.view.plan.now c.args.accepted.view.header)) + data_bytes ((code_with c.args.accepted.view.plan.now c.args.accepted.view.header)) ≤ length c.args.bits.now = let p = c.requires in
    bits_inside c.args.accepted.view.plan.now ((code_with c.args.accepted.view.plan.now c.args.accepted.view.header)) (framed-code _ _ c.args.accepted.accepted.framed) c.args.count ((lent c.args.stack.now c.args.numbers.now c.args.bits.now)) p.sized c.args.i p.count_bound.1 in
    rw c.data_bytes-length.ensures.0 bits_in

pub overflow_add-end : goal.overflow_add-end
unfolding header_end sheet_place
overflow_add-end c =
    let p = c.requires.count_bound in
    let l : c.args.i ≤ 64 = omega (arith, p.0, p.1) in
    let m = mul-le-mul l c.sheet_bytes-size.ensures.1 in
    omega (arith, c.place-start.ensures, c.sheet_bytes-size.ensures.1, p.0)

pub data_bytes-length-requires : goal.data_bytes-length-requires
data_bytes-length-requires c =
    let p = c.requires in
    record { small = c.args.accepted.accepted.framed.small; rh_bound = checks-fit _ c.args.accepted.accepted.formed }

pub overflow_mul-from : goal.overflow_mul-from
overflow_mul-from c =
    let from-most : c.args.i * c.data_bytes-length.result ≤ 64 * 45056 = let p = c.requires.count_bound in
    let l : c.args.i ≤ 64 = omega (arith, p.0, p.1) in
    mul-le-mul l c.data_bytes-length.ensures.1 in
    let m = from-most in omega arith

pub overflow_add-to : goal.overflow_add-to
overflow_add-to c =
    let from-most : c.args.i * c.data_bytes-length.result ≤ 64 * 45056 = let p = c.requires.count_bound in
    let l : c.args.i ≤ 64 = omega (arith, p.0, p.1) in
    mul-le-mul l c.data_bytes-length.ensures.1 in
    let m = from-most in omega (arith, c.data_bytes-length.ensures.1)

pub read_sheet-requires : goal.read_sheet-requires
unfolding data_size
read_sheet-requires c =
    let place_is : let a = c.args in c.place-start.result ≡ sheet_place (sheet_size ((code_with c.args.accepted.view.plan.now c.args.accepted.view.header))) a.count a.i = let a = c.args in
    let e : c.place-start.result ≡ sheet_place c.sheet_bytes-size.result a.count a.i = c.place-start.ensures in
    e ∙ ap (λ (k : ℕ). sheet_place k a.count a.i) c.sheet_bytes-size.ensures.0 in
    let sheet-in : sheet_place (sheet_size ((code_with c.args.accepted.view.plan.now c.args.accepted.view.header))) c.args.count c.args.i + sheet_size ((code_with c.args.accepted.view.plan.now c.args.accepted.view.header)) ≤ length c.args.stack.now = let p = c.requires in
    sheet-inside c.args.accepted.view.plan.now ((code_with c.args.accepted.view.plan.now c.args.accepted.view.header)) (framed-code _ _ c.args.accepted.accepted.framed) c.args.count ((lent c.args.stack.now c.args.numbers.now c.args.bits.now)) p.sized c.args.i p.count_bound.1 in
    let bits_in : c.args.i * data_bytes ((code_with c.args.accepted.view.plan.now c.args.accepted.view.header)) + data_bytes ((code_with c.args.accepted.view.plan.now c.args.accepted.view.header)) ≤ length c.args.bits.now = let p = c.requires in
    bits_inside c.args.accepted.view.plan.now ((code_with c.args.accepted.view.plan.now c.args.accepted.view.header)) (framed-code _ _ c.args.accepted.accepted.framed) c.args.count ((lent c.args.stack.now c.args.numbers.now c.args.bits.now)) p.sized c.args.i p.count_bound.1 in
    let p = c.requires in
    let a = c.args in
    let size = c.sheet_bytes-size.ensures.0 in
    let bits = c.data_bytes-length.ensures.0 in record {
      unpacked = p.unpacked;
      sheet_len = ap length (cut-part a.stack.now _ _ _ _ place_is size) ∙ part_length a.stack.now _ _ sheet-in;
      numbers_len = ap length (cut-part a.numbers.now (a.i * numbers_size) numbers_size (a.i * numbers_size) numbers_size refl refl)
          ∙ part_length a.numbers.now (a.i * numbers_size) numbers_size (omega (arith, p.count_bound.1, p.sized.numbers_len));
      bits_len = ap length (cut-part a.bits.now _ _ _ _ (ap (λ (k : ℕ). a.i * k) bits) bits) ∙ part_length a.bits.now _ _ bits_in;
    }
